use Rattle.mysql_portable.proofs.QuietLemmas.{portable_read, read_names, read_marks, read_positions}
use Rattle.mysql_portable.proofs.laws.same_places.Goals as goal

pub returns : goal.returns
returns c = record {
  names = λ server mode query ts us honest h p u. read_names (portable_read server mode query ts us honest h p u);
  marks = λ server mode query ts us honest h p u. read_marks (portable_read server mode query ts us honest h p u);
  positions = λ server mode query ts us honest h p u. read_positions (portable_read server mode query ts us honest h p u) 0;
}
