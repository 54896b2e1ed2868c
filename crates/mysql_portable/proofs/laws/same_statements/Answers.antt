use Rattle.mysql_portable.proofs.QuietLemmas.{portable_read}
use Rattle.mysql_portable.proofs.StatementLemmas.{read_statements}
use Rattle.mysql_portable.proofs.laws.same_statements.Goals as goal

pub returns : goal.returns
returns c = record {
  count = λ server mode query ts us honest h p u. read_statements (portable_read server mode query ts us honest h p u);
}
