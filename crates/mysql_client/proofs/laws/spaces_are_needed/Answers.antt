use Rattle.mysql_client.proofs.SharpLemmas as lemmas
use Rattle.mysql_client.proofs.laws.spaces_are_needed.Goals as goal

pub returns : goal.returns
returns c = record {
  nothing_at_hint = lemmas.nothing_at_hint;
  hint = lemmas.hint;
  nothing_after_end = lemmas.nothing_after_end;
  joining_after_end = lemmas.joining_after_end;
}
