use Rattle.mysql_fragments.proofs.ValueFragmentLemmas as lemmas
use Rattle.mysql_fragments.proofs.laws.values_bind_as_text.Goals as goal

pub returns : goal.returns
returns c = record {
  text = lemmas.same_text;
  causes = lemmas.same_first_cause;
}
