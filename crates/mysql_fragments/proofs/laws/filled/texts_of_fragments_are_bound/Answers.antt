use Rattle.mysql_fragments.proofs.TextOfFragmentsLemmas as lemmas
use Rattle.mysql_fragments.proofs.laws.filled.texts_of_fragments_are_bound.Goals as goal

pub returns : goal.returns
returns c = record {
  plain = lemmas.plain_bound;
  plain_filled = lemmas.plain_filled;
  steady = lemmas.steady_bound;
  steady_filled = lemmas.steady_filled;
}
