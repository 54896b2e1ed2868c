use Rattle.mysql_fragments.proofs.TextOfFragmentsLemmas as lemmas
use Rattle.mysql_fragments.proofs.laws.filled.texts_of_fragments_have_shapes.Goals as goal

pub returns : goal.returns
returns c = record {
  plain = λ mode ts given text x. lemmas.plain_shapes ts given x.fragments x.given_to_places x.no_cause mode x.in_range;
  plain_alone = λ mode ts given text x. lemmas.places_alone ts given x.fragments x.given_to_places x.no_cause;
  steady = λ mode ts given text x. lemmas.steady_shapes ts given x.fragments x.given_to_places x.no_cause mode x.in_range;
  steady_alone = λ ts given text x. lemmas.places_alone ts given x.fragments x.given_to_places x.no_cause;
  each_steady = lemmas.fragments_steady;
}
