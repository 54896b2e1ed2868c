use Rattle.mysql_bind_core.proofs.WrittenValueLemmas.{plain_values, steady_values, text_of_assigned}
use Rattle.mysql_bind_core.proofs.laws.values.values_are_bound.Goals as goal

pub returns : goal.returns
returns c = record {
  plain = λ mode request query text assignments e none w.
      let x = text_of_assigned request query assignments text w.taken.steady none w.assigned in
      (x.pairs, x.given, x.pairs_are, x.given_is, plain_values mode request.literals query text x.given e x.bound);
  steady = λ request query text assignments e none w.
      let x = text_of_assigned request query assignments text w.taken.steady none w.assigned in
      (x.pairs, x.given, x.pairs_are, x.given_is, steady_values request.literals query text x.given e x.bound);
}
