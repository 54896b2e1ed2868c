use Rattle.mysql_named_params.specs.Places.{names}
use Rattle.mysql_fragments.specs.GivenFragments.{named}
use Rattle.mysql_bind_core.specs.Entries.{given_to}
use Rattle.mysql_bind_core.proofs.AnyServerLemmas.{anywhere_fragments, anywhere_values}
use Rattle.mysql_bind_core.proofs.laws.values.texts_for_any_server.Goals as goal

pub returns : goal.returns
returns c = record {
  values = λ request query text assignments e p none w.
      let x = c.values_are_bound.ensures.steady request query text assignments e none w in
      (x.0, x.1, x.2, x.3, anywhere_values request query text w.taken e p x.1 x.4);
  fragments = λ request query text assignments e p w.
      anywhere_fragments request query text w.taken e p (λ ts. given_to assignments w.assigned.entries (names ts))
      (c.fragments_are_bound.ensures.steady request query text assignments e w);
  rows = λ query fixed rows text e p w.
      anywhere_fragments query.request query.query text w.taken e p (λ ts. named w.text_is.entries)
      (c.fragments_are_bound.ensures.steady_rows query fixed rows text e w);
}
