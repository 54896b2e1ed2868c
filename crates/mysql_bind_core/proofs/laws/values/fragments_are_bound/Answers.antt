use Rattle.mysql_named_params.specs.Places.{names}
use Rattle.mysql_fragments.specs.GivenFragments.{named}
use Rattle.mysql_bind_core.specs.Entries.{given_to}
use Rattle.mysql_bind_core.proofs.AnyServerLemmas.{plain_fragments, steady_fragments}
use Rattle.mysql_bind_core.proofs.laws.values.fragments_are_bound.Goals as goal

pub returns : goal.returns
returns c = record {
  plain = λ mode request query text assignments e w.
      plain_fragments request.literals query text (λ ts. given_to assignments w.assigned.entries (names ts)) w.assigned.bound mode e;
  steady = λ request query text assignments e w.
      steady_fragments request.literals query text (λ ts. given_to assignments w.assigned.entries (names ts)) w.assigned.bound e;
  plain_rows = λ mode query fixed rows text e w.
      plain_fragments query.request.literals query.query text (λ ts. named w.text_is.entries) w.text_is.bound mode e;
  steady_rows = λ query fixed rows text e w.
      steady_fragments query.request.literals query.query text (λ ts. named w.text_is.entries) w.text_is.bound e;
}
