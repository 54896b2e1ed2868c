use Rattle.std.proofs.Common.{subst, ◌∙◌}
use Rattle.mysql_flat_params.specs.FormInPlace.{IsGivenAs}
use Rattle.mysql_flat_params.proofs.FragmentsInPlaceLemmas.{name_mixed, some_of}
use Rattle.mysql_flat_params.proofs.fragments_in_place.name_error.Goals as goal

pub returns-else-is_empty-2-clause-refusal : goal.returns-else-is_empty-2-clause-refusal
returns-else-is_empty-2-clause-refusal c = λ given g.
    name_mixed c.in-Positional.list.items _ _ _ given _ (subst (λ k. IsGivenAs k given) c.in-Positional.is g)
    (λ none. some_of _ _ c.is_empty.ensures c.if-is_empty.false (c.in-Positional.list.ok.0 ∙ none))
    (some_of _ _ c.is_empty-in-Positional.ensures c.if-is_empty-2.false)
