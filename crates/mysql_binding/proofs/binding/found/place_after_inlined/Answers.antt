use Rattle.std.proofs.Common.{refl}
use Rattle.mysql_named_params.proofs.FoundPlaceLemmas.{found_in_range_in}
use Rattle.mysql_binding.proofs.FoundPlacesLemmas.{found_before, none_after, places_after}
use Rattle.mysql_binding.proofs.binding.found.place_after_inlined.Goals as goal

pub returns-then-i-known-clause-place : goal.returns-then-i-known-clause-place
returns-then-i-known-clause-place c = found_before _ _ _ _ c.requires _ _ c.if-i-known.true refl

pub returns-then-i-known-clause-in_range : goal.returns-then-i-known-clause-in_range
returns-then-i-known-clause-in_range c = found_in_range_in _ _ _ (found_before _ _ _ _ c.requires _ _ c.if-i-known.true refl)

pub returns-then-i-known-clause-next : goal.returns-then-i-known-clause-next
returns-then-i-known-clause-next c = places_after _ _ _ _ c.requires _ _ c.if-i-known.true refl

pub returns-in-Some-clause-next : goal.returns-in-Some-clause-next
returns-in-Some-clause-next c = none_after _ _ _ _ c.requires _ c.if-i-known.false c.in-Some.ensures.place
