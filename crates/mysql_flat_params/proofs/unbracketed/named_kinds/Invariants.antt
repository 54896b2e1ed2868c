use Rattle.std.proofs.Common.{◌≡◌, ℕ, List, drop, length, map, ◌-◌}
use Rattle.mysql_named_params.specs.Reading.{OnTokensIn}
use Rattle.mysql_binding.specs.FoundPlaces.{BeginWithPlaces}
use Rattle.mysql_binding.proofs.NameListLemmas.{ListedSoFar}
use Rattle.mysql_flat_params.specs.KindsInPlace.{kind_under}
use Rattle.mysql_flat_params.proofs.unbracketed.named_kinds.Given as goal

abbrev pub invariant-loop-rest : goal.invariant-loop-rest
invariant-loop-rest l =
    ((names : List (List ℕ)) × ListedSoFar l.surveyed.reading l.surveyed.query.now l.rest l.count names
    × (l.list.items ≡ map (kind_under l.by_name.entries) names))
    × OnTokensIn l.surveyed.reading l.rest (BeginWithPlaces (drop (length l.list.items) l.surveyed.known.now))

abbrev pub decreases-loop-rest : goal.decreases-loop-rest
decreases-loop-rest l = l.count - length l.list.items
