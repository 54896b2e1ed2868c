use Rattle.std.proofs.Common.{◌≡◌, ℕ, List, drop, length, ◌-◌}
use Rattle.mysql_named_params.specs.Reading.{OnTokensIn}
use Rattle.mysql_binding.specs.FoundPlaces.{BeginWithPlaces}
use Rattle.mysql_binding.proofs.NameListLemmas.{ListedSoFar}
use Rattle.mysql_flat_params.proofs.PlacedLemmas.{IsFoundSoFar}
use Rattle.mysql_flat_params.proofs.placed.named_fragments.Given as goal

abbrev pub invariant-loop-rest : goal.invariant-loop-rest
invariant-loop-rest l =
    ((names : List (List ℕ)) × ListedSoFar l.surveyed.reading l.surveyed.query.now l.rest l.count names
    × (length names ≡ length l.list.items) × IsFoundSoFar l.entries.entries names l.list.items)
    × OnTokensIn l.surveyed.reading l.rest (BeginWithPlaces (drop (length l.list.items) l.surveyed.known.now))

abbrev pub decreases-loop-rest : goal.decreases-loop-rest
decreases-loop-rest l = l.count - length l.list.items
