use Rattle.std.proofs.Common.{ℕ, List, length, map, ◌-◌, drop}
use Rattle.mysql_named_params.specs.Reading.{OnTokensIn}
use Rattle.mysql_params_core.specs.Given.{named}
use Rattle.mysql_binding.specs.FoundPlaces.{BeginWithPlaces}
use Rattle.mysql_binding.proofs.FoundValueLemmas.{AreLookedUp}
use Rattle.mysql_binding.proofs.NameListLemmas.{ListedSoFar}
use Rattle.mysql_binding.proofs.binding.found.values_in.Given as goal

-- the names so far, which no list has in memory, and their values
abbrev pub invariant-loop-rest : goal.invariant-loop-rest
invariant-loop-rest g l =
    ((list : List (List ℕ)) × ListedSoFar l.surveyed.reading l.surveyed.query.now l.rest l.count list
    × AreLookedUp (named (g.M.KeptValues.values l.entries)) list (map (g.M.KeptValues.value l.entries) l.kept.items))
    × OnTokensIn l.surveyed.reading l.rest (BeginWithPlaces (drop (length l.kept.items) l.surveyed.known.now))

abbrev pub decreases-loop-rest : goal.decreases-loop-rest
decreases-loop-rest g l = l.count - length l.kept.items
