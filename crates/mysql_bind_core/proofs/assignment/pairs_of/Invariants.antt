use Rattle.std.proofs.Common.{◌≡◌, ◌++◌, drop, map}
use Rattle.std.specs.Prelude.{option_map}
use Rattle.mysql_bind_core.specs.Assignments.{pairs_of}
use Rattle.mysql_query_core.specs.WordErrors.{seen_pair}
use Rattle.mysql_bind_core.proofs.assignment.pairs_of.Given as goal

-- what is found of all assignments is what was found, and before what is left to find
abbrev pub invariant-loop-assignment : goal.invariant-loop-assignment
invariant-loop-assignment l =
    pairs_of l.assignments
    ≡ option_map (λ rest. map seen_pair l.pairs.items ++ rest) (pairs_of (drop l.assignment-index l.assignments))
