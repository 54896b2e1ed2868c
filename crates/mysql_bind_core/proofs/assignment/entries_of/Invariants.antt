use Rattle.std.proofs.Common.{◌≡◌, ◌++◌, map, Ok}
use Rattle.std.specs.Vec.Iter.{into_iter_items}
use Rattle.mysql_fragments.specs.GivenFragments.{fragment_map}
use Rattle.mysql_bind_core.specs.Entries.{entries_of, pair_seen}
use Rattle.mysql_bind_core.proofs.assignment.entries_of.Given as goal

-- the pairs are those so far and what is left, and the map has those so far
abbrev pub invariant-loop-pair : goal.invariant-loop-pair
invariant-loop-pair l = (l.yielded ++ into_iter_items l.pair-iterator ≡ into_iter_items l.initial.pair-iterator)
    × (entries_of (map pair_seen l.yielded) ≡ Ok (fragment_map l.entries.entries))
