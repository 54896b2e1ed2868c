use Rattle.std.proofs.Common.{◌-◌, ◌≤◌, length}
use Rattle.mysql_named_params.specs.Lanes.{EachPasses}
use Rattle.mysql_named_params.proofs.lanes.run_end.Given as goal

abbrev pub invariant-by_lanes : goal.invariant-by_lanes
invariant-by_lanes g l =
    (l.from ≤ l.at) × (l.at ≤ length l.text) × EachPasses (g.S.ByteSet.contains l.set) l.text l.from l.at

abbrev pub decreases-by_lanes : goal.decreases-by_lanes
decreases-by_lanes g l = length l.text - l.at

abbrev pub invariant-loop-at : goal.invariant-loop-at
invariant-loop-at g l =
    (l.from ≤ l.at) × (l.at ≤ length l.text) × EachPasses (g.S.ByteSet.contains l.set) l.text l.from l.at

abbrev pub decreases-loop-at : goal.decreases-loop-at
decreases-loop-at g l = length l.text - l.at
