use Rattle.std.proofs.Common.{◌≡◌, ◌-◌, ◌≤◌, length}
use Rattle.mysql_named_params.specs.Bytes.{space}
use Rattle.mysql_portable.specs.Clear.{is_clear_after, is_clear_from}
use Rattle.mysql_portable.proofs.clear.is_clear_for.Given as goal

abbrev pub invariant-by_lanes : goal.invariant-by_lanes
invariant-by_lanes l = (l.at ≤ length l.text) × (is_clear_from l.client l.text l.at ≡ is_clear_after l.client space l.text)

abbrev pub decreases-by_lanes : goal.decreases-by_lanes
decreases-by_lanes l = length l.text - l.at
