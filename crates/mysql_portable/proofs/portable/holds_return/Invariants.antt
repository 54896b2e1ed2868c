use Rattle.std.proofs.Common.{◌≡◌, ◌≤◌, ◌-◌, drop, length}
use Rattle.mysql_portable.specs.Server.{holds_return}
use Rattle.mysql_portable.proofs.portable.holds_return.Given as goal

abbrev pub invariant-stops : goal.invariant-stops
invariant-stops l = (holds_return (drop l.at l.text) ≡ holds_return l.text) × (l.at ≤ length l.text)

abbrev pub decreases-stops : goal.decreases-stops
decreases-stops l = length l.text - l.at
