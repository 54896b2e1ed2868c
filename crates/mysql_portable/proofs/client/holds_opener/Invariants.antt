use Rattle.std.proofs.Common.{◌≡◌, ◌≤◌, ◌-◌, drop, length}
use Rattle.mysql_portable.specs.Client.{holds_opener}
use Rattle.mysql_portable.proofs.client.holds_opener.Given as goal

abbrev pub invariant-stops : goal.invariant-stops
invariant-stops l = (holds_opener (drop l.at l.text) ≡ holds_opener l.text) × (l.at ≤ length l.text)

abbrev pub decreases-stops : goal.decreases-stops
decreases-stops l = length l.text - l.at
