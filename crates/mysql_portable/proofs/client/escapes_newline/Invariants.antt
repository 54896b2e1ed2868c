use Rattle.std.proofs.Common.{◌≡◌, ◌≤◌, ◌-◌, drop, length}
use Rattle.mysql_portable.specs.FoundInClient.{escapes_newline}
use Rattle.mysql_portable.proofs.client.escapes_newline.Given as goal

abbrev pub invariant-stops : goal.invariant-stops
invariant-stops l = (escapes_newline (drop l.at l.text) ≡ escapes_newline l.text) × (l.at ≤ length l.text)

abbrev pub decreases-stops : goal.decreases-stops
decreases-stops l = length l.text - l.at
