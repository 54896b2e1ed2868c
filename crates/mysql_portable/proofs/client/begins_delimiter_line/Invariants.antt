use Rattle.std.proofs.Common.{◌≡◌, ◌≤◌, ◌-◌, drop, length}
use Rattle.mysql_portable.specs.FoundInClient.{begins_delimiter_line}
use Rattle.mysql_portable.proofs.client.begins_delimiter_line.Given as goal

abbrev pub invariant-stops : goal.invariant-stops
invariant-stops l = (begins_delimiter_line (drop l.at l.text) ≡ begins_delimiter_line l.text) × (l.at ≤ length l.text)

abbrev pub decreases-stops : goal.decreases-stops
decreases-stops l = length l.text - l.at
