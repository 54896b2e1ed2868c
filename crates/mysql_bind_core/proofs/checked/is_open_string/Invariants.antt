use Rattle.std.proofs.Common.{◌-◌, length}
use Rattle.mysql_bind_core.proofs.OpenStringLemmas.{UnitsUpTo}
use Rattle.mysql_bind_core.proofs.checked.is_open_string.Given as goal

abbrev pub invariant-units : goal.invariant-units
invariant-units l = UnitsUpTo l.no_backslash_escape l.quote l.tail l.at

abbrev pub decreases-units : goal.decreases-units
decreases-units l = length l.tail - l.at
