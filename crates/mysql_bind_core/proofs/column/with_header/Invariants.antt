use Rattle.std.proofs.Common.{◌≡◌, drop}
use Rattle.mysql_bind_core.specs.Headers.{with_header}
use Rattle.mysql_bind_core.proofs.column.with_header.Given as goal

-- the first one is among those that are left
abbrev pub invariant-loop-i : goal.invariant-loop-i
invariant-loop-i l = with_header (drop l.i l.columns) l.header ≡ with_header l.columns l.header
