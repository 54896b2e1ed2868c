use Rattle.std.proofs.Common.{◌≡◌, drop}
use Rattle.mysql_bind_core.specs.Headers.{null_of}
use Rattle.mysql_bind_core.proofs.column.null_of.Given as goal

-- the first one is among those that are left
abbrev pub invariant-loop-i : goal.invariant-loop-i
invariant-loop-i l = null_of (drop l.i l.nulls) l.name ≡ null_of l.nulls l.name
