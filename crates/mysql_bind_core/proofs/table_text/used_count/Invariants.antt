use Rattle.std.proofs.Common.{◌≡◌, ◌≤◌, ◌+◌, drop}
use Rattle.mysql_bind_core.specs.Tables.{used_count}
use Rattle.mysql_bind_core.proofs.table_text.used_count.Given as goal

-- those that were counted, and those that are left
abbrev pub invariant-loop-i : goal.invariant-loop-i
invariant-loop-i l = (l.count + used_count (drop l.i l.columns) ≡ used_count l.columns) × (l.count ≤ l.i)
