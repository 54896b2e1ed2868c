use Rattle.std.proofs.Common.{◌≡◌, map, take}
use Rattle.mysql_bind_core.specs.Headers.{form_of, form_seen}
use Rattle.mysql_bind_core.proofs.parts.taken_columns.Given as goal

-- the columns so far
abbrev pub invariant-loop-column : goal.invariant-loop-column
invariant-loop-column l = map form_of (take l.column-index l.columns) ≡ map form_seen l.taken.items
