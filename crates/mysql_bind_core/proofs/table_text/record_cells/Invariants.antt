use Rattle.std.proofs.Common.{◌≡◌, ◌++◌, drop, map}
use Rattle.mysql_records.specs.Seen.{lent_fields_seen}
use Rattle.mysql_bind_core.specs.Tables.{cell_said, fields_said}
use Rattle.mysql_bind_core.proofs.table_text.record_cells.Given as goal

-- what is said so far, and what is left to say
abbrev pub invariant-loop-i : goal.invariant-loop-i
invariant-loop-i l =
    map cell_said l.cells.items
    ++ fields_said (drop l.i l.form.columns.now) (drop l.i (lent_fields_seen l.fields))
    ≡ fields_said l.form.columns.now (lent_fields_seen l.fields)
