use Rattle.std.proofs.Common.{◌≡◌, map, take}
use Rattle.mysql_records.specs.Seen.{lent_seen}
use Rattle.mysql_bind_core.specs.Headers.{column_seen, column_under}
use Rattle.mysql_bind_core.proofs.column.columns_of.Given as goal

-- the columns so far are those of the fields so far
abbrev pub invariant-loop-field : goal.invariant-loop-field
invariant-loop-field l = map (λ field. column_under l.words (lent_seen field)) (take l.field-index l.header) ≡ map column_seen l.columns.items
