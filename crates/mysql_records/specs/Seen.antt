-- The view that contracts have of the code's values: without their places in memory.
use Rattle.std.specs.Prelude.{ℕ, List, map, Option, Some, None}
use Rattle.mysql_records.specs.declared.record.Field.{Field}
use Rattle.mysql_records.specs.declared.rows.Row.{Row}
use Rattle.mysql_records.specs.declared.record.Field.TheVariants.{Null, Bytes}
use Rattle.mysql_records.specs.declared.lent.LentField.{LentField}
use Rattle.mysql_records.specs.declared.lent.LentField.TheVariants as lent

-- a field: its bytes, or none if it is NULL
abbrev pub field_seen : Field → Option (List ℕ)
field_seen Null = None
field_seen (Bytes bytes) = Some bytes.items

-- the same for a field that can borrow its bytes
abbrev pub lent_seen : LentField → Option (List ℕ)
lent_seen lent.Null = None
lent_seen (lent.Lent bytes) = Some bytes.now
lent_seen (lent.Made bytes) = Some bytes.items

-- the fields of a record, which can borrow their bytes
abbrev pub lent_fields_seen : List LentField → List (Option (List ℕ))
lent_fields_seen = map lent_seen

-- the fields of a record
abbrev pub fields_seen : List Field → List (Option (List ℕ))
fields_seen = map field_seen

-- the rows of a table
abbrev pub rows_seen : List Row → List (List (Option (List ℕ)))
rows_seen = map (λ row. fields_seen row.fields.items)
