-- The statements of a table's records: the cells of a record, the records of a text up to a rest,
-- and why the next one has no statement.
use Rattle.std.specs.Prelude.{◌≡◌, ◌≢◌, ◌+◌, ◌<◌, ◌≤◌, ◌^◌, ℕ, Bool, false, List, [], ◌∷◌, ◌++◌, Option, Some, None, length, map, drop, All, if◌then◌else◌, ⊤}
use Rattle.std.specs.Borrow.{Bor}
use Rattle.std.specs.Str.{bytes_eq}
use Rattle.mysql_records.specs.Faults.{IsFaultyTable}
use Rattle.mysql_records.specs.Records.{BeginsWithRecord}
use Rattle.mysql_records.specs.declared.fault.Fault.{Fault}
use Rattle.mysql_records.specs.declared.format.RecordFormat.{RecordFormat}
use Rattle.mysql_bind_core.specs.Bound.{IsWritten}
use Rattle.mysql_bind_core.specs.Cells.{Said, TableQuery, assignment_said}
use Rattle.mysql_bind_core.specs.Refusals.{IsRefusal}
use Rattle.mysql_bind_core.specs.declared.assignment.Assignment.{Assignment}
use Rattle.mysql_bind_core.specs.declared.cell.Cell.{Cell}
use Rattle.mysql_bind_core.specs.declared.failure.Failure.{Failure}
use Rattle.mysql_bind_core.specs.declared.value_type.ValueType.{ValueType}
use Rattle.mysql_bind_core.specs.declared.value_type.ValueType.TheVariants.{Null}
use Rattle.mysql_bind_core.specs.Scripts.{script}
use Rattle.mysql_bind_core.specs.declared.row.Row.{Row}
use Rattle.mysql_bind_core.specs.declared.table_form.TableColumn.{TableColumn}
use Rattle.mysql_bind_core.specs.declared.table_form.TableForm.{TableForm}
use Rattle.mysql_bind_core.specs.declared.table_form.TableRefusal.{TableRefusal}
use Rattle.mysql_bind_core.specs.declared.table_form.TableRefusal.TheVariants as refusal

-- ---- the cells of a record

-- the fields of a record: the bytes of each, or none for a NULL
abbrev pub Fields : Type 0
Fields = List (Option (List ℕ))

-- the contents of a cell: a type, and bytes
abbrev pub CellSaid : Type 0
CellSaid = ValueType × List ℕ

-- the contents of a cell, without the place of its bytes in memory
abbrev pub cell_said : Cell → CellSaid
cell_said cell = (cell.value_type, cell.bytes.now)

-- these bytes are those of a field that is NULL
abbrev pub is_null_text : Option (Bor (List ℕ)) → List ℕ → Bool
is_null_text None bytes = false
is_null_text (Some text) bytes = bytes_eq text.now bytes

-- The contents of a field for its column. A NULL is the type NULL without bytes. The column's null
-- text is the type NULL with its bytes. All other bytes have the column's type.
abbrev pub field_said : TableColumn → Option (List ℕ) → CellSaid
field_said column None = (Null, [])
field_said column (Some bytes) =
    ((if is_null_text column.null_text bytes then Null else column.value_type), bytes)

-- the same, if the column is used
abbrev pub column_said : TableColumn → Option (List ℕ) → List CellSaid
column_said column field = if column.used then field_said column field ∷ [] else []

-- the same for each field and the column of the same number
abbrev pub fields_said : List TableColumn → Fields → List CellSaid
fields_said [] fields = []
fields_said (column ∷ columns) [] = []
fields_said (column ∷ columns) (field ∷ fields) =
    column_said column field ++ fields_said columns fields

-- the contents of the cells of a record: those of its fields, and then those of the cells that are
-- the same in each row
abbrev pub record_said : TableForm → Fields → List CellSaid
record_said form fields =
    fields_said form.columns.now fields ++ map cell_said form.fixed.now

-- the cells say the same as a record
abbrev pub AreCellsOf : TableForm → Fields → List Cell → Type 0
AreCellsOf form fields cells = map cell_said cells ≡ record_said form fields

-- ---- the values of a record

-- the contents of cells, each under the name of the same number
abbrev pub said_under : List (List ℕ) → List CellSaid → List Said
said_under [] cells = []
said_under (name ∷ names) [] = []
said_under (name ∷ names) (cell ∷ cells) = (name, cell) ∷ said_under names cells

-- the assignments say the same as a record, under the names with which the query is matched
abbrev pub AreValuesOf : TableQuery → TableForm → Fields → List Assignment → Type 0
AreValuesOf query form fields assignments =
    map assignment_said assignments ≡ said_under query.columns (record_said form fields)

-- the text is written for the values of a record
abbrev pub IsRecordText : TableQuery → TableForm → Fields → List ℕ → Type 0
IsRecordText query form fields text = (assignments : List Assignment) →
    AreValuesOf query form fields assignments →
    IsWritten query.request query.query assignments text

-- why nothing is written for the values of a record
abbrev pub IsRecordRefusal : TableQuery → TableForm → Fields → Failure → Type 0
IsRecordRefusal query form fields why = (assignments : List Assignment) →
    AreValuesOf query form fields assignments →
    IsRefusal query.request query.query assignments why

-- how many of the columns are used
abbrev pub used_count : List TableColumn → ℕ
used_count [] = 0
used_count (column ∷ columns) =
    if column.used then used_count columns + 1 else used_count columns

-- how many cells each record has
abbrev pub cell_count : TableForm → ℕ
cell_count form = used_count form.columns.now + length form.fixed.now

-- The query is matched with one name for each cell of a record. The names, the bytes of the cells
-- that are the same in each row, and the text fit into memory.
pub record IsTableMatched (query : TableQuery) (form : TableForm) (text : List ℕ) : Type 0 where
  pub as_many : length query.columns ≡ cell_count form
  pub few : length query.columns < 2 ^ 63
  pub names_fit : All (λ name. length name < 2 ^ 63) query.columns
  pub fixed_fit : All (λ (cell : Cell). length cell.bytes.now < 2 ^ 63) form.fixed.now
  pub text_fits : length text < 2 ^ 63

-- ---- the records of a text

-- The text begins with these records, one behind the other, and this rest is behind the last one's
-- end. If the rest is empty, they are the table of the text (law `tables_make_scripts`).
pub data BeginsWithRecords (format : RecordFormat)
    : List ℕ → List Fields → List ℕ → Type 0 where
  no_records : (text : List ℕ) → BeginsWithRecords format text [] text
  more_records : (fields : Fields) (records : List Fields) (text back rest : List ℕ)
      → BeginsWithRecord format text fields back → BeginsWithRecords format back records rest
      → BeginsWithRecords format text (fields ∷ records) rest

-- each text is written for the record of the same number, and there are no others
abbrev pub AreRecordTexts : TableQuery → TableForm → List Fields → List (List ℕ) → Type 0
AreRecordTexts query form [] [] = ⊤
AreRecordTexts query form (fields ∷ records) (text ∷ texts) =
    IsRecordText query form fields text × AreRecordTexts query form records texts
AreRecordTexts query form [] (text ∷ texts) = ⊥
AreRecordTexts query form (fields ∷ records) [] = ⊥

-- The text begins with these records, each with as many fields as there are columns, and this rest
-- is behind them. A script gets their statements behind its earlier bytes, and nothing else.
pub record AreAppended (query : TableQuery) (form : TableForm) (text : List ℕ)
    (records : List Fields) (rest before after : List ℕ) : Type 0 where
  pub of : IsTableMatched query form text
  pub read : BeginsWithRecords form.format text records rest
  pub lengths : All (λ fields. length fields ≡ length form.columns.now) records
  pub texts : List (List ℕ)
  pub written : AreRecordTexts query form records texts
  pub bytes : after ≡ before ++ script texts

-- the assignments of each row say the same as the record of the same number, and there are no
-- other rows
abbrev pub AreRowsOf : TableQuery → TableForm → List Fields → List Row → Type 0
AreRowsOf query form [] [] = ⊤
AreRowsOf query form (fields ∷ records) (row ∷ rows) =
    AreValuesOf query form fields row.assignments.items × AreRowsOf query form records rows
AreRowsOf query form [] (row ∷ rows) = ⊥
AreRowsOf query form (fields ∷ records) [] = ⊥

-- ---- refused records

-- the rest of a text begins at this index of the text, and begins with a record of these fields
pub record IsRecordAt (form : TableForm) (text rest : List ℕ) (at : ℕ) (fields : Fields)
    : Type 0 where
  pub place : drop at text ≡ rest
  pub more : List ℕ
  pub begins : BeginsWithRecord form.format rest fields more

-- A text is no table, and this fault is the first in it. The fault is in this rest of the text,
-- which isn't empty and begins with no record.
pub record IsFaultBehind (form : TableForm) (text rest : List ℕ) (fault : Fault) : Type 0 where
  pub first : IsFaultyTable form.format text fault
  pub place : length text ≤ fault.at + length rest
  pub some : rest ≢ []
  pub none : (fields : Fields) (more : List ℕ)
      → BeginsWithRecord form.format rest fields more → ⊥

-- why the record at the front of the rest of a text has no statement, or out of memory
abbrev pub IsRefusedAt : TableQuery → TableForm → List ℕ → List ℕ → TableRefusal → Type 0
IsRefusedAt query form text rest (refusal.Record fault) = IsFaultBehind form text rest fault
IsRefusedAt query form text rest (refusal.Length at number) =
    (fields : Fields) × IsRecordAt form text rest at fields × (length fields ≡ number)
    × (number ≢ length form.columns.now)
IsRefusedAt query form text rest (refusal.Row at why) =
    (fields : Fields) × IsRecordAt form text rest at fields
    × (length fields ≡ length form.columns.now) × IsRecordRefusal query form fields why
IsRefusedAt query form text rest (refusal.Cells cells) = ⊥
IsRefusedAt query form text rest (refusal.Memory error) = ⊤

-- why not all records that are asked for have a statement, or out of memory
pub data IsTableRefused (query : TableQuery) (form : TableForm) (text before after : List ℕ)
    (most : ℕ) (why : TableRefusal) : Type 0 where
  -- the query is matched with names for another number of cells, and nothing is appended
  of_cells : (cells : ℕ) → why ≡ refusal.Cells cells → cells ≡ cell_count form →
      cells ≢ length query.columns → after ≡ before →
      IsTableRefused query form text before after most why
  -- these records have statements, and the next one has none
  of_record : (records : List Fields) (rest : List ℕ) →
      AreAppended query form text records rest before after → length records < most →
      IsRefusedAt query form text rest why →
      IsTableRefused query form text before after most why
