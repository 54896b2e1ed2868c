-- The fields of a record as a row of `VALUES (..), (..)`: an item for each cell.
use Rattle.std.specs.Prelude.{◌≡◌, ℕ, List, [], ◌∷◌, ◌++◌, Option, Some, None, length, map, option_and_then}
use Rattle.std.specs.Global.{Vec}
use Rattle.mysql_fragments.specs.declared.fragment.Item.{Item}
use Rattle.mysql_records.specs.Records.{BeginsWithRecord}
use Rattle.mysql_bind_core.specs.Contents.{Content, ItemContent, all_of, content, item_said}
use Rattle.mysql_bind_core.specs.Contents as contents
use Rattle.mysql_bind_core.specs.Tables.{CellSaid, Fields, cell_said, fields_said}
use Rattle.mysql_bind_core.specs.declared.table_form.TableForm.{TableForm}

-- ---- items

-- the contents of rows: the items of each
abbrev pub RowsSaid : Type 0
RowsSaid = List (List ItemContent)

-- the contents of rows, without the place of their bytes in memory
abbrev pub rows_said : List (Vec Item) → RowsSaid
rows_said rows = map (λ row. map item_said row.items) rows

-- a content as an item of a row: a value, an exact number or a double; none for all others
abbrev pub as_item : Content → Option ItemContent
as_item (contents.value_content v) = Some (contents.value_item v)
as_item (contents.number_content text) = Some (contents.exact_number text)
as_item (contents.double_content x) = Some (contents.double_number x)
as_item (contents.name_content name) = None
as_item (contents.list_content items) = None
as_item contents.other_content = None

-- the item of a cell; none if its bytes say none
abbrev pub cell_item : CellSaid → Option ItemContent
cell_item cell = option_and_then as_item (content cell.0 cell.1)

-- the items of a record with these fields: those of each column that is used, then those that are
-- the same in each row; none if the bytes of one say none
abbrev pub row_of : TableForm → Fields → Option (List ItemContent)
row_of form fields =
    all_of cell_item (fields_said form.columns.now fields ++ map cell_said form.fixed.now)

-- ---- rows of a text

-- The text begins with a record of these fields, as many as there are columns. Its row has these
-- items, and this rest is behind the record's end.
pub record BeginsWithRow (form : TableForm) (text : List ℕ) (fields : Fields)
    (items : List ItemContent) (rest : List ℕ) : Type 0 where
  pub begins : BeginsWithRecord form.format text fields rest
  pub as_many : length fields ≡ length form.columns.now
  pub items_are : row_of form fields ≡ Some items

-- the text begins with these records, one behind the other, which have these rows, and this rest is
-- behind the last one's end
pub data BeginsWithRows (form : TableForm)
    : List ℕ → List Fields → RowsSaid → List ℕ → Type 0 where
  no_rows : (text : List ℕ) → BeginsWithRows form text [] [] text
  more_rows : (fields : Fields) (items : List ItemContent) (records : List Fields)
      (rows : RowsSaid) (text back rest : List ℕ) → BeginsWithRow form text fields items back
      → BeginsWithRows form back records rows rest
      → BeginsWithRows form text (fields ∷ records) (items ∷ rows) rest

-- the text begins with a record that has a row
abbrev pub FollowsRow : TableForm → List ℕ → Type 0
FollowsRow form text = (fields : Fields) × (items : List ItemContent) × (rest : List ℕ)
    × BeginsWithRow form text fields items rest

-- The text begins with no record that has a row. It is empty, or it begins with no record. Or the
-- number of the record's fields isn't the number of columns, or a field says no item.
abbrev pub FollowsNone : TableForm → List ℕ → Type 0
FollowsNone form text = (fields : Fields) (items : List ItemContent) (rest : List ℕ)
    → BeginsWithRow form text fields items rest → ⊥
