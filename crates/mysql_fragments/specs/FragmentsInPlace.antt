-- How fragments read in the text that is bound to a query with them: each, followed by the text
-- after it, reads as itself and leaves exactly that text. A value is its literal in the form of the
-- text, and the promises about a bound text say how that reads. A keyword is its bytes.
use Rattle.std.specs.Prelude.{◌≡◌, ℕ, List, [], ◌∷◌, ◌++◌, codes, length, map, Some, ⊤}
use Rattle.std.specs.Global.{Vec}
use Rattle.std.specs.Float.{binary64}
use Rattle.std.specs.Float.Parse.{read_float}
use Rattle.mysql_float_literal.specs.DoubleText.{double_value}
use Rattle.mysql_float_literal.specs.declared.double.Double.{Double}
use Rattle.mysql_binding.specs.LiteralForm.{Literals}
use Rattle.mysql_binding.specs.Pieces.{joined_text}
use Rattle.mysql_fragments.specs.ReadFragment.{AreReadAsNames, Exact, read_exact, read_identifier}
use Rattle.mysql_fragments.specs.declared.fragment.ColumnAssignment.{ColumnAssignment}
use Rattle.mysql_fragments.specs.declared.fragment.Item.{Item}
use Rattle.mysql_fragments.specs.declared.fragment.Item.TheVariants as item
use Rattle.mysql_fragments.specs.declared.fragment.Fragment.{Fragment}
use Rattle.mysql_fragments.specs.declared.fragment.Fragment.TheVariants as one

-- this text, before this rest, reads as the exact number that the bytes are, and leaves the rest
abbrev pub ReadsAsNumber : List ℕ → List ℕ → List ℕ → Type 0
ReadsAsNumber number text rest = (value : Exact)
    × (read_exact number ≡ Some (value, []))
    × (read_exact (text ++ rest) ≡ Some (value, rest))

-- this text, before this rest, reads as the double, and ends where the rest begins
abbrev pub ReadsAsDouble : Double → List ℕ → List ℕ → Type 0
ReadsAsDouble double text rest =
    read_float binary64 (text ++ rest) ≡ Some (double_value double, length text)

-- this text of an item, before this rest, is the literal of a value or reads as the number
abbrev pub ItemReadsAsItself : Literals → Item → List ℕ → List ℕ → Type 0
ItemReadsAsItself literal (item.Value value) text rest = literal value ≡ Some text
ItemReadsAsItself literal (item.Decimal number) text rest = ReadsAsNumber number.items text rest
ItemReadsAsItself literal (item.Double double) text rest = ReadsAsDouble double text rest

-- the text begins with these items, with `, ` between them, each of which reads as itself, and goes
-- on with the rest
pub data AreReadAsItems (literal : Literals) : List ℕ → List Item → List ℕ → Type 0 where
  read_last_item : (text : List ℕ) (said : Item) (rest : List ℕ) →
      ItemReadsAsItself literal said text rest →
      AreReadAsItems literal (text ++ rest) (said ∷ []) rest
  read_more_items : (text : List ℕ) (said : Item) (more : List ℕ) (items : List Item)
      (rest : List ℕ) → ItemReadsAsItself literal said text (codes ", " ++ more) →
      AreReadAsItems literal more items rest →
      AreReadAsItems literal (text ++ (codes ", " ++ more)) (said ∷ items) rest

-- the text begins with these rows in brackets, with `, ` between them, and goes on with the rest
pub data AreReadAsRows (literal : Literals) : List ℕ → List (Vec Item) → List ℕ → Type 0 where
  read_last_row : (text : List ℕ) (row : Vec Item) (rest : List ℕ) →
      AreReadAsItems literal text row.items (codes ")" ++ rest) →
      AreReadAsRows literal (codes "(" ++ text) (row ∷ []) rest
  read_more_rows : (text : List ℕ) (row : Vec Item) (more : List ℕ) (rows : List (Vec Item))
      (rest : List ℕ) → AreReadAsItems literal text row.items (codes "), " ++ more) →
      AreReadAsRows literal more rows rest →
      AreReadAsRows literal (codes "(" ++ text) (row ∷ rows) rest

-- the text begins with the names of a column, with `.` between them, and goes on with the rest
abbrev pub IsReadAsColumn : List ℕ → Vec (Vec ℕ) → List ℕ → Type 0
IsReadAsColumn text column rest = AreReadAsNames text (map (λ name. name.items) column.items) rest

-- the text begins with these columns, with `, ` between them, and goes on with the rest
pub data AreReadAsColumns : List ℕ → List (Vec (Vec ℕ)) → List ℕ → Type 0 where
  read_last_column : (text : List ℕ) (column : Vec (Vec ℕ)) (rest : List ℕ) →
      IsReadAsColumn text column rest → AreReadAsColumns text (column ∷ []) rest
  read_more_columns : (text : List ℕ) (column : Vec (Vec ℕ)) (more : List ℕ)
      (columns : List (Vec (Vec ℕ))) (rest : List ℕ) →
      IsReadAsColumn text column (codes ", " ++ more) → AreReadAsColumns more columns rest →
      AreReadAsColumns text (column ∷ columns) rest

-- the text begins with the column of an assignment, ` = ` and a text of its item, which reads as
-- itself, and goes on with the rest
pub record IsReadAsAssignment (literal : Literals) (text : List ℕ) (said : ColumnAssignment)
    (rest : List ℕ) : Type 0 where
  pub item : List ℕ
  pub column_read : IsReadAsColumn text said.column (codes " = " ++ (item ++ rest))
  pub item_read : ItemReadsAsItself literal said.item item rest

-- the text begins with these assignments, with `, ` between them, and goes on with the rest
pub data AreReadAsAssignments (literal : Literals)
    : List ℕ → List ColumnAssignment → List ℕ → Type 0 where
  read_last_assignment : (text : List ℕ) (said : ColumnAssignment) (rest : List ℕ) →
      IsReadAsAssignment literal text said rest →
      AreReadAsAssignments literal text (said ∷ []) rest
  read_more_assignments : (text : List ℕ) (said : ColumnAssignment) (more : List ℕ)
      (assignments : List ColumnAssignment) (rest : List ℕ) →
      IsReadAsAssignment literal text said (codes ", " ++ more) →
      AreReadAsAssignments literal more assignments rest →
      AreReadAsAssignments literal text (said ∷ assignments) rest

-- this text of the fragment, before this rest, is the literal of a value or the bytes of a keyword,
-- or reads as the fragment's number, names, items, rows, columns or assignments
abbrev pub ReadsAsItself : Literals → Fragment → List ℕ → List ℕ → Type 0
ReadsAsItself literal (one.Value value) text rest = literal value ≡ Some text
ReadsAsItself literal (one.Decimal number) text rest = ReadsAsNumber number.items text rest
ReadsAsItself literal (one.Double double) text rest = ReadsAsDouble double text rest
ReadsAsItself literal (one.List items) text rest =
    AreReadAsItems literal (text ++ rest) items.items rest
ReadsAsItself literal (one.Rows rows) text rest =
    AreReadAsRows literal (text ++ rest) rows.items rest
ReadsAsItself literal (one.Identifier name) text rest =
    read_identifier (text ++ rest) ≡ Some (name.items, rest)
ReadsAsItself literal (one.Qualified names) text rest =
    AreReadAsNames (text ++ rest) (map (λ name. name.items) names.items) rest
ReadsAsItself literal (one.Keyword keyword) text rest = text ≡ keyword.word.items
ReadsAsItself literal (one.Identifiers columns) text rest =
    AreReadAsColumns (text ++ rest) columns.items rest
ReadsAsItself literal (one.Assignments assignments) text rest =
    AreReadAsAssignments literal (text ++ rest) assignments.items rest

-- each of the fragments, in these texts between the pieces of a query, reads as itself
abbrev pub ReadAsThemselves : Literals → List (List ℕ) → List Fragment → List (List ℕ) → Type 0
ReadAsThemselves literal pieces [] [] = ⊤
ReadAsThemselves literal (piece ∷ pieces) (fragment ∷ fragments) (text ∷ texts) =
    ((rest : List ℕ) × (joined_text pieces texts ≡ Some rest)
    × ReadsAsItself literal fragment text rest)
    × ReadAsThemselves literal pieces fragments texts
ReadAsThemselves literal pieces fragments texts = ⊥
