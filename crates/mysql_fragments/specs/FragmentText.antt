-- The text of a fragment with a given text for each of its values, the text with a mark for each,
-- and these values, in order. The syntax is that of the MySQL Reference Manual, "Numeric Literals",
-- "Schema Object Names", "Comparison Functions and Operators" and "VALUES Statement". Columns and
-- assignments are in its "INSERT Statement" and "UPDATE Statement".
use Rattle.std.specs.Prelude.{◌==◌, ℕ, List, [], ◌∷◌, ◌++◌, if◌then◌else◌, map, codes, length}
use Rattle.std.specs.List.{flat_map}
use Rattle.std.specs.Global.{Vec}
use Rattle.mysql_values.specs.declared.value.Value.{Value}
use Rattle.mysql_float_literal.specs.DoubleText.{double_text}
use Rattle.mysql_named_params.specs.Bytes.{backquote}
use Rattle.mysql_fragments.specs.declared.fragment.ColumnAssignment.{ColumnAssignment}
use Rattle.mysql_fragments.specs.declared.fragment.Item.{Item}
use Rattle.mysql_fragments.specs.declared.fragment.Item.TheVariants as item
use Rattle.mysql_fragments.specs.declared.fragment.Fragment.{Fragment}
use Rattle.mysql_fragments.specs.declared.fragment.Fragment.TheVariants as one

-- each text after this separator
abbrev pub each_after : List ℕ → List (List ℕ) → List ℕ
each_after separator = flat_map (λ text. separator ++ text)

-- texts with this separator between each and the next
abbrev pub joined : List ℕ → List (List ℕ) → List ℕ
joined separator [] = []
joined separator (text ∷ texts) = text ++ each_after separator texts

-- each backquote twice
abbrev pub doubled : List ℕ → List ℕ
doubled [] = []
doubled (b ∷ bs) = if b == backquote then b ∷ b ∷ doubled bs else b ∷ doubled bs

-- a name as an identifier in backquotes
abbrev pub identifier_text : List ℕ → List ℕ
identifier_text name = codes "`" ++ (doubled name ++ codes "`")

-- names as identifiers with `.` between them
abbrev pub qualified_text : List (Vec ℕ) → List ℕ
qualified_text names = joined (codes ".") (map (λ name. identifier_text name.items) names)

-- columns with commas between them, each of names with `.` between them
abbrev pub columns_text : List (Vec (Vec ℕ)) → List ℕ
columns_text columns = joined (codes ", ") (map (λ names. qualified_text names.items) columns)

-- an item: this text for a value, and a number as it is written
abbrev pub filled_item : (Value → List ℕ) → Item → List ℕ
filled_item write (item.Value value) = write value
filled_item write (item.Decimal number) = number.items
filled_item write (item.Double double) = double_text double

-- items with commas between them
abbrev pub filled_items : (Value → List ℕ) → List Item → List ℕ
filled_items write items = joined (codes ", ") (map (filled_item write) items)

-- a row: its items in brackets
abbrev pub filled_row : (Value → List ℕ) → Vec Item → List ℕ
filled_row write row = codes "(" ++ (filled_items write row.items ++ codes ")")

-- an assignment: its column, ` = ` and its item
abbrev pub filled_assignment : (Value → List ℕ) → ColumnAssignment → List ℕ
filled_assignment write assignment =
    qualified_text assignment.column.items ++ (codes " = " ++ filled_item write assignment.item)

-- assignments with commas between them
abbrev pub filled_assignments : (Value → List ℕ) → List ColumnAssignment → List ℕ
filled_assignments write assignments =
    joined (codes ", ") (map (filled_assignment write) assignments)

-- a fragment, with this text for each of its values
abbrev pub filled_text : (Value → List ℕ) → Fragment → List ℕ
filled_text write (one.Value value) = write value
filled_text write (one.Decimal number) = number.items
filled_text write (one.Double double) = double_text double
filled_text write (one.List items) = filled_items write items.items
filled_text write (one.Rows rows) = joined (codes ", ") (map (filled_row write) rows.items)
filled_text write (one.Identifier name) = identifier_text name.items
filled_text write (one.Qualified names) = qualified_text names.items
filled_text write (one.Keyword keyword) = keyword.word.items
filled_text write (one.Identifiers columns) = columns_text columns.items
filled_text write (one.Assignments assignments) = filled_assignments write assignments.items

-- the mark of each value
abbrev pub mark : Value → List ℕ
mark value = codes "?"

-- an item, with a mark for a value
abbrev pub item_text : Item → List ℕ
item_text = filled_item mark

-- items, with a mark for each value
abbrev pub items_text : List Item → List ℕ
items_text = filled_items mark

-- a row, with a mark for each value
abbrev pub row_text : Vec Item → List ℕ
row_text = filled_row mark

-- an assignment, with a mark for a value
abbrev pub assignment_text : ColumnAssignment → List ℕ
assignment_text = filled_assignment mark

-- the text of a fragment, with a mark for each value
abbrev pub fragment_text : Fragment → List ℕ
fragment_text = filled_text mark

-- the value of an item, if it is one
abbrev pub item_values : Item → List Value
item_values (item.Value value) = value ∷ []
item_values (item.Decimal number) = []
item_values (item.Double double) = []

-- the value of an assignment, if its item is one
abbrev pub assignment_values : ColumnAssignment → List Value
assignment_values assignment = item_values assignment.item

-- the values of a fragment, in the order of their marks
abbrev pub fragment_values : Fragment → List Value
fragment_values (one.Value value) = value ∷ []
fragment_values (one.Decimal number) = []
fragment_values (one.Double double) = []
fragment_values (one.List items) = flat_map item_values items.items
fragment_values (one.Rows rows) = flat_map (λ row. flat_map item_values row.items) rows.items
fragment_values (one.Identifier name) = []
fragment_values (one.Qualified names) = []
fragment_values (one.Keyword keyword) = []
fragment_values (one.Identifiers columns) = []
fragment_values (one.Assignments assignments) = flat_map assignment_values assignments.items

-- the values of fragments, in the order of their marks
abbrev pub all_values : List Fragment → List Value
all_values = flat_map fragment_values

-- the number of marks in the text of a fragment
abbrev pub mark_number : Fragment → ℕ
mark_number fragment = length (fragment_values fragment)
