-- The content of a fragment, without the place of its bytes and items in memory.
use Rattle.std.specs.Prelude.{ℕ, List, map}
use Rattle.std.specs.Global.{Vec}
use Rattle.mysql_value_core.specs.declared.value.Value.{Value}
use Rattle.std.specs.Float.Ieee.{Float}
use Rattle.mysql_float_literal.specs.DoubleText.{double_value}
use Rattle.mysql_params_core.specs.Names.{names_of}
use Rattle.mysql_fragments.specs.declared.fragment.ColumnAssignment.{ColumnAssignment}
use Rattle.mysql_fragments.specs.declared.fragment.Item.{Item}
use Rattle.mysql_fragments.specs.declared.fragment.Item.TheVariants as item
use Rattle.mysql_fragments.specs.declared.fragment.Fragment.{Fragment}
use Rattle.mysql_fragments.specs.declared.fragment.Fragment.TheVariants as one

-- the content of an item of a list or a row
pub data ItemContent : Type 0 where
  -- a value
  value_item : Value → ItemContent
  -- the text of an exact number
  number_item : List ℕ → ItemContent
  -- a finite double
  double_item : Float → ItemContent

-- the content of an assignment: the names of its column, and its item
abbrev pub AssignmentContent : Type 0
AssignmentContent = List (List ℕ) × ItemContent

-- the content of a fragment
pub data FragmentContent : Type 0 where
  -- a value
  value : Value → FragmentContent
  -- the text of an exact number
  number : List ℕ → FragmentContent
  -- a finite double
  double : Float → FragmentContent
  -- items
  list : List ItemContent → FragmentContent
  -- rows of items
  rows : List (List ItemContent) → FragmentContent
  -- a name
  identifier : List ℕ → FragmentContent
  -- the parts of a qualified name
  qualified : List (List ℕ) → FragmentContent
  -- the text of a keyword
  keyword : List ℕ → FragmentContent
  -- columns, each of names
  identifiers : List (List (List ℕ)) → FragmentContent
  -- assignments
  assignments : List AssignmentContent → FragmentContent

-- the content of this item
abbrev pub item_content : Item → ItemContent
item_content (item.Value said) = value_item said
item_content (item.Decimal text) = number_item text.items
item_content (item.Double said) = double_item (double_value said)

-- the contents of these items
abbrev pub items_content : List Item → List ItemContent
items_content items = map item_content items

-- the names of these columns
abbrev pub columns_content : List (Vec (Vec ℕ)) → List (List (List ℕ))
columns_content columns = map (λ names. names_of names.items) columns

-- the content of this assignment
abbrev pub assignment_content : ColumnAssignment → AssignmentContent
assignment_content assignment =
    (names_of assignment.column.items, item_content assignment.item)

-- the contents of these assignments
abbrev pub assignments_content : List ColumnAssignment → List AssignmentContent
assignments_content said = map assignment_content said

-- the content of this fragment
abbrev pub content_of : Fragment → FragmentContent
content_of (one.Value said) = value said
content_of (one.Decimal text) = number text.items
content_of (one.Double said) = double (double_value said)
content_of (one.List items) = list (items_content items.items)
content_of (one.Rows items) = rows (map (λ row. items_content row.items) items.items)
content_of (one.Identifier name) = identifier name.items
content_of (one.Qualified names) = qualified (names_of names.items)
content_of (one.Keyword word) = keyword word.word.items
content_of (one.Identifiers columns) = identifiers (columns_content columns.items)
content_of (one.Assignments said) = assignments (assignments_content said.items)
