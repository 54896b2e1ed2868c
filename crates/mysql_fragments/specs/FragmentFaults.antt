-- Why a fragment can't be written: its first fault. Names are refused as servers refuse them (MySQL
-- Reference Manual, "Schema Object Names", "Identifier Length Limits"). Numbers are refused if they
-- have more digits than servers keep of a literal ("DECIMAL Data Type Characteristics").
use Rattle.std.specs.Prelude.{◌+◌, ◌-◌, ◌^◌, ◌==◌, ◌&&◌, ◌||◌, nat_eq, nat_le, nat_lt, not, ℕ, Bool, true, false, List, [], ◌∷◌, length, min, if◌then◌else◌, Option, None, Some, slice_index_or}
use Rattle.std.specs.Char.{is_ascii_alphabetic, is_ascii_digit}
use Rattle.std.specs.List.{list_any}
use Rattle.std.specs.Option.{option_or}
use Rattle.std.specs.Str.{byte}
use Rattle.std.specs.Global.{Vec}
use Rattle.mysql_named_params.specs.Bytes.{backquote, dash, point, space, underscore}
use Rattle.mysql_binding.specs.FirstNotAlone.{none_or_first}
use Rattle.mysql_fragments.specs.declared.fragment.ColumnAssignment.{ColumnAssignment}
use Rattle.mysql_fragments.specs.declared.fragment.Item.{Item}
use Rattle.mysql_fragments.specs.declared.fragment.Item.TheVariants as item
use Rattle.mysql_fragments.specs.declared.fragment.Fragment.{Fragment}
use Rattle.mysql_fragments.specs.declared.fragment.Fragment.TheVariants as one
use Rattle.mysql_fragments.specs.declared.fragments_error.FragmentFault.{FragmentFault}
use Rattle.mysql_fragments.specs.declared.fragments_error.FragmentFault.TheVariants.{Empty, EmptyRow, RowLength, Number, EmptyName, ZeroByte, LongName, TrailingSpace, Keyword, Backslash}

-- ---- exact numbers

-- digits, and at most one point with a digit on both sides; the flags: this part has a digit
-- already, and the point was passed
abbrev pub is_number_from : Bool → Bool → List ℕ → Bool
is_number_from digit point_passed [] = digit
is_number_from digit point_passed (b ∷ bytes) =
    if is_ascii_digit b then is_number_from true point_passed bytes
    else ((b == point) && (digit && not point_passed)) && is_number_from false true bytes

-- an exact number: digits with at most one point between them, and before them at most one `-`
abbrev pub is_decimal : List ℕ → Bool
is_decimal [] = false
is_decimal (b ∷ bytes) =
    if b == dash then is_number_from false false bytes
    else is_number_from false false (b ∷ bytes)

-- the number of its digits
abbrev pub digit_count : List ℕ → ℕ
digit_count [] = 0
digit_count (b ∷ bytes) =
    if is_ascii_digit b then digit_count bytes + 1 else digit_count bytes

-- the fault of a text that is to be an exact number of at most 65 digits, as this item of this row
abbrev pub number_fault : ℕ → ℕ → List ℕ → Option FragmentFault
number_fault row index text =
    if is_decimal text && nat_le (digit_count text) 65 then None else Some (Number row index)

-- ---- items and rows

-- the fault of this item of this row
abbrev pub item_fault : ℕ → ℕ → Item → Option FragmentFault
item_fault row index (item.Value value) = None
item_fault row index (item.Double double) = None
item_fault row index (item.Decimal text) = number_fault row index text.items

-- the first fault of the items of this row from this index on
abbrev pub items_fault : ℕ → ℕ → List Item → Option FragmentFault
items_fault row index [] = None
items_fault row index (x ∷ items) =
    option_or (item_fault row index x) (items_fault row (index + 1) items)

-- the first fault of a list
abbrev pub list_fault : List Item → Option FragmentFault
list_fault [] = Some Empty
list_fault (x ∷ items) = items_fault 0 0 (x ∷ items)

-- the first fault of this row: it has items, as many as the first row
abbrev pub row_fault : ℕ → ℕ → List Item → Option FragmentFault
row_fault width row [] = Some (EmptyRow row)
row_fault width row (x ∷ items) =
    if nat_eq (length (x ∷ items)) width then items_fault row 0 (x ∷ items)
    else Some (RowLength row)

-- the first fault of rows from this index on
abbrev pub rows_fault_from : ℕ → ℕ → List (Vec Item) → Option FragmentFault
rows_fault_from width row [] = None
rows_fault_from width row (items ∷ rows) =
    option_or (row_fault width row items.items) (rows_fault_from width (row + 1) rows)

-- the first fault of rows
abbrev pub rows_fault : List (Vec Item) → Option FragmentFault
rows_fault [] = Some Empty
rows_fault (first ∷ rows) = rows_fault_from (length first.items) 0 (first ∷ rows)

-- ---- identifiers

-- a byte that continues a UTF-8 character
abbrev pub is_continuation : ℕ → Bool
is_continuation b = nat_le 128 b && nat_lt b 192

-- the number of characters of a name: of bytes that begin one
abbrev pub character_count : List ℕ → ℕ
character_count [] = 0
character_count (b ∷ bytes) =
    if is_continuation b then character_count bytes else character_count bytes + 1

-- the last byte is a space
abbrev pub ends_in_space : List ℕ → Bool
ends_in_space name = slice_index_or name (length name - 1) 0 == space

-- a backslash directly before a backquote, or as the last byte: InnoDB reads an `ALTER TABLE`
-- again, and there it escapes the backquote that follows it in the text
abbrev pub escapes_end : List ℕ → Bool
escapes_end [] = false
escapes_end (b ∷ bytes) =
    (b == byte "\\" && none_or_first (λ c. c == backquote) bytes) || escapes_end bytes

-- the fault of the name with this number in an identifier
abbrev pub name_fault : ℕ → List ℕ → Option FragmentFault
name_fault part [] = Some (EmptyName part)
name_fault part (b ∷ bytes) =
    if list_any (λ c. c == 0) (b ∷ bytes) then Some (ZeroByte part)
    else if nat_lt 64 (character_count (b ∷ bytes)) then Some (LongName part)
    else if ends_in_space (b ∷ bytes) then Some (TrailingSpace part)
    else if escapes_end (b ∷ bytes) then Some (Backslash part)
    else None

-- the sum of a number and a count, or `usize::MAX` if that is less
abbrev pub number_after : ℕ → ℕ → ℕ
number_after number count = min (number + count) (2 ^ 64 - 1)

-- the first fault of names from this number on
abbrev pub names_fault_from : ℕ → List (Vec ℕ) → Option FragmentFault
names_fault_from part [] = None
names_fault_from part (name ∷ names) =
    option_or (name_fault part name.items) (names_fault_from (number_after part 1) names)

-- the first fault of a qualified identifier whose first name has this number in the fragment
abbrev pub names_fault : ℕ → List (Vec ℕ) → Option FragmentFault
names_fault part [] = Some Empty
names_fault part (name ∷ names) = names_fault_from part (name ∷ names)

-- the first fault of columns from this number of a name on: names are counted through all columns
abbrev pub columns_fault_from : ℕ → List (Vec (Vec ℕ)) → Option FragmentFault
columns_fault_from part [] = None
columns_fault_from part (names ∷ columns) = option_or (names_fault part names.items)
    (columns_fault_from (number_after part (length names.items)) columns)

-- the first fault of columns
abbrev pub columns_fault : List (Vec (Vec ℕ)) → Option FragmentFault
columns_fault [] = Some Empty
columns_fault (names ∷ columns) = columns_fault_from 0 (names ∷ columns)

-- ---- assignments

-- the fault of the assignment of number `index`: that of its column, whose first name has number
-- `part`, and then that of its item
abbrev pub assignment_fault : (part index : ℕ) → ColumnAssignment → Option FragmentFault
assignment_fault part index assignment =
    option_or (names_fault part assignment.column.items) (item_fault 0 index assignment.item)

-- the first fault of assignments from this number of a name and this number of an assignment on
abbrev pub assignments_fault_from : (part index : ℕ) → List ColumnAssignment
    → Option FragmentFault
assignments_fault_from part index [] = None
assignments_fault_from part index (assignment ∷ assignments) =
    option_or (assignment_fault part index assignment) (assignments_fault_from
    (number_after part (length assignment.column.items)) (index + 1) assignments)

-- the first fault of assignments
abbrev pub assignments_fault : List ColumnAssignment → Option FragmentFault
assignments_fault [] = Some Empty
assignments_fault (assignment ∷ assignments) = assignments_fault_from 0 0 (assignment ∷ assignments)

-- ---- keywords

-- words of letters and `_` that begin with a letter, with one space between them; the flag: a word
-- has begun
abbrev pub is_keyword_from : Bool → List ℕ → Bool
is_keyword_from begun [] = begun
is_keyword_from begun (b ∷ bytes) =
    if is_ascii_alphabetic b then is_keyword_from true bytes
    else if b == underscore then begun && is_keyword_from true bytes
    else ((b == space) && begun) && is_keyword_from false bytes

-- a keyword
abbrev pub is_keyword : List ℕ → Bool
is_keyword = is_keyword_from false

-- ---- fragments

-- the first fault of a fragment
abbrev pub fault_of : Fragment → Option FragmentFault
fault_of (one.Value value) = None
fault_of (one.Double double) = None
fault_of (one.Decimal text) = number_fault 0 0 text.items
fault_of (one.List items) = list_fault items.items
fault_of (one.Rows rows) = rows_fault rows.items
fault_of (one.Identifier name) = name_fault 0 name.items
fault_of (one.Qualified names) = names_fault 0 names.items
fault_of (one.Keyword keyword) = if is_keyword keyword.word.items then None else Some Keyword
fault_of (one.Identifiers columns) = columns_fault columns.items
fault_of (one.Assignments assignments) = assignments_fault assignments.items
