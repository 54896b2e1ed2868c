-- The flat form of fragments. Parameters come one after another up to the end of the form, as in
-- the flat form of parameters (FlatForm.antt). Each is its name, a length-encoded string, which is
-- empty for a parameter by position; a byte, the number of a type; a byte of flags; and the content
-- for this type. A column type has its value in binary form, as there. A finite float or double is
-- a double here, which is written as a number. Eight numbers are types of this library's own, for
-- fragments that aren't one value, and two more for lists and rows that are such only because a
-- value was one. No column type has a number from 21 to 241 (ColumnNumbers.antt). The ten are in
-- the middle of that range, because the protocol took new numbers at both ends.
-- Their flags are ignored. A count is four bytes, least first ("Protocol::FixedLengthInteger"), so
-- that it can be written after the things that it counts.
use Rattle.std.specs.Prelude.{◌≡◌, ℕ, suc, zero, ◌+◌, ◌-◌, ◌==◌, List, [], ◌∷◌, ◌++◌, length, if◌then◌else◌, Option, Some, None, Result, Ok, Err}
use Rattle.std.specs.FinMap as finite
use Rattle.mysql_wire_part.specs.Reading.{read_number}
use Rattle.mysql_flat_params.specs.ColumnNumbers.{column_type, is_unsigned_parameter}
use Rattle.mysql_flat_params.specs.FlatForm.{FormRefusal, FormReading, form_end, mixed_form, repeated_name, in_parameter, read_name, read_of_type}
use Rattle.mysql_fragments.specs.GivenFragments.{GivenFragments, named, positional}
use Rattle.mysql_fragments.specs.declared.fragment.Fragment.{Fragment}
use Rattle.mysql_flat_params.specs.FiniteDouble.{item_of_value, fragment_of_value}
use Rattle.mysql_flat_params.specs.FragmentContent.{ItemContent, number_item, AssignmentContent, FragmentContent, number, list, rows, identifier, qualified, keyword, identifiers, assignments, content_of}
use Rattle.mysql_flat_params.specs.Keywords.{listed_keyword}

-- ---- the types of this library's own

-- an exact number: its text, as a length-encoded string
abbrev pub number_type : ℕ
number_type = 128

-- a list: the count of its items, and the items, each as the number of its type, flags and its
-- value
abbrev pub list_type : ℕ
list_type = 129

-- rows: the count of the rows, and the rows, each like a list
abbrev pub rows_type : ℕ
rows_type = 130

-- an identifier: its name, as a length-encoded string
abbrev pub identifier_type : ℕ
identifier_type = 131

-- a qualified identifier: the count of its names, and the names, each as a length-encoded string
abbrev pub qualified_type : ℕ
qualified_type = 132

-- a keyword: its text, as a length-encoded string
abbrev pub keyword_type : ℕ
keyword_type = 133

-- identifiers: their count, and the names of each, like those of a qualified identifier
abbrev pub identifiers_type : ℕ
identifiers_type = 134

-- assignments: their count, and for each the names of its column, like those of a qualified
-- identifier, and its item, like one of a list
abbrev pub assignments_type : ℕ
assignments_type = 135

-- an implicit list, which the program didn't say is one: laid out as a list
abbrev pub implicit_list_type : ℕ
implicit_list_type = 136

-- implicit rows: laid out as rows
abbrev pub implicit_rows_type : ℕ
implicit_rows_type = 137

-- the type whose layout this type has
abbrev pub layout_type : ℕ → ℕ
layout_type type =
    if type == implicit_list_type then list_type
    else if type == implicit_rows_type then rows_type
    else type

-- ---- readings

-- a reading, with `make` applied to its result
abbrev pub map_form : {X Y : Type 0} → (X → Y) → FormReading X → FormReading Y
map_form make (Ok read) = Ok (make read.0, read.1)
map_form make (Err refusal) = Err refusal

-- the next reading, which may depend on the result of the first
abbrev pub and_then_form : {X Y : Type 0} → FormReading X → (X → List ℕ → FormReading Y)
    → FormReading Y
and_then_form (Ok read) next = next read.0 read.1
and_then_form (Err refusal) next = Err refusal

-- a count; reading it refuses no type, so the number 0 is never reported
abbrev pub read_count : (place position : ℕ) → List ℕ → FormReading ℕ
read_count place position bytes = in_parameter place position 0 (read_number 4 bytes)

-- this many of a kind, after those that are read already
abbrev pub read_each : {X : Type 0} → (List ℕ → FormReading X) → ℕ → List X → List ℕ
    → FormReading (List X)
read_each read_one zero xs bytes = Ok (xs, bytes)
read_each read_one (suc count) xs bytes =
    and_then_form (read_one bytes) (λ x rest. read_each read_one count (xs ++ x ∷ []) rest)

-- a count and that many of a kind
abbrev pub read_all : {X : Type 0} → (place position : ℕ) → (List ℕ → FormReading X) → List ℕ
    → FormReading (List X)
read_all place position read_one bytes =
    and_then_form (read_count place position bytes) (λ count rest. read_each read_one count [] rest)

-- an item after the number of its type and its flags: an exact number, a double or a value
abbrev pub read_item_of : (place position number flags : ℕ) → List ℕ → FormReading ItemContent
read_item_of place position type flags bytes =
    if type == number_type then map_form number_item (read_name place position bytes)
    else map_form item_of_value
    (read_of_type place position type (column_type type) (is_unsigned_parameter flags) bytes)

-- an item of a list or a row
abbrev pub read_item : (place position : ℕ) → List ℕ → FormReading ItemContent
read_item place position [] = Err (form_end place position)
read_item place position (type ∷ []) = Err (form_end place position)
read_item place position (type ∷ flags ∷ bytes) = read_item_of place position type flags bytes

-- the items of a list or a row
abbrev pub read_items : (place position : ℕ) → List ℕ → FormReading (List ItemContent)
read_items place position bytes = read_all place position (read_item place position) bytes

-- the names of a qualified identifier or of a column
abbrev pub read_names : (place position : ℕ) → List ℕ → FormReading (List (List ℕ))
read_names place position bytes = read_all place position (read_name place position) bytes

-- an assignment: the names of its column, and its item
abbrev pub read_assignment : (place position : ℕ) → List ℕ → FormReading AssignmentContent
read_assignment place position bytes = and_then_form (read_names place position bytes)
    (λ names rest. map_form (λ item. (names, item)) (read_item place position rest))

-- a keyword; empty if the text isn't one that a form may have
abbrev pub read_keyword : (place position : ℕ) → List ℕ → FormReading (List ℕ)
read_keyword place position bytes = map_form listed_keyword (read_name place position bytes)

-- a fragment after the number of the type whose layout it has, and its flags
abbrev pub read_fragment_of : (place position type flags : ℕ) → List ℕ
    → FormReading FragmentContent
read_fragment_of place position type flags bytes =
    if type == number_type then map_form number (read_name place position bytes)
    else if type == list_type then map_form list (read_items place position bytes)
    else if type == rows_type
    then map_form rows (read_all place position (read_items place position) bytes)
    else if type == identifier_type then map_form identifier (read_name place position bytes)
    else if type == qualified_type then map_form qualified (read_names place position bytes)
    else if type == keyword_type then map_form keyword (read_keyword place position bytes)
    else if type == identifiers_type
    then map_form identifiers (read_all place position (read_names place position) bytes)
    else if type == assignments_type
    then map_form assignments (read_all place position (read_assignment place position) bytes)
    else map_form fragment_of_value
    (read_of_type place position type (column_type type) (is_unsigned_parameter flags) bytes)

-- a fragment, with its type and its flags
abbrev pub read_fragment : (place position : ℕ) → List ℕ → FormReading FragmentContent
read_fragment place position [] = Err (form_end place position)
read_fragment place position (type ∷ []) = Err (form_end place position)
read_fragment place position (type ∷ flags ∷ bytes) =
    read_fragment_of place position (layout_type type) flags bytes

-- ---- parameters

-- why a name is refused after parameters that give this; the name itself is at `at`
abbrev pub name_refusal : (place position at : ℕ) → GivenFragments → List ℕ → Option FormRefusal
name_refusal place position at (positional []) name = None
name_refusal place position at (positional (fragment ∷ fragments)) [] = None
name_refusal place position at (positional (fragment ∷ fragments)) (b ∷ name) =
    Some (mixed_form place position)
name_refusal place position at (named entries) [] = Some (mixed_form place position)
name_refusal place position at (named entries) (b ∷ name) =
    if finite.contains_key entries (b ∷ name)
    then Some (repeated_name place at (length (b ∷ name)))
    else None

-- the fragments with one more, whose name is not refused
abbrev pub with_parameter : GivenFragments → List ℕ → Fragment → GivenFragments
with_parameter (positional []) [] fragment = positional (fragment ∷ [])
with_parameter (positional []) (b ∷ name) fragment =
    named (finite.insert finite.empty (b ∷ name) fragment)
with_parameter (positional (first ∷ fragments)) name fragment =
    positional (first ∷ fragments ++ fragment ∷ [])
with_parameter (named entries) name fragment = named (finite.insert entries name fragment)

-- after a name: its refusal, or else its fragment with it
abbrev pub fragment_unless : Option FormRefusal → (place position : ℕ) → (name bytes : List ℕ)
    → FormReading (List ℕ × FragmentContent)
fragment_unless (Some refusal) place position name bytes = Err refusal
fragment_unless None place position name bytes =
    map_form (λ content. (name, content)) (read_fragment place position bytes)

-- the parameter at the front of these bytes, which are the end of a form of `total` bytes: its name
-- is read and checked, and then its fragment is read
abbrev pub read_parameter : (total place : ℕ) → GivenFragments → List ℕ
    → FormReading (List ℕ × FragmentContent)
read_parameter total place given bytes =
    and_then_form (read_name place (total - length bytes) bytes) (λ name rest. fragment_unless
    (name_refusal place (total - length bytes) (total - length rest - length name) given name)
    place (total - length bytes) name rest)

-- these bytes begin with a parameter, `more` has the fragments with it, and `rest` follows it
abbrev pub IsOneMore : (total place : ℕ) (given : GivenFragments) (bytes : List ℕ)
    (more : GivenFragments) (rest : List ℕ) → Type 0
IsOneMore total place given bytes more rest = (name : List ℕ) × (fragment : Fragment)
    × (read_parameter total place given bytes ≡ Ok ((name, content_of fragment), rest))
    × (more ≡ with_parameter given name fragment)

-- these bytes end a form after `place` parameters, which give this: the fragments of the whole
-- form, or why it is refused
pub data IsReadFrom : (total place : ℕ) → GivenFragments → List ℕ
    → Result GivenFragments FormRefusal → Type 0 where
  -- nothing is left
  read_to_end : (total place : ℕ) (given : GivenFragments) →
      IsReadFrom total place given [] (Ok given)
  -- the next parameter is refused
  refused_at : (total place : ℕ) (given : GivenFragments) (b : ℕ) (bytes : List ℕ)
      (refusal : FormRefusal) → read_parameter total place given (b ∷ bytes) ≡ Err refusal →
      IsReadFrom total place given (b ∷ bytes) (Err refusal)
  -- the next parameter is read, and then the bytes after it
  read_on : (total place : ℕ) (given : GivenFragments) (b : ℕ) (bytes : List ℕ)
      (more : GivenFragments) (rest : List ℕ) (reading : Result GivenFragments FormRefusal) →
      IsOneMore total place given (b ∷ bytes) more rest →
      IsReadFrom total (place + 1) more rest reading →
      IsReadFrom total place given (b ∷ bytes) reading

-- The fragments of a form, or why it is refused: its parameters are read in order, and the first
-- refusal ends the reading. The empty form has no fragments, by position.
abbrev pub IsFormReading : List ℕ → Result GivenFragments FormRefusal → Type 0
IsFormReading form = IsReadFrom (length form) 0 (positional []) form
