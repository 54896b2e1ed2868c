-- The contents of a source's bytes for the place of a name: a value, an exact number, a double, a
-- name of a table or a column, or a list. A list is a JSON array.
use Rattle.std.specs.Prelude.{◌==◌, ◌||◌, ℕ, Bool, true, false, List, [], ◌∷◌, map, if◌then◌else◌, Option, Some, None, option_map, option_and_then, pos, is_none}
use Rattle.std.specs.List.{list_any}
use Rattle.std.specs.Option.{option_or}
use Rattle.std.specs.Str.{byte, is_utf8}
use Rattle.std.specs.Float.{binary64, float_is_finite}
use Rattle.std.specs.Float.Ieee.{Float}
use Rattle.std.specs.Float.Parse.{parse_float}
use Rattle.json.specs.Json.{Json, null, boolean, number, string, array, object, Items, no_items, item, document}
use Rattle.mysql_float_literal.specs.DoubleText.{double_value}
use Rattle.mysql_values.specs.declared.value.Value.{Value}
use Rattle.mysql_values.specs.declared.value.Value.TheVariants as value
use Rattle.mysql_fragments.specs.declared.fragment.Item.{Item}
use Rattle.mysql_fragments.specs.declared.fragment.Item.TheVariants as one_item
use Rattle.mysql_fragments.specs.declared.fragment.Fragment.{Fragment}
use Rattle.mysql_fragments.specs.declared.fragment.Fragment.TheVariants as one
use Rattle.mysql_fragments.specs.FragmentFaults.{number_fault, name_fault}
use Rattle.mysql_bind_core.specs.ValueTypes.{typed_value, number_value}
use Rattle.mysql_bind_core.specs.declared.assignment.Assignment.{Assignment}
use Rattle.mysql_bind_core.specs.declared.value_type.ValueType.{ValueType}
use Rattle.mysql_bind_core.specs.declared.value_type.ValueType.TheVariants.{Decimal, Double, Identifier, List as ListType}

-- ---- the contents of fragments, without the place of their bytes in memory

-- the content of an item of a list
pub data ItemContent : Type 0 where
  -- a value
  value_item : Value → ItemContent
  -- the text of an exact number
  exact_number : List ℕ → ItemContent
  -- a double
  double_number : Float → ItemContent

-- the content of the place of a name
pub data Content : Type 0 where
  -- a value
  value_content : Value → Content
  -- the text of an exact number
  number_content : List ℕ → Content
  -- a double
  double_content : Float → Content
  -- the name of a table or a column
  name_content : List ℕ → Content
  -- items
  list_content : List ItemContent → Content
  -- rows, a qualified name, a keyword, columns or assignments, which no type gives
  other_content : Content

-- the content of an item
abbrev pub item_said : Item → ItemContent
item_said (one_item.Value v) = value_item v
item_said (one_item.Decimal text) = exact_number text.items
item_said (one_item.Double double) = double_number (double_value double)

-- the content of a fragment
abbrev pub said : Fragment → Content
said (one.Value v) = value_content v
said (one.Decimal text) = number_content text.items
said (one.Double double) = double_content (double_value double)
said (one.List items) = list_content (map item_said items.items)
said (one.Identifier name) = name_content name.items
said (one.Rows rows) = other_content
said (one.Qualified names) = other_content
said (one.Keyword word) = other_content
said (one.Identifiers columns) = other_content
said (one.Assignments assignments) = other_content

-- ---- the contents of bytes

-- the text is an exact number of at most 65 digits
abbrev pub is_number : List ℕ → Bool
is_number text = is_none (number_fault 0 0 text)

-- an exact number
abbrev pub number_of : List ℕ → Option Content
number_of text = if is_number text then Some (number_content text) else None

-- the double nearest to the decimal number that the whole text is, if the double is finite
abbrev pub finite_double : List ℕ → Option Float
finite_double text =
    option_and_then (λ x. if float_is_finite x then Some x else None) (parse_float binary64 text)

-- a double
abbrev pub double_of : List ℕ → Option Content
double_of text = option_map double_content (finite_double text)

-- a name that servers take, in UTF-8
abbrev pub name_of : List ℕ → Option Content
name_of bytes =
    if is_utf8 bytes then (if is_none (name_fault 0 bytes) then Some (name_content bytes) else None)
    else None

-- an exact number as an item
abbrev pub exact_item : List ℕ → Option ItemContent
exact_item text = if is_number text then Some (exact_number text) else None

-- a double as an item
abbrev pub double_item : List ℕ → Option ItemContent
double_item text = option_map double_number (finite_double text)

-- the text has an `e` or an `E`
abbrev pub has_exponent : List ℕ → Bool
has_exponent text = list_any (λ b. b == byte "e" || b == byte "E") text

-- the item of a number: a double if it has an exponent, else a whole number if 64 bits hold it, or
-- else an exact number
abbrev pub number_item : List ℕ → Option ItemContent
number_item text =
    if has_exponent text then double_item text
    else option_or (option_map value_item (number_value text)) (exact_item text)

-- the item of a JSON value
abbrev pub item_of : Json → Option ItemContent
item_of null = Some (value_item value.NULL)
item_of (boolean true) = Some (value_item (value.Int (pos 1)))
item_of (boolean false) = Some (value_item (value.Int (pos 0)))
item_of (number text) = number_item text
item_of (string text) = Some (value_item (value.Bytes text))
item_of (array items) = None
item_of (object _) = None

-- the results for all elements, in order; none if one element has none
abbrev pub all_of : {X Y : Type 0} → (X → Option Y) → List X → Option (List Y)
all_of f [] = Some []
all_of f (x ∷ xs) = option_and_then (λ y. option_map (λ ys. y ∷ ys) (all_of f xs)) (f x)

-- the values of a JSON array, in order
abbrev pub list_of : Items → List Json
list_of no_items = []
list_of (item j js) = j ∷ list_of js

-- the list of a JSON array that isn't empty
abbrev pub list_of_json : Option Json → Option Content
list_of_json (Some (array (item j js))) = option_map list_content (all_of item_of (j ∷ list_of js))
list_of_json (Some (array no_items)) = None
list_of_json (Some null) = None
list_of_json (Some (boolean b)) = None
list_of_json (Some (number text)) = None
list_of_json (Some (string text)) = None
list_of_json (Some (object _)) = None
list_of_json None = None

-- the list of a JSON text
abbrev pub list_in : List ℕ → Option Content
list_in bytes = if is_utf8 bytes then list_of_json (document bytes) else None

-- the content of the bytes as this type; none if they have none
abbrev pub content : ValueType → List ℕ → Option Content
content Decimal bytes = number_of bytes
content Double bytes = double_of bytes
content Identifier bytes = name_of bytes
content ListType bytes = list_in bytes
content value_type bytes = option_map value_content (typed_value value_type bytes)

-- ---- assignments

-- the type gives values
abbrev pub is_value_type : ValueType → Bool
is_value_type Decimal = false
is_value_type Double = false
is_value_type Identifier = false
is_value_type ListType = false
is_value_type value_type = true

-- one of the assignments is a fragment
abbrev pub has_fragment : List Assignment → Bool
has_fragment assignments =
    list_any (λ a. if is_value_type a.value_type then false else true) assignments

-- the name of an assignment, and the content of its bytes; none if they have none
abbrev pub named_content : Assignment → Option (List ℕ × Content)
named_content a = option_map (λ c. (a.name.items, c)) (content a.value_type a.bytes.items)

-- the name and the content of each assignment; none if the bytes of one have none
abbrev pub contents_of : List Assignment → Option (List (List ℕ × Content))
contents_of = all_of named_content
