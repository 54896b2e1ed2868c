-- The words of the options that give a value or a column to a name: `NAME`, `NAME:TYPE`,
-- `NAME=REST` and `NAME:TYPE=REST`. The first `=` ends the front, and the first colon in the front
-- ends the name. So a name has neither, and a REST has any bytes.
use Rattle.std.specs.Prelude.{◌==◌, ◌||◌, ℕ, Bool, List, codes, if◌then◌else◌, Option, None, Some, is_some, option_and_then, option_map}
use Rattle.std.specs.List.{after_first, before_first, list_any}
use Rattle.std.specs.Str.{byte, bytes_eq}
use Rattle.mysql_bind_core.specs.Cells.{Said}
use Rattle.mysql_bind_core.specs.declared.column.NamedColumn.{NamedColumn}
use Rattle.mysql_bind_core.specs.declared.column.NullText.{NullText}
use Rattle.mysql_bind_core.specs.declared.value_type.ValueType.{ValueType}
use Rattle.mysql_bind_core.specs.declared.value_type.ValueType.TheVariants as type

-- the sign before the rest
abbrev pub is_equals_sign : ℕ → Bool
is_equals_sign b = b == byte "="

-- the sign before the word of a type
abbrev pub is_colon : ℕ → Bool
is_colon b = b == byte ":"

-- what stands behind the first such sign; none if there is none
abbrev pub behind : (ℕ → Bool) → List ℕ → Option (List ℕ)
behind is_sign text = if list_any is_sign text then Some (after_first is_sign text) else None

-- what stands before the rest
abbrev pub front_of : List ℕ → List ℕ
front_of = before_first is_equals_sign

-- the rest
abbrev pub rest_of : List ℕ → Option (List ℕ)
rest_of = behind is_equals_sign

-- the name
abbrev pub name_of : List ℕ → List ℕ
name_of word = before_first is_colon (front_of word)

-- the word of the type
abbrev pub type_word_of : List ℕ → Option (List ℕ)
type_word_of word = behind is_colon (front_of word)

-- the type with this name
abbrev pub type_named : List ℕ → Option ValueType
type_named word =
    if bytes_eq word (codes "text") then Some type.Text
    else if bytes_eq word (codes "line") then Some type.Line
    else if bytes_eq word (codes "bytes") then Some type.Bytes
    else if bytes_eq word (codes "int") then Some type.Int
    else if bytes_eq word (codes "uint") then Some type.Uint
    else if bytes_eq word (codes "bool") then Some type.Bool
    else if bytes_eq word (codes "hex") then Some type.Hex
    else if bytes_eq word (codes "base64") then Some type.Base64
    else if bytes_eq word (codes "decimal") then Some type.Decimal
    else if bytes_eq word (codes "double") then Some type.Double
    else if bytes_eq word (codes "identifier") then Some type.Identifier
    else if bytes_eq word (codes "list") then Some type.List
    else None

-- the type with this name, and text without a name; none if no type has the name
abbrev pub type_or_text : Option (List ℕ) → Option ValueType
type_or_text (Some word) = type_named word
type_or_text None = Some type.Text

-- what a word says of its name, if the name gets these bytes; none if no type has the name that the
-- word gives
abbrev pub said_of_bytes : List ℕ → List ℕ → Option Said
said_of_bytes word bytes =
    option_map (λ value_type. (name_of word, (value_type, bytes)))
    (type_or_text (type_word_of word))

-- the name, the type and the value of a word `NAME=VALUE` or `NAME:TYPE=VALUE`
abbrev pub set_by_word : List ℕ → Option Said
set_by_word word = option_and_then (said_of_bytes word) (rest_of word)

-- a column that an option names: its name, its type and its header
abbrev pub NamedSeen : Type 0
NamedSeen = List ℕ × (ValueType × List ℕ)

-- the view of such a column
abbrev pub named_seen : NamedColumn → NamedSeen
named_seen column = (column.name.items, (column.value_type, column.header.items))

-- the word says a type or a header
abbrev pub says_of_column : List ℕ → Bool
says_of_column word = is_some (type_word_of word) || is_some (rest_of word)

-- the rest, or the name if there is none
abbrev pub rest_or_name : Option (List ℕ) → List ℕ → List ℕ
rest_or_name (Some rest) name = rest
rest_or_name None name = name

-- the column of a word `NAME:TYPE`, `NAME=HEADER` or `NAME:TYPE=HEADER`
abbrev pub column_by_word : List ℕ → Option NamedSeen
column_by_word word =
    if says_of_column word
    then option_map
    (λ value_type. (name_of word, (value_type, rest_or_name (rest_of word) (name_of word))))
    (type_or_text (type_word_of word))
    else None

-- a text that means NULL: the name of its column, and the text
abbrev pub null_seen : NullText → List ℕ × List ℕ
null_seen null = (null.name.items, null.text.items)

-- the parts of bytes before and behind their first `=`
abbrev pub pair_parts : List ℕ → Option (List ℕ × List ℕ)
pair_parts pair =
    option_map (λ value. (before_first is_equals_sign pair, value)) (behind is_equals_sign pair)

-- a byte 0, which ends a pair
abbrev pub is_zero : ℕ → Bool
is_zero b = b == 0

-- the first of pairs that each end in a byte 0, and the pairs behind it
abbrev pub first_pair : List ℕ → Option (List ℕ × List ℕ)
first_pair pairs =
    option_map (λ others. (before_first is_zero pairs, others)) (behind is_zero pairs)
