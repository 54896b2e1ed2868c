-- The values of a source's bytes by their type. Dates and times are texts: their literal is that of
-- the text. Exact numbers, doubles, names and lists are fragments (Contents.antt).
use Rattle.std.specs.Prelude.{◌-◌, ℕ, Bool, true, false, List, [], ◌∷◌, codes, length, take, if◌then◌else◌, nat_eq, Option, Some, None, option_map, Result, Ok, Err, pos, unsigned_abs}
use Rattle.std.specs.List.{list_any, ends_with}
use Rattle.std.specs.Option.{option_or}
use Rattle.std.specs.Str.{bytes_eq, is_utf8}
use Rattle.hex.specs.Hex as hexadecimal
use Rattle.base64.specs.GeneralPurpose as base64
use Rattle.base64.specs.Engines.{standard}
use Rattle.mysql_values.specs.declared.value.Value.{Value}
use Rattle.mysql_values.specs.declared.value.Value.TheVariants as value
use Rattle.mysql_values.specs.Intermediate.{committed}
use Rattle.mysql_values.specs.Value.{IsBytes}
use Rattle.mysql_values.specs.WholeNumber.{whole_conversion}
use Rattle.mysql_bind_core.specs.declared.value_type.ValueType.{ValueType}
use Rattle.mysql_bind_core.specs.declared.value_type.ValueType.TheVariants.{Null, Text, Line, Bytes, Int, Uint, Number, Bool as Truth, Hex, Base64, Decimal, Double, Identifier, List as ListType}

-- a newline
abbrev pub newline : ℕ
newline = 10

-- the bytes, if they are UTF-8
abbrev pub text_value : List ℕ → Option Value
text_value bytes = if is_utf8 bytes then Some (value.Bytes bytes) else None

-- the bytes without one newline at their end, and without a carriage return before it
abbrev pub line_of : List ℕ → List ℕ
line_of bytes =
    if ends_with nat_eq bytes (13 ∷ newline ∷ []) then take (length bytes - 2) bytes
    else if ends_with nat_eq bytes (newline ∷ []) then take (length bytes - 1) bytes
    else bytes

-- a newline is in the bytes
abbrev pub has_newline : List ℕ → Bool
has_newline bytes = list_any (λ b. nat_eq b newline) bytes

-- the text of a line, if it is one
abbrev pub line_value : List ℕ → Option Value
line_value bytes = if has_newline (line_of bytes) then None else text_value (line_of bytes)

-- the `Int` of a decimal text, if an `i64` holds its number
abbrev pub int_value : List ℕ → Option Value
int_value text = option_map (λ ir. value.Int (committed ir))
    (whole_conversion true 64 (λ number. number) (value.Bytes text))

-- the `UInt` of a decimal text, if a `u64` holds its number
abbrev pub uint_value : List ℕ → Option Value
uint_value text = option_map (λ ir. value.UInt (committed ir))
    (whole_conversion false 64 unsigned_abs (value.Bytes text))

-- the number of a decimal text, if an `i64` or else a `u64` holds it
abbrev pub number_value : List ℕ → Option Value
number_value text = option_or (int_value text) (uint_value text)

-- 1 for `true` and 0 for `false`
abbrev pub truth_value : List ℕ → Option Value
truth_value text =
    if bytes_eq text (codes "true") then Some (value.Int (pos 1))
    else if bytes_eq text (codes "false") then Some (value.Int (pos 0))
    else None

-- the bytes that a text decodes to, if it does
abbrev pub decoded_value : {E : Type 0} → Result (List ℕ) E → Option Value
decoded_value (Ok bytes) = Some (value.Bytes bytes)
decoded_value (Err why) = None

-- the bytes that hexadecimal digits spell
abbrev pub hex_value : List ℕ → Option Value
hex_value text = decoded_value (hexadecimal.decode_of text)

-- the bytes that a text in base64 encodes
abbrev pub base64_value : List ℕ → Option Value
base64_value text = decoded_value (base64.decode_of standard text)

-- the value that the bytes mean as this type; none if they mean none
abbrev pub typed_value : ValueType → List ℕ → Option Value
typed_value Null bytes = Some value.NULL
typed_value Text bytes = text_value bytes
typed_value Line bytes = line_value bytes
typed_value Bytes bytes = Some (value.Bytes bytes)
typed_value Int bytes = int_value bytes
typed_value Uint bytes = uint_value bytes
typed_value Number bytes = number_value bytes
typed_value Truth bytes = truth_value bytes
typed_value Hex bytes = hex_value bytes
typed_value Base64 bytes = base64_value bytes
typed_value Decimal bytes = None
typed_value Double bytes = None
typed_value Identifier bytes = None
typed_value ListType bytes = None

-- there is a value, and it is bytes
abbrev pub IsSomeBytes : Option Value → Type 0
IsSomeBytes (Some found) = IsBytes found
IsSomeBytes None = ⊥

-- whether bytes are copied or decoded for a value of this type, for which memory may be refused
abbrev pub takes_memory : ValueType → Bool
takes_memory Text = true
takes_memory Line = true
takes_memory Bytes = true
takes_memory Hex = true
takes_memory Base64 = true
takes_memory value_type = false
