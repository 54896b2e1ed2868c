-- The SQL literal of a value (MySQL Reference Manual, "Literal Values"), by the texts of
-- mysql_sql_text. A mode is the flag `no_backslash_escape`: `true` is the mode without backslash
-- escapes.
use Rattle.std.specs.Prelude.{ℕ, Bool, true, false, List, [], codes, Option, Some, None, unwrap_or}
use Rattle.std.specs.Fmt.{decimal, signed_decimal}
use Rattle.mysql_sql_text.specs.LiteralParts.{bytes_literal, date_text, quoted, time_text}
use Rattle.mysql_value_core.specs.declared.value.Value.{Value}
use Rattle.mysql_value_core.specs.declared.value.Value.TheVariants.{NULL, Bytes, Int, UInt, Float, Double, Date, Time}

-- the literal of a value; a float has none
abbrev pub literal_of : Bool → Value → Option (List ℕ)
literal_of mode NULL = Some (codes "NULL")
literal_of mode (Bytes bytes) = Some (bytes_literal mode bytes)
literal_of mode (Int number) = Some (signed_decimal number)
literal_of mode (UInt number) = Some (decimal number)
literal_of mode (Float bits) = None
literal_of mode (Double bits) = None
literal_of mode (Date year month day hour minute second microseconds) =
    Some (quoted (date_text year month day hour minute second microseconds))
literal_of mode (Time negative days hours minutes seconds microseconds) =
    Some (quoted (time_text negative days hours minutes seconds microseconds))

-- the bytes of this literal; none for a float
abbrev pub literal_text : Bool → Value → List ℕ
literal_text mode value = unwrap_or (literal_of mode value) []

-- whether a value is a float, of either width
abbrev pub is_float : Value → Bool
is_float (Float bits) = true
is_float (Double bits) = true
is_float value = false
