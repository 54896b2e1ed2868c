-- The content of a value, in the terms in which a literal is read. An integer of either type has a
-- number. A date or a time has the bytes between the quotes of its literal.
use Rattle.std.specs.Prelude.{pos, Option, Some, None}
use Rattle.mysql_sql_text.specs.ReadLiteral.{Content, null, number, byte_string}
use Rattle.mysql_value_core.specs.declared.value.Value.{Value}
use Rattle.mysql_value_core.specs.declared.value.Value.TheVariants.{NULL, Bytes, Int, UInt, Float, Double, Date, Time}
use Rattle.mysql_sql_text.specs.LiteralParts.{date_text, time_text}

-- the content of a value; a float has none
abbrev pub content_of : Value → Option Content
content_of NULL = Some null
content_of (Bytes bytes) = Some (byte_string bytes)
content_of (Int n) = Some (number n)
content_of (UInt n) = Some (number (pos n))
content_of (Float bits) = None
content_of (Double bits) = None
content_of (Date year month day hour minute second microseconds) =
    Some (byte_string (date_text year month day hour minute second microseconds))
content_of (Time negative days hours minutes seconds microseconds) =
    Some (byte_string (time_text negative days hours minutes seconds microseconds))
