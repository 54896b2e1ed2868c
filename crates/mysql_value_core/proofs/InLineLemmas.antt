-- Literals have no byte 0 and no newline, except strings of bytes that have one, without backslash escapes.
use Rattle.std.specs.Prelude.{Bool, IfSome, Option, None, Some, codes}
use Rattle.std.proofs.Common.{◌≡◌, ℕ, false, List, refl}
use Rattle.mysql_sql_text.specs.InLine.{IsInLine}
use Rattle.mysql_sql_text.specs.LiteralText.{bytes_literal}
use Rattle.mysql_sql_text.proofs.InLineLemmas.{StandsInLine, bytes_in_line, date_in_line, decimal_in_line, quoted_in_line, signed_in_line, time_in_line}
use Rattle.mysql_value_core.specs.declared.value.Value.{Value}
use Rattle.mysql_value_core.specs.declared.value.Value.TheVariants.{NULL, Bytes, Int, UInt, Float, Double, Date, Time}
use Rattle.mysql_value_core.specs.Literal.{literal_of}

pub null_in_line : StandsInLine (codes "NULL")
null_in_line = record { all = refl }

-- in either mode, if the literals of bytes are
pub literal_in_line : (mode : Bool) (v : Value) → ((bytes : List ℕ) → v ≡ Bytes bytes → StandsInLine (bytes_literal mode bytes)) →
    IfSome (literal_of mode v) StandsInLine
literal_in_line mode NULL string = null_in_line
literal_in_line mode (Bytes bytes) string = string bytes refl
literal_in_line mode (Int n) string = signed_in_line n
literal_in_line mode (UInt n) string = decimal_in_line n
literal_in_line mode (Float bits) string = tt
literal_in_line mode (Double bits) string = tt
literal_in_line mode (Date y m d h i s u) string = quoted_in_line (date_in_line y m d h i s u)
literal_in_line mode (Time n d h m s u) string = quoted_in_line (time_in_line n d h m s u)

pub escaped_literal_in_line : (v : Value) → IfSome (literal_of false v) StandsInLine
escaped_literal_in_line v = literal_in_line false v (λ bytes e. bytes_in_line bytes)

pub if_in_line : (o : Option (List ℕ)) → IfSome o StandsInLine → IfSome o IsInLine
if_in_line None h = tt
if_in_line (Some text) h = h.all
