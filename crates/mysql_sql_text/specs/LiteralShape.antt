-- The shape of every literal (MySQL Reference Manual, "String Literals", "Hexadecimal Literals",
-- "Numeric Literals", "NULL Values"): the facts that are needed about the literals in a query.
use Rattle.std.specs.Prelude.{ℕ, Bool, true, false, IsTrue, List, [], ◌∷◌, ◌++◌, codes}
use Rattle.std.specs.Char.{is_ascii_digit}
use Rattle.std.specs.List.{list_all}
use Rattle.std.specs.Str.{byte}
use Rattle.mysql_sql_text.specs.StringUnits.{AreUnits}
use Rattle.mysql_sql_text.specs.ReadLiteral.{is_hexadecimal_digit}

-- one or more digits
abbrev pub AreDigits : List ℕ → Type 0
AreDigits [] = ⊥
AreDigits (b ∷ bytes) = IsTrue (is_ascii_digit b) × IsTrue (list_all is_ascii_digit bytes)

-- one or more pairs of hexadecimal digits
abbrev pub AreHexadecimalPairs : List ℕ → Type 0
AreHexadecimalPairs [] = ⊥
AreHexadecimalPairs (a ∷ []) = ⊥
AreHexadecimalPairs (a ∷ b ∷ []) = IsTrue (is_hexadecimal_digit a) × IsTrue (is_hexadecimal_digit b)
AreHexadecimalPairs (a ∷ b ∷ c ∷ bytes) =
    IsTrue (is_hexadecimal_digit a) × IsTrue (is_hexadecimal_digit b)
    × AreHexadecimalPairs (c ∷ bytes)

-- a closed string: a single quote, units, and a single quote
pub data IsClosedString (mode : Bool) : List ℕ → Type 0 where
  closed_string : (body : List ℕ) → AreUnits mode (byte "'") body
      → IsClosedString mode (codes "'" ++ body ++ codes "'")

-- one or more closed strings, each directly after the one before it
pub data AreClosedStrings (mode : Bool) : List ℕ → Type 0 where
  one_string : (string : List ℕ) → IsClosedString mode string → AreClosedStrings mode string
  more_strings : (string rest : List ℕ) → IsClosedString mode string → AreClosedStrings mode rest
      → AreClosedStrings mode (string ++ rest)

-- A literal in quotes. With backslash escapes it is one closed string. Without them it is one or
-- more, since a doubled quote ends one string and begins the next.
abbrev pub IsQuoted : Bool → List ℕ → Type 0
IsQuoted false literal = IsClosedString false literal
IsQuoted true literal = AreClosedStrings true literal

-- `NULL`, a whole number, hexadecimal digits after `0x`, or a literal in quotes
pub data IsLiteral (mode : Bool) : List ℕ → Type 0 where
  null_literal : IsLiteral mode (codes "NULL")
  natural_literal : (digits : List ℕ) → AreDigits digits → IsLiteral mode digits
  negative_literal : (digits : List ℕ) → AreDigits digits → IsLiteral mode (codes "-" ++ digits)
  hexadecimal_literal : (pairs : List ℕ) → AreHexadecimalPairs pairs
      → IsLiteral mode (codes "0x" ++ pairs)
  quoted_literal : (literal : List ℕ) → IsQuoted mode literal → IsLiteral mode literal
