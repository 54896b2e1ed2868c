-- The shape of every steady literal.
use Rattle.std.specs.Prelude.{ℕ, List, ◌++◌, codes, [], ◌∷◌, ⊤}
use Rattle.mysql_sql_text.specs.StringUnits.{without_backslashes}
use Rattle.mysql_sql_text.specs.LiteralShape.{AreHexadecimalPairs, IsLiteral, IsQuoted}
use Rattle.mysql_portable.specs.SteadyBytes.{IsSteady}

-- A literal of the mode without backslash escapes; or `_utf8mb4` and a literal in quotes of that
-- mode, or `_utf8mb4 0x` and hexadecimal digits.
pub data IsSteadyLiteral : List ℕ → Type 0 where
  bare_literal : (literal : List ℕ) → IsLiteral without_backslashes literal
      → IsSteadyLiteral literal
  introduced_string : (literal : List ℕ) → IsQuoted without_backslashes literal
      → IsSteadyLiteral (codes "_utf8mb4" ++ literal)
  introduced_pairs : (pairs : List ℕ) → AreHexadecimalPairs pairs
      → IsSteadyLiteral (codes "_utf8mb4 0x" ++ pairs)

-- each of the texts has the shape of a steady literal, and is steady
abbrev pub AreSteadyLiterals : List (List ℕ) → Type 0
AreSteadyLiterals [] = ⊤
AreSteadyLiterals (text ∷ texts) = IsSteadyLiteral text × IsSteady text × AreSteadyLiterals texts
