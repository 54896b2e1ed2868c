-- The shape of every guarded literal: it is closed strings that are closed at the same places in
-- both modes, or a steady literal.
use Rattle.std.specs.Prelude.{ℕ, nat_le, Bool, true, false, not, ◌==◌, ◌&&◌, IsTrue, List, [], ◌∷◌, ◌++◌, codes, ⊤}
use Rattle.std.specs.Str.{byte}
use Rattle.mysql_sql_text.specs.StringUnits.{AreUnits, with_backslashes, without_backslashes}
use Rattle.mysql_portable.specs.SteadyBytes.{IsSteady}
use Rattle.mysql_steady_text.specs.SteadyShape.{IsSteadyLiteral}

-- a closed string: a single quote, bytes that are units in both modes, and a single quote
pub data IsGuardedString : List ℕ → Type 0 where
  guarded_string : (body : List ℕ) → AreUnits with_backslashes (byte "'") body
      → AreUnits without_backslashes (byte "'") body
      → IsGuardedString (codes "'" ++ body ++ codes "'")

-- One or more such strings. Each directly follows the one before it, since a doubled quote ends one
-- string and begins the next, or follows it after a space.
pub data AreGuardedStrings : List ℕ → Type 0 where
  one_guarded : (string : List ℕ) → IsGuardedString string → AreGuardedStrings string
  more_guarded : (string rest : List ℕ) → IsGuardedString string → AreGuardedStrings rest
      → AreGuardedStrings (string ++ rest)
  spaced_guarded : (string rest : List ℕ) → IsGuardedString string → AreGuardedStrings rest
      → AreGuardedStrings (string ++ (codes " " ++ rest))

-- a guarded literal
pub data IsGuardedLiteral : List ℕ → Type 0 where
  guarded_strings : (literal : List ℕ) → AreGuardedStrings literal → IsGuardedLiteral literal
  steady_literal : (literal : List ℕ) → IsSteadyLiteral literal → IsSteady literal
      → IsGuardedLiteral literal

-- each of the texts has the shape of a guarded literal
abbrev pub AreGuardedLiterals : List (List ℕ) → Type 0
AreGuardedLiterals [] = ⊤
AreGuardedLiterals (text ∷ texts) = IsGuardedLiteral text × AreGuardedLiterals texts

-- whether no backslash directly follows a byte from 128 on, by whether the byte before the text is
-- one
abbrev pub keeps_apart : Bool → List ℕ → Bool
keeps_apart high [] = true
keeps_apart high (b ∷ bytes) = not (high && b == byte "\\") && keeps_apart (nat_le 128 b) bytes

-- no backslash directly follows a byte from 128 on, so that no longer character takes one
abbrev pub KeepsApart : List ℕ → Type 0
KeepsApart text = IsTrue (keeps_apart false text)

-- so it is in each of the texts
abbrev pub AreKeptApart : List (List ℕ) → Type 0
AreKeptApart [] = ⊤
AreKeptApart (text ∷ texts) = KeepsApart text × AreKeptApart texts
