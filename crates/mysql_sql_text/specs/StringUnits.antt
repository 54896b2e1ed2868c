-- The two modes in which strings are read, and the units of a string (MySQL Reference Manual,
-- "String Literals", and "Server SQL Modes", NO_BACKSLASH_ESCAPES). A mode is the flag
-- `no_backslash_escape`: `true` is the mode without backslash escapes.
use Rattle.std.specs.Prelude.{◌≢◌, ◌==◌, ℕ, Bool, true, false, IsTrue, IsFalse, List, [], ◌∷◌}
use Rattle.std.specs.Str.{byte}

-- the mode in which a backslash escapes the byte after it
abbrev pub with_backslashes : Bool
with_backslashes = false

-- the mode in which a backslash is a byte like any other
abbrev pub without_backslashes : Bool
without_backslashes = true

-- whether a byte escapes the one after it
abbrev pub is_escape : Bool → ℕ → Bool
is_escape false b = b == byte "\\"
is_escape true b = false

-- Units one after another, inside quotes of one kind. A unit is one byte that is neither the quote
-- nor an escape, or it is an escape and any one byte.
pub data AreUnits (mode : Bool) (quote : ℕ) : List ℕ → Type 0 where
  no_units : AreUnits mode quote []
  byte_unit : {b : ℕ} {bytes : List ℕ} → b ≢ quote → IsFalse (is_escape mode b)
      → AreUnits mode quote bytes → AreUnits mode quote (b ∷ bytes)
  escape_unit : {b c : ℕ} {bytes : List ℕ} → IsTrue (is_escape mode b)
      → AreUnits mode quote bytes → AreUnits mode quote (b ∷ c ∷ bytes)
