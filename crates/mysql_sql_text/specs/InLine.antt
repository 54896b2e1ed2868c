-- Texts in one line: without a newline, which ends a line for clients, and without a byte 0, at
-- which clients stop.
use Rattle.std.specs.Prelude.{◌==◌, ◌&&◌, not, ℕ, Bool, IsTrue, List, [], ◌∷◌, ⊤}
use Rattle.std.specs.List.{list_all}
use Rattle.std.specs.Str.{byte}

-- the byte is neither 0 nor a newline
abbrev pub is_in_line : ℕ → Bool
is_in_line b = not (b == 0) && not (b == byte "\n")

-- the text has only such bytes
abbrev pub IsInLine : List ℕ → Type 0
IsInLine text = IsTrue (list_all is_in_line text)

-- each of the texts has only such bytes
abbrev pub AreInLine : List (List ℕ) → Type 0
AreInLine [] = ⊤
AreInLine (text ∷ texts) = IsInLine text × AreInLine texts
