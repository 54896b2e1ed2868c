-- Steady texts, which both modes read alike and every character set shows as they are.
use Rattle.std.specs.Prelude.{ℕ, IsTrue, Bool, not, ◌==◌, ◌&&◌, nat_lt, List}
use Rattle.std.specs.List.{list_all}
use Rattle.std.specs.Str.{byte}

-- any byte except the backslash
abbrev pub is_no_backslash : ℕ → Bool
is_no_backslash b = not (b == byte "\\")

-- a steady byte: ASCII, and no backslash
abbrev pub is_steady : ℕ → Bool
is_steady b = nat_lt b 128 && is_no_backslash b

-- a steady text: each of its bytes is steady
abbrev pub IsSteady : List ℕ → Type 0
IsSteady text = IsTrue (list_all is_steady text)
