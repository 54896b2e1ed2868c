-- Texts that both modes read alike (MySQL Reference Manual, "String Literals", and "Server SQL
-- Modes", NO_BACKSLASH_ESCAPES), by the law `modes_agree`. Also *steady* texts, of bytes below 128
-- without a backslash, which every character set shows as they are, by the law `steady_texts`.
-- Outside of strings a backslash is a byte like any other in both modes.
use Rattle.std.specs.Prelude.{ℕ, IsTrue, Bool, true, not, List, [], ◌∷◌, Option, ⊤}
use Rattle.std.specs.List.{list_all, position}
use Rattle.mysql_named_params.specs.Tokens.{Token, QuotedString}
pub use Rattle.mysql_portable.specs.SteadyBytes.{is_no_backslash, is_steady, IsSteady}

-- the token has no backslash, if it is a string
abbrev pub holds_no_escape : Token → Bool
holds_no_escape (QuotedString quote tail) = list_all is_no_backslash tail
holds_no_escape t = true

-- no string among the tokens has a backslash
abbrev pub HoldNoEscapes : List Token → Type 0
HoldNoEscapes [] = ⊤
HoldNoEscapes (t ∷ ts) = IsTrue (holds_no_escape t) × HoldNoEscapes ts

-- the index of the first byte that isn't steady
abbrev pub first_unsteady : List ℕ → Option ℕ
first_unsteady text = position (λ b. not (is_steady b)) text
