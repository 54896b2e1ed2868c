-- The bytes after a token that decide whether it is one.
use Rattle.std.specs.Prelude.{◌≡◌, ◌==◌, ◌||◌, ℕ, if◌then◌else◌, Bool, IsTrue, List, [], ◌∷◌, ◌++◌, take}
use Rattle.mysql_sql_text.specs.StringUnits.{is_escape, AreUnits}
use Rattle.mysql_named_params.specs.Bytes.{asterisk, backquote, colon, dash, newline, slash, Lacks}
use Rattle.mysql_named_params.specs.Tokens.{Token, QuotedString, QuotedIdentifier, HashComment, DashComment, BlockComment, Name, Plain}

-- The number of bytes after a token that it looks at. A name looks at one. The plain bytes `-` and
-- `/` look at two, and the plain byte `:` at one. Every other token looks at none.
abbrev pub looks_at : Token → ℕ
looks_at (Name name) = 1
looks_at (Plain b) = if b == dash || b == slash then 2 else (if b == colon then 1 else 0)
looks_at t = 0

-- the bytes after the opening quote of a string that isn't closed
pub data IsOpenTail (mode : Bool) (quote : ℕ) (tail : List ℕ) : Type 0 where
  -- units
  units_alone : AreUnits mode quote tail → IsOpenTail mode quote tail
  -- units, followed by an escape
  units_and_escape : (body : List ℕ) (b : ℕ) →
      AreUnits mode quote body → IsTrue (is_escape mode b) → body ++ b ∷ [] ≡ tail →
      IsOpenTail mode quote tail

-- the token is a string, an identifier or a comment without its closing bytes
abbrev pub IsOpen : Bool → Token → Type 0
IsOpen mode (QuotedString quote tail) = IsOpenTail mode quote tail
IsOpen mode (QuotedIdentifier tail) = Lacks (backquote ∷ []) tail
IsOpen mode (HashComment tail) = Lacks (newline ∷ []) tail
IsOpen mode (DashComment gap tail) = Lacks (newline ∷ []) tail
IsOpen mode (BlockComment tail) = Lacks (asterisk ∷ slash ∷ []) tail
IsOpen mode t = ⊥

-- the token finds the same in both rests, as far as it looks
pub record LooksAlike (mode : Bool) (t : Token) (rest other : List ℕ) : Type 0 where
  -- the bytes that it looks at are the same
  pub bytes : take (looks_at t) rest ≡ take (looks_at t) other
  -- an open token also looks at whether anything follows
  pub at_end : IsOpen mode t → rest ≡ [] → other ≡ []
