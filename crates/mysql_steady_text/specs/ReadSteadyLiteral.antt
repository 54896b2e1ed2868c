-- The steady literal of a value reads as the content of the value. The reader is re-exported.
use Rattle.std.specs.Prelude.{◌≡◌, ℕ, Bool, List, ◌++◌, Some, IsSomeAnd}
use Rattle.mysql_sql_text.specs.ReadLiteral.{Content}
use Rattle.mysql_sql_text.specs.LiteralEnd.{BeginsWithout, continues_literal}
use Rattle.mysql_values.specs.declared.value.Value.{Value}
use Rattle.mysql_values.specs.Content.{content_of}
pub use Rattle.mysql_steady_text.specs.SteadyReader.{read_after_introducer, read_introduced, read_steady_literal}

-- in either mode and before every text that begins with no single quote, ASCII digit or letter, a
-- literal reads as this content, and that text is left
abbrev pub ReadsSteadyBefore : List ℕ → Content → Type 0
ReadsSteadyBefore literal content =
    (mode : Bool) (rest : List ℕ) → BeginsWithout continues_literal rest
    → read_steady_literal mode (literal ++ rest) ≡ Some (content, rest)

-- the literal reads so as the content of the value
abbrev pub ReadsSteadyAs : Value → List ℕ → Type 0
ReadsSteadyAs value literal = IsSomeAnd (content_of value) (ReadsSteadyBefore literal)
