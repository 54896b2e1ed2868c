-- The literal of a value is read as the content of the value, before any text that may follow it.
use Rattle.std.specs.Prelude.{ℕ, Bool, List, IsTrue, IsSomeAnd, ⊤}
use Rattle.std.specs.Str.{is_utf8}
use Rattle.mysql_sql_text.specs.ReadLiteral.{byte_string}
use Rattle.mysql_sql_text.specs.LiteralEnd.{ReadsBefore, continues_literal, is_single_quote}
use Rattle.mysql_value_core.specs.declared.value.Value.{Value}
use Rattle.mysql_value_core.specs.declared.value.Value.TheVariants.{Bytes}
use Rattle.mysql_value_core.specs.Content.{content_of}

-- `P` is true for the bytes of a value, if they are UTF-8
abbrev pub OnUtf8Bytes : Value → (List ℕ → Type 0) → Type 0
OnUtf8Bytes (Bytes bytes) P = IsTrue (is_utf8 bytes) → P bytes
OnUtf8Bytes value P = ⊤

-- a literal is read as the content of a value
pub record ReadsAs (mode : Bool) (value : Value) (literal : List ℕ) : Type 0 where
  -- before every text that doesn't begin with a single quote, an ASCII digit or a letter
  pub content : IsSomeAnd (content_of value) (ReadsBefore continues_literal mode literal)
  -- for UTF-8 bytes, also before every text that doesn't begin with a single quote
  pub utf8_bytes :
      OnUtf8Bytes value (λ bytes. ReadsBefore is_single_quote mode literal (byte_string bytes))
