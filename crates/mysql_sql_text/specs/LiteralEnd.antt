-- The end of a literal: the bytes that may continue it, and its reading before all other bytes.
-- After a number or a word, a server also continues at `.`, `_`, `$` and bytes from 128 on (MySQL
-- Reference Manual, "Numeric Literals", "Schema Object Names"), as in `5.5` and `5_a`. The reader
-- of ReadLiteral stops there, and the tests below name none of these bytes. So whoever joins texts
-- by hand has to check that none of them follows a literal. This module says nothing about the text
-- before a literal. There the same bytes, a letter, a digit and a quote join it too, such as `'a'`
-- before `'b'`.
use Rattle.std.specs.Prelude.{◌≡◌, ℕ, nat_le, Bool, ◌==◌, ◌&&◌, ◌||◌, List, [], ◌∷◌, ◌++◌, Some, IsFalse, ⊤}
use Rattle.std.specs.Char.{is_ascii_digit}
use Rattle.std.specs.Str.{byte}
use Rattle.mysql_sql_text.specs.ReadLiteral.{Content, read_literal}

-- whether a byte is a single quote
abbrev pub is_single_quote : ℕ → Bool
is_single_quote b = b == byte "'"

-- whether a byte is an ASCII letter
abbrev pub is_letter : ℕ → Bool
is_letter b =
    (nat_le (byte "A") b && nat_le b (byte "Z")) || (nat_le (byte "a") b && nat_le b (byte "z"))

-- whether a byte may continue the literal before it: a single quote, an ASCII digit or letter
abbrev pub continues_literal : ℕ → Bool
continues_literal b = is_single_quote b || (is_ascii_digit b || is_letter b)

-- the text is empty, or its first byte fails the test
abbrev pub BeginsWithout : (ℕ → Bool) → List ℕ → Type 0
BeginsWithout test [] = ⊤
BeginsWithout test (b ∷ text) = IsFalse (test b)

-- Before every text whose first byte, if any, fails the test, a literal is read as this content,
-- and the text is left.
abbrev pub ReadsBefore : (ℕ → Bool) → Bool → List ℕ → Content → Type 0
ReadsBefore test mode literal content =
    (rest : List ℕ) → BeginsWithout test rest
    → read_literal mode (literal ++ rest) ≡ Some (content, rest)
