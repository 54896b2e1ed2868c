-- How a server reads a literal in a character set: it reads longer characters first, so that their
-- later bytes close and escape nothing (MySQL's `get_text` and `my_ismbchar`), and strings side by
-- side are one (MySQL Reference Manual, "String Literals"). This shares nothing with the definition
-- of written literals, and no code uses it.
use Rattle.std.specs.Prelude.{ℕ, zero, suc, nat_le, Bool, ◌≡◌, ◌==◌, ◌&&◌, List, [], ◌∷◌, ◌++◌, codes, Option, Some, None, option_map, option_and_then, if◌then◌else◌}
use Rattle.std.specs.Str.{byte}
use Rattle.mysql_sql_text.specs.ReadLiteral.{Content, byte_string, after, begins_pair, prefix_read, unescaped}
use Rattle.mysql_portable.specs.CharacterSet.{CharacterSet}
use Rattle.mysql_steady_text.specs.SteadyReader.{read_steady_literal}

-- The bytes of the units after an opening quote, up to a quote that no quote follows, and the text
-- after it, if the first `left` bytes belong to a character that has begun; `None` if no quote ends
-- them. The bytes of a longer character stand for themselves. Of other bytes, two quotes in a row
-- are one, a single quote ends the units, and a pair stands for its unescaped bytes.
abbrev pub read_units_in : CharacterSet → Bool → ℕ → List ℕ → Option (List ℕ × List ℕ)
read_units_in set mode left [] = None
read_units_in set mode (suc left) (a ∷ text) =
    prefix_read (a ∷ []) (read_units_in set mode left text)
read_units_in set mode zero (a ∷ []) = if a == byte "'" then Some ([], []) else None
read_units_in set mode zero (a ∷ b ∷ text) =
    if nat_le 128 a
    then prefix_read (a ∷ []) (read_units_in set mode (set a (b ∷ text)) (b ∷ text)) else (
    if a == byte "'" && b == byte "'"
    then prefix_read (codes "'") (read_units_in set mode zero text) else (
    if a == byte "'" then Some ([], b ∷ text) else (
    if begins_pair mode a then prefix_read (unescaped b) (read_units_in set mode zero text) else
    prefix_read (a ∷ []) (read_units_in set mode zero (b ∷ text)))))

-- the bytes of a string between single quotes, in a set, and the text after it
abbrev pub read_string_in : CharacterSet → Bool → List ℕ → Option (List ℕ × List ℕ)
read_string_in set mode text =
    option_and_then (read_units_in set mode zero) (after (codes "'") text)

-- the content of the literal that a text begins with, and the rest of the text: a string in this
-- set, or else a number, a word or hexadecimal digits, with an introducer or without
abbrev pub read_in : CharacterSet → Bool → List ℕ → Option (Content × List ℕ)
read_in set mode [] = None
read_in set mode (b ∷ text) =
    if b == byte "'"
    then option_map (λ r. (byte_string r.0, r.1)) (read_string_in set mode (b ∷ text))
    else read_steady_literal mode (b ∷ text)

-- The text begins with strings of these bytes, and goes on with the rest. Each follows the one
-- before it after a space.
pub data AreStringsIn (set : CharacterSet) (mode : Bool) : List ℕ → List ℕ → List ℕ → Type 0 where
  one_string : (text bytes rest : List ℕ) → read_string_in set mode text ≡ Some (bytes, rest)
      → AreStringsIn set mode text bytes rest
  more_strings : (text bytes more others rest : List ℕ)
      → read_string_in set mode text ≡ Some (bytes, codes " " ++ more)
      → AreStringsIn set mode more others rest → AreStringsIn set mode text (bytes ++ others) rest

-- The text begins with a literal of this content, and goes on with the rest: it is one literal, or
-- strings side by side.
pub data IsReadIn (set : CharacterSet) (mode : Bool) : List ℕ → Content → List ℕ → Type 0 where
  read_as_one : (text : List ℕ) (content : Content) (rest : List ℕ)
      → read_in set mode text ≡ Some (content, rest) → IsReadIn set mode text content rest
  read_as_strings : (text bytes rest : List ℕ) → AreStringsIn set mode text bytes rest
      → IsReadIn set mode text (byte_string bytes) rest
