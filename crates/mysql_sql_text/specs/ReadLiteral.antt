-- The reading of a literal. It reads the forms that are written, and some similar ones: zeros in
-- front (`007`), hexadecimal digits in either case (`0xaB`), and escapes that are never written
-- (`'\q'`) (MySQL Reference Manual, "NULL Values", "Hexadecimal Literals", "Numeric Literals",
-- "String Literals" and its table "Special Character Escape Sequences"). This isn't the manual's
-- whole grammar: only the `5` of `5.5` is read, `null`, `x'41'` and `".."` aren't read, and
-- hexadecimal digits are read only in pairs. It shares nothing with the definition of written
-- literals, and no code uses it. A mode is the flag `no_backslash_escape`: `true` is the mode
-- without backslash escapes.
use Rattle.std.specs.Prelude.{ℕ, ◌+◌, ◌-◌, ◌*◌, nat_le, Bool, true, false, ◌==◌, ◌&&◌, ◌||◌, List, [], ◌∷◌, ◌++◌, codes, Option, Some, None, option_map, option_and_then, ℤ, pos, neg_ℤ, if◌then◌else◌}
use Rattle.std.specs.Char.{is_ascii_digit}
use Rattle.std.specs.Option.{option_or}
use Rattle.std.specs.Str.{byte}

-- the content of a literal: null, a whole number, or bytes
pub data Content : Type 0 where
  null : Content
  number : ℤ → Content
  byte_string : List ℕ → Content

-- the text after a word at the front of a text
abbrev pub after : List ℕ → List ℕ → Option (List ℕ)
after [] text = Some text
after (a ∷ word) [] = None
after (a ∷ word) (b ∷ text) = if a == b then after word text else None

-- whether a byte is a hexadecimal digit, of either case
abbrev pub is_hexadecimal_digit : ℕ → Bool
is_hexadecimal_digit b =
    is_ascii_digit b
    || ((nat_le (byte "A") b && nat_le b (byte "F"))
    || (nat_le (byte "a") b && nat_le b (byte "f")))

-- the number of a hexadecimal digit
abbrev pub hexadecimal_digit_value : ℕ → ℕ
hexadecimal_digit_value b =
    if is_ascii_digit b then b - byte "0" else (
    if nat_le b (byte "F") then 10 + (b - byte "A") else 10 + (b - byte "a"))

-- the bytes of the longest run of pairs of hexadecimal digits, and the text after it
abbrev pub read_pairs : List ℕ → List ℕ × List ℕ
read_pairs [] = ([], [])
read_pairs (a ∷ []) = ([], a ∷ [])
read_pairs (a ∷ b ∷ text) =
    if is_hexadecimal_digit a && is_hexadecimal_digit b
    then (
      (16 * hexadecimal_digit_value a + hexadecimal_digit_value b) ∷ (read_pairs text).0,
      (read_pairs text).1,
    )
    else ([], a ∷ b ∷ text)

-- bytes, if there are any, and the text after them
abbrev pub if_any : List ℕ × List ℕ → Option (Content × List ℕ)
if_any ([], text) = None
if_any (b ∷ bytes, text) = Some (byte_string (b ∷ bytes), text)

-- the number `n`, continued by the digits at the front, and the text after these digits
abbrev pub read_digits : ℕ → List ℕ → ℕ × List ℕ
read_digits n [] = (n, [])
read_digits n (b ∷ text) =
    if is_ascii_digit b then read_digits (10 * n + (b - byte "0")) text else (n, b ∷ text)

-- the number of the longest run of digits, which has at least one, and the text after it
abbrev pub read_natural : List ℕ → Option (ℕ × List ℕ)
read_natural [] = None
read_natural (b ∷ text) = if is_ascii_digit b then Some (read_digits 0 (b ∷ text)) else None

-- The bytes for which a backslash and this byte stand. Before `%` and `_` the backslash stays.
-- Before a byte that isn't named here, it is ignored.
abbrev pub unescaped : ℕ → List ℕ
unescaped b =
    if b == byte "0" then 0 ∷ [] else (
    if b == byte "b" then 8 ∷ [] else (
    if b == byte "t" then byte "\t" ∷ [] else (
    if b == byte "n" then byte "\n" ∷ [] else (
    if b == byte "r" then byte "\r" ∷ [] else (
    if b == byte "Z" then 26 ∷ [] else (
    if b == byte "%" || b == byte "_" then byte "\\" ∷ b ∷ [] else b ∷ []))))))

-- Whether a byte begins a pair that stands for other bytes. `is_escape` of StringUnits is the same
-- test; this one is separate, since the reader shares nothing with written literals.
abbrev pub begins_pair : Bool → ℕ → Bool
begins_pair false b = b == byte "\\"
begins_pair true b = false

-- these bytes before those that are read
abbrev pub prefix_read : List ℕ → Option (List ℕ × List ℕ) → Option (List ℕ × List ℕ)
prefix_read bytes read = option_map (λ r. (bytes ++ r.0, r.1)) read

-- The bytes of the units after an opening quote, up to a quote that no quote follows, and the text
-- after it; `None` if no quote ends them. Two quotes in a row are one, and a single quote ends the
-- units. A pair stands for its unescaped bytes, and every other byte for itself.
abbrev pub read_units : Bool → List ℕ → Option (List ℕ × List ℕ)
read_units mode [] = None
read_units mode (a ∷ []) = if a == byte "'" then Some ([], []) else None
read_units mode (a ∷ b ∷ text) =
    if a == byte "'" && b == byte "'" then prefix_read (codes "'") (read_units mode text) else (
    if a == byte "'" then Some ([], b ∷ text) else (
    if begins_pair mode a then prefix_read (unescaped b) (read_units mode text) else
    prefix_read (a ∷ []) (read_units mode (b ∷ text))))

-- `NULL`
abbrev pub read_null : List ℕ → Option (Content × List ℕ)
read_null text = option_map (λ rest. (null, rest)) (after (codes "NULL") text)

-- `0x` and at least one pair of hexadecimal digits
abbrev pub read_hexadecimal : List ℕ → Option (Content × List ℕ)
read_hexadecimal text =
    option_and_then (λ digits. if_any (read_pairs digits)) (after (codes "0x") text)

-- at least one digit
abbrev pub read_unsigned : List ℕ → Option (Content × List ℕ)
read_unsigned text = option_map (λ r. (number (pos r.0), r.1)) (read_natural text)

-- `-` and at least one digit
abbrev pub read_negative : List ℕ → Option (Content × List ℕ)
read_negative text =
    option_and_then
    (λ digits. option_map (λ r. (number (neg_ℤ (pos r.0)), r.1)) (read_natural digits))
    (after (codes "-") text)

-- a string between single quotes
abbrev pub read_string : Bool → List ℕ → Option (Content × List ℕ)
read_string mode text =
    option_and_then (λ units. option_map (λ r. (byte_string r.0, r.1)) (read_units mode units))
    (after (codes "'") text)

-- The content of the literal with which a text begins, and the text after it: the first of these
-- readings that succeeds.
abbrev pub read_literal : Bool → List ℕ → Option (Content × List ℕ)
read_literal mode text =
    option_or (read_null text) (option_or (read_hexadecimal text)
    (option_or (read_negative text) (option_or (read_unsigned text) (read_string mode text))))
