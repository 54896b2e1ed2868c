-- How an identifier in backquotes and an exact number are read (MySQL Reference Manual, "Schema
-- Object Names", "Numeric Literals"). It shares nothing with the definition of the written text,
-- and no code uses it.
use Rattle.std.specs.Prelude.{◌≡◌, ◌+◌, ◌*◌, ◌-◌, ◌==◌, ◌&&◌, ℕ, IsTrue, Bool, List, [], ◌∷◌, ◌++◌, codes, Option, None, Some, option_map, if◌then◌else◌, ℤ, pos, neg_ℤ}
use Rattle.std.specs.Char.{is_ascii_digit}
use Rattle.std.specs.Str.{byte}
use Rattle.mysql_sql_text.specs.LiteralEnd.{BeginsWithout}
use Rattle.mysql_sql_text.specs.ReadLiteral.{read_natural}
use Rattle.mysql_binding.specs.FirstNotAlone.{may_stand_after, none_or_first}

-- ---- identifiers

-- a backquote
abbrev pub is_backquote : ℕ → Bool
is_backquote b = b == byte "`"

-- a byte before the name that is read
abbrev pub with_byte : ℕ → Option (List ℕ × List ℕ) → Option (List ℕ × List ℕ)
with_byte b read = option_map (λ r. (b ∷ r.0, r.1)) read

-- The name after an opening backquote, up to a backquote that no backquote follows, and the rest of
-- the text; none if no backquote ends it. Two backquotes in a row are one.
abbrev pub read_name : List ℕ → Option (List ℕ × List ℕ)
read_name [] = None
read_name (a ∷ []) = if is_backquote a then Some ([], []) else None
read_name (a ∷ b ∷ text) =
    if is_backquote a && is_backquote b then with_byte b (read_name text) else (
    if is_backquote a then Some ([], b ∷ text) else with_byte a (read_name (b ∷ text)))

-- the name of the identifier in backquotes that a text begins with, and the rest of the text
abbrev pub read_identifier : List ℕ → Option (List ℕ × List ℕ)
read_identifier [] = None
read_identifier (b ∷ text) = if is_backquote b then read_name text else None

-- a point
abbrev pub is_point : ℕ → Bool
is_point b = b == byte "."

-- the text begins with the identifiers of these names, with `.` between them and no `.` after them,
-- and goes on with the rest
pub data AreReadAsNames : List ℕ → List (List ℕ) → List ℕ → Type 0 where
  read_last : (text name rest : List ℕ) → read_identifier text ≡ Some (name, rest) →
      BeginsWithout is_point rest → AreReadAsNames text (name ∷ []) rest
  read_more : (text name more : List ℕ) (names : List (List ℕ)) (rest : List ℕ) →
      read_identifier text ≡ Some (name, codes "." ++ more) → AreReadAsNames more names rest →
      AreReadAsNames text (name ∷ names) rest

-- ---- exact numbers

-- A number and how many of its last digits are after the point: `-1.50` is (-150, 2).
abbrev pub Exact : Type 0
Exact = ℤ × ℕ

-- after a point: the number so far with these digits after it, how many digits are after the point,
-- and the rest of the text
abbrev pub read_fraction : ℕ → ℕ → List ℕ → (ℕ × ℕ) × List ℕ
read_fraction n count [] = ((n, count), [])
read_fraction n count (b ∷ text) =
    if is_ascii_digit b then read_fraction (10 * n + (b - byte "0")) (count + 1) text
    else ((n, count), b ∷ text)

-- after the digits before a point: the point, if there is one, and the digits after it
abbrev pub read_after_whole : ℕ → List ℕ → (ℕ × ℕ) × List ℕ
read_after_whole n [] = ((n, 0), [])
read_after_whole n (b ∷ text) =
    if is_point b then read_fraction n 0 text else ((n, 0), b ∷ text)

-- a number without a sign: digits, and a point with digits after it, if there is one
abbrev pub read_unsigned : List ℕ → Option ((ℕ × ℕ) × List ℕ)
read_unsigned text = option_map (λ r. read_after_whole r.0 r.1) (read_natural text)

-- the exact number that a text begins with, and the rest of the text
abbrev pub read_exact : List ℕ → Option (Exact × List ℕ)
read_exact [] = None
read_exact (b ∷ text) =
    if b == byte "-"
    then option_map (λ r. ((neg_ℤ (pos r.0.0), r.0.1), r.1)) (read_unsigned text)
    else option_map (λ r. ((pos r.0.0, r.0.1), r.1)) (read_unsigned (b ∷ text))

-- before any text that may follow a place, the text reads as one number, which is all of it
abbrev pub ReadsAsOne : List ℕ → Type 0
ReadsAsOne text = (value : Exact) × ((rest : List ℕ) →
    IsTrue (none_or_first may_stand_after rest) → read_exact (text ++ rest) ≡ Some (value, rest))
