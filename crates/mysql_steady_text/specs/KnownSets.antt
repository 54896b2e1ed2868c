-- The character sets of MySQL and MariaDB that have longer characters, by the bytes of these
-- (MySQL's `strings/ctype-big5.cc`, `ctype-cp932.cc`, `ctype-euc_kr.cc`, `ctype-eucjpms.cc`,
-- `ctype-gb18030.cc`, `ctype-gb2312.cc`, `ctype-gbk.cc`, `ctype-sjis.cc`, `ctype-ujis.cc` and
-- `ctype-utf8.cc`). What begins no longer character there is read as one byte.
use Rattle.std.specs.Prelude.{ℕ, Bool, true, false, nat_le, ◌==◌, ◌&&◌, ◌||◌, List, [], ◌∷◌, length, if◌then◌else◌}
use Rattle.mysql_portable.specs.CharacterSet.{CharacterSet}

-- a kind of longer characters: a test of the first byte, and one of each later byte
pub record Kind : Type 0 where
  pub first : ℕ → Bool
  pub later : List (ℕ → Bool)

-- the text begins with a byte for each test, which passes it
abbrev pub pass : List (ℕ → Bool) → List ℕ → Bool
pass [] text = true
pass (test ∷ tests) [] = false
pass (test ∷ tests) (b ∷ text) = test b && pass tests text

-- the set of the characters of these kinds
abbrev pub set_of : List Kind → CharacterSet
set_of [] b text = 0
set_of (kind ∷ kinds) b text =
    if kind.first b && pass kind.later text then length kind.later else set_of kinds b text

-- a byte of this range
abbrev pub within : ℕ → ℕ → ℕ → Bool
within low high b = nat_le low b && nat_le b high

-- two bytes; the second may be a backslash
abbrev pub gbk : List Kind
gbk =
    record { first = within 129 254; later = (λ b. within 64 126 b || within 128 254 b) ∷ [] }
    ∷ []

-- two bytes; the second may be a backslash
abbrev pub big5 : List Kind
big5 =
    record { first = within 161 249; later = (λ b. within 64 126 b || within 161 254 b) ∷ [] }
    ∷ []

-- two bytes; the second may be a backslash; also cp932
abbrev pub sjis : List Kind
sjis =
    record {
      first = λ b. within 129 159 b || within 224 252 b;
      later = (λ b. within 64 126 b || within 128 252 b) ∷ [];
    } ∷ []

-- two bytes; the second may be a letter
abbrev pub euckr : List Kind
euckr =
    record {
      first = within 129 254;
      later = (λ b. within 65 90 b || (within 97 122 b || within 129 254 b)) ∷ [];
    } ∷ []

-- two bytes
abbrev pub gb2312 : List Kind
gb2312 = record { first = within 161 247; later = within 161 254 ∷ [] } ∷ []

-- two bytes, of which the second may be a backslash, or four, of which two are digits
abbrev pub gb18030 : List Kind
gb18030 =
    record { first = within 129 254; later = (λ b. within 64 126 b || within 128 254 b) ∷ [] }
    ∷ record { first = within 129 254; later = within 48 57 ∷ within 129 254 ∷ within 48 57 ∷ [] }
    ∷ []

-- two bytes or three; also eucjpms
abbrev pub ujis : List Kind
ujis =
    record { first = within 161 254; later = within 161 254 ∷ [] }
    ∷ record { first = λ b. b == 142; later = within 161 223 ∷ [] }
    ∷ record { first = λ b. b == 143; later = within 161 254 ∷ within 161 254 ∷ [] }
    ∷ []

-- two bytes to four; also utf8mb3, which lacks the last kind
abbrev pub utf8mb4 : List Kind
utf8mb4 =
    record { first = within 194 223; later = within 128 191 ∷ [] }
    ∷ record { first = within 224 239; later = within 128 191 ∷ within 128 191 ∷ [] }
    ∷ record {
      first = within 240 244;
      later = within 128 191 ∷ within 128 191 ∷ within 128 191 ∷ [];
    } ∷ []
