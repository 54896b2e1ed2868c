-- The character sets that a client of MySQL or MariaDB can have (MySQL Reference Manual,
-- "Supported Character Sets and Collations"). A byte below 128 is ASCII unless it is a later byte
-- of a longer character. No later byte is a single quote, and one that is a backslash directly
-- follows a byte from 128 on. In gbk, big5, sjis and cp932 it is the second byte, and in gb18030
-- the fourth byte is a digit. swe7 isn't such a set, since it has other letters for some bytes
-- below 128.
use Rattle.std.specs.Prelude.{ℕ, ◌≤◌, nat_le, Bool, true, not, ◌&&◌, ◌||◌, IsTrue, List, [], ◌∷◌, take}
use Rattle.mysql_sql_text.specs.LiteralEnd.{is_single_quote}
use Rattle.mysql_portable.specs.CharacterSet.{CharacterSet}
use Rattle.mysql_portable.specs.SteadyBytes.{is_no_backslash}

-- a byte that isn't a single quote
abbrev pub is_no_quote : ℕ → Bool
is_no_quote b = not (is_single_quote b)

-- Whether bytes may be later bytes of a character, by whether the byte before them is from 128 on:
-- none is a single quote, and a backslash directly follows a byte from 128 on.
abbrev pub are_later : Bool → List ℕ → Bool
are_later high [] = true
are_later high (b ∷ bytes) =
    is_no_quote b && ((high || is_no_backslash b) && are_later (nat_le 128 b) bytes)

-- The set is one of a client: for a byte from 128 on and the text after it, the next bytes that
-- belong to its character may be later bytes.
abbrev pub IsClientSet : CharacterSet → Type 0
IsClientSet set =
    (b : ℕ) (text : List ℕ) → 128 ≤ b → IsTrue (are_later true (take (set b text) text))

-- the set of single bytes
abbrev pub single_bytes : CharacterSet
single_bytes b text = 0
