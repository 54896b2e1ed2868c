-- The view of a text by a reader in a character set (MySQL Reference Manual, "Supported Character
-- Sets and Collations"). In a set such as gbk, big5, sjis, gb18030, latin1 or utf8mb4, a byte below
-- 128 is ASCII, unless it belongs to the character of a byte before it. For example, in gbk the
-- byte BF takes `\` into its character. swe7 isn't such a set, since a byte below 128 may be
-- another letter there. Nor are ucs2, utf16 and utf32, in which no connection sends queries.
use Rattle.std.specs.Prelude.{ℕ, zero, suc, nat_le, if◌then◌else◌, List, [], ◌∷◌}

-- A character set: for a byte from 128 on and the text after it, the number of the next bytes that
-- belong to its character. It is data without laws: every function is a character set.
abbrev pub CharacterSet : Type 0
CharacterSet = ℕ → List ℕ → ℕ

-- A text as its reader sees it, if its first `left` bytes belong to a character that has begun.
-- Each byte of a character that isn't ASCII is shown as byte 128, which opens, closes and escapes
-- nothing.
abbrev pub seen_after : CharacterSet → ℕ → List ℕ → List ℕ
seen_after set left [] = []
seen_after set zero (b ∷ bs) =
    if nat_le 128 b then 128 ∷ seen_after set (set b bs) bs else b ∷ seen_after set zero bs
seen_after set (suc left) (b ∷ bs) = 128 ∷ seen_after set left bs

-- a text as its reader sees it
abbrev pub seen : CharacterSet → List ℕ → List ℕ
seen set = seen_after set 0
