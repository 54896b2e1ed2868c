-- The places of a query that stand alone, and the first that doesn't.
use Rattle.std.specs.Prelude.{◌+◌, ◌++◌, ◌==◌, ◌&&◌, ◌||◌, ℕ, Bool, true, List, [], ◌∷◌, if◌then◌else◌, length, Option, Some, None, codes}
use Rattle.std.specs.List.{list_any}
use Rattle.mysql_named_params.specs.Bytes.{is_white_space}
use Rattle.mysql_named_params.specs.Tokens.{Token, bytes_of, text_of, Name, Mark}

-- the byte is one of these
abbrev pub is_one_of : List ℕ → ℕ → Bool
is_one_of bytes b = list_any (λ c. c == b) bytes

-- the bytes other than white space that may stand directly before a place
abbrev pub signs_before : List ℕ
signs_before = codes "(,=<>+-*/%&|^~"

-- the bytes other than white space that may stand directly after a place
abbrev pub signs_after : List ℕ
signs_after = codes "),;=<>+-*/%&|^!"

-- a byte that may stand directly before a place
abbrev pub may_stand_before : ℕ → Bool
may_stand_before b = is_white_space b || is_one_of signs_before b

-- a byte that may stand directly after a place
abbrev pub may_stand_after : ℕ → Bool
may_stand_after b = is_white_space b || is_one_of signs_after b

-- the text is empty, or its first byte passes the test
abbrev pub none_or_first : (ℕ → Bool) → List ℕ → Bool
none_or_first test [] = true
none_or_first test (b ∷ bytes) = test b

-- the text is empty, or its last byte passes the test
abbrev pub none_or_last : (ℕ → Bool) → List ℕ → Bool
none_or_last test [] = true
none_or_last test (b ∷ []) = test b
none_or_last test (b ∷ c ∷ bytes) = none_or_last test (c ∷ bytes)

-- a place between these two texts stands alone
abbrev pub stands_alone : List ℕ → List ℕ → Bool
stands_alone before after =
    none_or_last may_stand_before before && none_or_first may_stand_after after

-- Number and position of the first place that doesn't stand alone, after `place` places and the
-- text `before`. `IsFirstNotAlone` says the same (`laws::first_not_alone_is_first`).
abbrev pub first_not_alone_from : ℕ → List ℕ → List Token → Option (ℕ × ℕ)
first_not_alone_from place before [] = None
first_not_alone_from place before (Name name ∷ ts) =
    if stands_alone before (text_of ts)
    then first_not_alone_from (place + 1) (before ++ bytes_of (Name name)) ts
    else Some (place, length before)
first_not_alone_from place before (Mark ∷ ts) =
    if stands_alone before (text_of ts)
    then first_not_alone_from (place + 1) (before ++ bytes_of Mark) ts
    else Some (place, length before)
first_not_alone_from place before (t ∷ ts) = first_not_alone_from place (before ++ bytes_of t) ts

-- number and position of the first place of a query that doesn't stand alone
abbrev pub first_not_alone : List Token → Option (ℕ × ℕ)
first_not_alone = first_not_alone_from 0 []
