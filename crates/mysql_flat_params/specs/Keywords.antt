-- The keywords that a form may have (MySQL Reference Manual, "Keywords and Reserved Words"). They
-- are for choices at run time in places where no value is allowed, such as an order or the unit of
-- an interval.
use Rattle.std.specs.Prelude.{ℕ, List, [], ◌∷◌, codes, if◌then◌else◌}
use Rattle.std.specs.Str.{bytes_eq}

-- these words
abbrev pub keywords : List (List ℕ)
keywords =
    codes "ASC" ∷ codes "DESC" ∷ codes "ALL" ∷ codes "DISTINCT" ∷ codes "AND" ∷ codes "OR"
    ∷ codes "XOR" ∷ codes "NOT" ∷ codes "NULL" ∷ codes "IS NULL" ∷ codes "IS NOT NULL"
    ∷ codes "DEFAULT" ∷ codes "TRUE" ∷ codes "FALSE" ∷ codes "LIKE" ∷ codes "NOT LIKE"
    ∷ codes "MICROSECOND" ∷ codes "SECOND" ∷ codes "MINUTE" ∷ codes "HOUR" ∷ codes "DAY"
    ∷ codes "WEEK" ∷ codes "MONTH" ∷ codes "QUARTER" ∷ codes "YEAR" ∷ codes "LEFT" ∷ codes "RIGHT"
    ∷ codes "INNER" ∷ codes "CROSS" ∷ codes "UNION" ∷ codes "UNION ALL" ∷ codes "FOR UPDATE"
    ∷ codes "LOCK IN SHARE MODE" ∷ []

-- the first of these words that is the text; empty if none is
abbrev pub word_of : List (List ℕ) → List ℕ → List ℕ
word_of [] text = []
word_of (word ∷ words) text = if bytes_eq word text then word else word_of words text

-- the text if it is a keyword that a form may have; otherwise empty
abbrev pub listed_keyword : List ℕ → List ℕ
listed_keyword text = word_of keywords text
