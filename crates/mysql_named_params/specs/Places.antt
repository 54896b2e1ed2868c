-- The places of a query, which are its names and marks. Also the tokens with marks in place of
-- names, and with names in place of marks.
use Rattle.std.specs.Prelude.{ℕ, ◌+◌, ◌<◌, List, [], ◌∷◌, length, ⊤}
use Rattle.mysql_named_params.specs.Tokens.{Token, Name, Mark}
pub use Rattle.mysql_named_params.specs.NamesAndMarks.{names, marks, has_both}

-- the number of names and marks
abbrev pub place_count : List Token → ℕ
place_count [] = 0
place_count (Name name ∷ ts) = place_count ts + 1
place_count (Mark ∷ ts) = place_count ts + 1
place_count (t ∷ ts) = place_count ts

-- the token is a name or a mark
abbrev pub IsPlace : Token → Type 0
IsPlace (Name name) = ⊤
IsPlace Mark = ⊤
IsPlace t = ⊥

-- the tokens with a mark in place of each name
abbrev pub with_marks : List Token → List Token
with_marks [] = []
with_marks (Name name ∷ ts) = Mark ∷ with_marks ts
with_marks (t ∷ ts) = t ∷ with_marks ts

-- the tokens with the given names in place of the marks, in order
abbrev pub with_names : List Token → List (List ℕ) → List Token
with_names [] given = []
with_names (Mark ∷ ts) (name ∷ given) = Name name ∷ with_names ts given
with_names (t ∷ ts) given = t ∷ with_names ts given

-- there is a name
abbrev pub HasName : List Token → Type 0
HasName ts = 0 < length (names ts)

-- there is a mark
abbrev pub HasMark : List Token → Type 0
HasMark ts = 0 < marks ts
