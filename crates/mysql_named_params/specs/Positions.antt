-- The positions of the places of a query: the index of the first byte of each.
use Rattle.std.specs.Prelude.{◌≡◌, ℕ, ◌+◌, ◌≤◌, List, [], ◌∷◌, ◌++◌, length, ⊤}
use Rattle.mysql_named_params.specs.Tokens.{Token, bytes_of, text_of, Name, Mark}
use Rattle.mysql_named_params.specs.Places.{IsPlace}

-- the index of the first byte of each name and mark, if the tokens begin at the index `at`
abbrev pub positions_from : ℕ → List Token → List ℕ
positions_from at [] = []
positions_from at (Name name ∷ ts) = at ∷ positions_from (at + length (bytes_of (Name name))) ts
positions_from at (Mark ∷ ts) = at ∷ positions_from (at + length (bytes_of Mark)) ts
positions_from at (t ∷ ts) = positions_from (at + length (bytes_of t)) ts

-- the index of the first byte of each name and mark in the query
abbrev pub positions : List Token → List ℕ
positions = positions_from 0

-- one of the tokens is a place, and the tokens before it have `at` bytes
abbrev pub HasPlaceAt : List Token → ℕ → Type 0
HasPlaceAt ts at = (front : List Token) × (t : Token) × (back : List Token)
    × (front ++ t ∷ back ≡ ts) × (length (text_of front) ≡ at) × IsPlace t

-- a place begins at each of the positions
abbrev pub HavePlacesAt : List Token → List ℕ → Type 0
HavePlacesAt ts [] = ⊤
HavePlacesAt ts (at ∷ ats) = HasPlaceAt ts at × HavePlacesAt ts ats

-- each number is at least `least`, and greater than the numbers before it
abbrev pub AscendFrom : ℕ → List ℕ → Type 0
AscendFrom least [] = ⊤
AscendFrom least (n ∷ ns) = (least ≤ n) × AscendFrom (n + 1) ns
