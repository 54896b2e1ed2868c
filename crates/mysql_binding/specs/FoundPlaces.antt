-- The places of a query, each as it is found after the one before it: for the invariants of
-- `ParsedQuery` and `SurveyedQuery`.
use Rattle.std.specs.Prelude.{◌≡◌, ◌+◌, ◌++◌, ℕ, List, [], ◌∷◌, length, take}
use Rattle.mysql_named_params.specs.Tokens.{Token, bytes_of, Name, Mark}
use Rattle.mysql_named_params.specs.declared.places.FoundPlace.{FoundPlace}
use Rattle.mysql_named_params.specs.declared.places.PlaceKind.TheVariants as kind
use Rattle.mysql_named_params.specs.Reading.{IsTokensIn}
use Rattle.mysql_named_params.specs.declared.places.Reading.{Reading}

-- Each place, with the number of bytes between it and the place before it, or the front. `before`
-- of these bytes come before the tokens.
abbrev pub found_from : ℕ → List Token → List FoundPlace
found_from before [] = []
found_from before (Name name ∷ ts) =
    record { before = before; kind = kind.Name; len = length (bytes_of (Name name)) }
    ∷ found_from 0 ts
found_from before (Mark ∷ ts) =
    record { before = before; kind = kind.Mark; len = length (bytes_of Mark) } ∷ found_from 0 ts
found_from before (t ∷ ts) = found_from (before + length (bytes_of t)) ts

-- the places of a query
abbrev pub found_places : List Token → List FoundPlace
found_places = found_from 0

-- the places of the tokens begin with these places
abbrev pub BeginWithPlaces : List FoundPlace → List Token → Type 0
BeginWithPlaces places ts = (more : List FoundPlace) × (places ++ more ≡ found_places ts)

-- the places are the first places of the query in the reading
abbrev pub AreFirstPlaces : Reading → List ℕ → List FoundPlace → Type 0
AreFirstPlaces reading query places = (ts : List Token) → IsTokensIn reading query ts →
    places ≡ take (length places) (found_places ts)
