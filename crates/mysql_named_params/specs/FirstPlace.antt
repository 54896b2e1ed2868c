-- The first name or mark of a text, as `first_place` finds it.
use Rattle.std.specs.Prelude.{◌≡◌, ℕ, List, ◌∷◌, ◌++◌, length, Option, Some, None}
use Rattle.mysql_named_params.specs.Tokens.{Token, bytes_of, text_of, Name, Mark}
use Rattle.mysql_named_params.specs.Places.{place_count}
use Rattle.mysql_named_params.specs.declared.places.FoundPlace.{FoundPlace}
use Rattle.mysql_named_params.specs.declared.places.PlaceKind.{PlaceKind}
use Rattle.mysql_named_params.specs.declared.places.PlaceKind.TheVariants as kind

-- the kind of a place; none for a token that isn't a place
abbrev pub place_kind : Token → Option PlaceKind
place_kind (Name name) = Some kind.Name
place_kind Mark = Some kind.Mark
place_kind t = None

-- `found` describes the first place of the tokens
pub record IsFirstPlace (ts : List Token) (found : FoundPlace) : Type 0 where
  -- the tokens before it, the place itself, and the tokens after it
  pub front : List Token
  pub place : Token
  pub back : List Token
  pub split : front ++ place ∷ back ≡ ts
  -- no name and no mark comes before it
  pub is_first : place_count front ≡ 0
  -- the bytes before it, its kind, and its own bytes
  pub before_is : length (text_of front) ≡ found.before
  pub kind_is : place_kind place ≡ Some found.kind
  pub len_is : length (bytes_of place) ≡ found.len

-- no place comes before this index, which is the end or the index of a token
pub record BeginPlacesFrom (ts : List Token) (start : ℕ) : Type 0 where
  -- the tokens before it, and those from it on
  pub front : List Token
  pub back : List Token
  pub split : front ++ back ≡ ts
  pub no_place : place_count front ≡ 0
  pub start_is : length (text_of front) ≡ start
