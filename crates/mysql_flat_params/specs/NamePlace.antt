-- The place of a name in a query.
use Rattle.std.specs.Prelude.{◌≡◌, ℕ, ◌+◌, List, ◌∷◌, ◌++◌, length}
use Rattle.std.specs.List.{Contains}
use Rattle.mysql_named_params.specs.Tokens.{Token, text_of, Name}
use Rattle.mysql_named_params.specs.NamesAndMarks.{names}
use Rattle.mysql_named_params.specs.Places.{place_count}

-- the place of this number is the first with this name, and the name's first byte, after the colon,
-- is at this position
pub record IsFirstOfName (ts : List Token) (name : List ℕ) (place position : ℕ) : Type 0 where
  -- the tokens before it and after it
  pub front : List Token
  pub back : List Token
  pub split : front ++ Name name ∷ back ≡ ts
  -- none before it is the same name
  pub is_first : Contains (names front) name → ⊥
  -- its number is the count of places before it, and one byte, the colon, is between the text
  -- before it and the name
  pub number : place_count front ≡ place
  pub position_is : length (text_of front) + 1 ≡ position
