-- The places of a query that stand alone: the bytes beside them may be beside a literal.
use Rattle.std.specs.Prelude.{◌≡◌, ◌+◌, ◌++◌, IsTrue, IsFalse, ℕ, List, ◌∷◌, length}
use Rattle.mysql_named_params.specs.Tokens.{Token, text_of, text_then}
use Rattle.mysql_named_params.specs.Places.{IsPlace, place_count}
pub use Rattle.mysql_binding.specs.FirstNotAlone.{is_one_of, signs_before, signs_after, may_stand_before, may_stand_after, none_or_first, none_or_last, stands_alone, first_not_alone_from, first_not_alone}

-- each name and mark among the tokens stands alone, if the text `rest` follows the tokens
abbrev pub AllAlone : List Token → List ℕ → Type 0
AllAlone ts rest = (front : List Token) (t : Token) (back : List Token) → front ++ t ∷ back ≡ ts →
    IsPlace t → IsTrue (stands_alone (text_of front) (text_then rest back))

-- the place of this number, at this position, is the first that doesn't stand alone
pub record IsFirstNotAlone (ts : List Token) (place position : ℕ) : Type 0 where
  -- the tokens before it, the place itself, and the tokens after it
  pub front : List Token
  pub found : Token
  pub back : List Token
  pub split : front ++ found ∷ back ≡ ts
  -- it is a name or a mark
  pub is_place : IsPlace found
  -- its number is the count of places before it, and its position the count of bytes before it
  pub number : place_count front ≡ place
  pub position_is : length (text_of front) ≡ position
  -- it doesn't stand alone
  pub not_alone : IsFalse (stands_alone (text_of front) (text_of back))
  -- each place before it does
  pub others_alone : AllAlone front (text_of (found ∷ back))
