-- A text that is bound again in two ways: the text itself, in which no place is left, and the query
-- with a mark in place of each name.
use Rattle.std.specs.Prelude.{◌≡◌, ℕ, Bool, List, Ok}
use Rattle.mysql_values.specs.declared.value.Value.{Value}
use Rattle.mysql_named_params.specs.Tokens.{Token, OnTokens, text_of}
use Rattle.mysql_named_params.specs.NamesAndMarks.{names}
use Rattle.mysql_named_params.specs.Places.{place_count, with_marks}
use Rattle.mysql_params_core.specs.GivenValues.{Given, empty, positional}
use Rattle.mysql_params_core.specs.LookupValues.{lookup}
use Rattle.mysql_binding.specs.Isolation.{IsBoundText}

-- the text has no place; bound again with no parameters it isn't refused and stays as it is
abbrev pub IsSameBoundAgain : Bool → List ℕ → Type 0
IsSameBoundAgain mode text = OnTokens mode text (λ us.
    (place_count us ≡ 0) × IsBoundText mode us empty text)

-- Take the query with a mark in place of each name. Bound by position to the values of the names,
-- it isn't refused and gives this text. Without names, it is the query as it is.
abbrev pub IsSameByPosition : Bool → List Token → Given → List ℕ → Type 0
IsSameByPosition mode ts given text = (values : List Value) × (lookup given (names ts) ≡ Ok values)
    × OnTokens mode (text_of (with_marks ts)) (λ us. IsBoundText mode us (positional values) text)
