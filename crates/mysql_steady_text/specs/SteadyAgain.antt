-- A steady text that is bound again: the text itself, in which no place is left, and the query with
-- a mark in place of each name.
use Rattle.std.specs.Prelude.{◌≡◌, ℕ, Bool, List, Ok}
use Rattle.mysql_values.specs.declared.value.Value.{Value}
use Rattle.mysql_named_params.specs.Tokens.{Token, OnTokens, text_of}
use Rattle.mysql_named_params.specs.NamesAndMarks.{names}
use Rattle.mysql_named_params.specs.Places.{place_count, with_marks}
use Rattle.mysql_params_core.specs.GivenValues.{Given, empty, positional}
use Rattle.mysql_params_core.specs.LookupValues.{lookup}
use Rattle.mysql_steady_text.specs.SteadyText.{IsSteadyText}

-- in either mode the text has no place, and bound with no parameters it is not refused and stays as
-- it is
abbrev pub IsSteadyBoundAgain : List ℕ → Type 0
IsSteadyBoundAgain text = (mode : Bool) → OnTokens mode text (λ us.
    (place_count us ≡ 0) × IsSteadyText us empty text)

-- The query with a mark in place of each name, bound by position to the values that the names are
-- given, is not refused and gives this text. Without names it is the query as it is.
abbrev pub IsSteadyByPosition : Bool → List Token → Given → List ℕ → Type 0
IsSteadyByPosition mode ts given text =
    (values : List Value) × (lookup given (names ts) ≡ Ok values)
    × OnTokens mode (text_of (with_marks ts)) (λ us. IsSteadyText us (positional values) text)
