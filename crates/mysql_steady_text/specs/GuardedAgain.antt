-- A guarded text of the query with a mark in place of each name.
use Rattle.std.specs.Prelude.{◌≡◌, ℕ, Bool, List, Ok}
use Rattle.mysql_values.specs.declared.value.Value.{Value}
use Rattle.mysql_named_params.specs.Tokens.{Token, OnTokens, text_of}
use Rattle.mysql_named_params.specs.NamesAndMarks.{names}
use Rattle.mysql_named_params.specs.Places.{with_marks}
use Rattle.mysql_params_core.specs.GivenValues.{Given, positional}
use Rattle.mysql_params_core.specs.LookupValues.{lookup}
use Rattle.mysql_steady_text.specs.GuardedText.{IsGuardedText}

-- The query with a mark in place of each name, bound by position to the values that the names are
-- given, is not refused and gives this text. Without names it is the query as it is.
abbrev pub IsGuardedByPosition : Bool → Bool → List Token → Given → List ℕ → Type 0
IsGuardedByPosition read_mode mode ts given text =
    (values : List Value) × (lookup given (names ts) ≡ Ok values)
    × OnTokens read_mode (text_of (with_marks ts)) (λ us.
    IsGuardedText mode us (positional values) text)
