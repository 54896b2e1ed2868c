-- The text of a query with looked-up values, appended to another text: for `append_surveyed`.
use Rattle.std.specs.Prelude.{◌≡◌, ◌++◌, ℕ, List, None, Ok}
use Rattle.mysql_values.specs.declared.value.Value.{Value}
use Rattle.mysql_named_params.specs.Tokens.{Token}
use Rattle.mysql_named_params.specs.NamesAndMarks.{names}
use Rattle.mysql_named_params.specs.Reading.{OnTokensIn}
use Rattle.mysql_named_params.specs.declared.places.Reading.{Reading}
use Rattle.mysql_params_core.specs.GivenValues.{Given}
use Rattle.mysql_params_core.specs.LookupValues.{lookup}
use Rattle.mysql_binding.specs.FirstCause.{mixed_cause}
use Rattle.mysql_binding.specs.LiteralForm.{Literals, LiteralFacts}
use Rattle.mysql_binding.specs.WrittenText.{IsGivenText}

-- the query isn't mixed, and the values are those that are given to its places
abbrev pub AreFound : Given → List Value → List Token → Type 0
AreFound given values ts = (mixed_cause ts ≡ None) × (lookup given (names ts) ≡ Ok values)

-- `after` is `before`, followed by the text of the query with these values
pub record IsAppended (literal : Literals) (IsKnown : LiteralFacts) (reading : Reading)
    (query : List ℕ) (values : List Value) (before after : List ℕ) : Type 0 where
  pub text : List ℕ
  pub bytes : after ≡ before ++ text
  pub of_given : (given : Given) → OnTokensIn reading query (AreFound given values) →
      OnTokensIn reading query (λ ts. IsGivenText literal IsKnown ts given text)
