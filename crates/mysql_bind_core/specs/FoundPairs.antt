-- Values that are looked for among pairs, without a map, and the texts of values: for private
-- functions.
use Rattle.std.specs.Prelude.{◌≡◌, ◌++◌, ◌&&◌, ℕ, Bool, true, List, [], ◌∷◌, nat_eq, if◌then◌else◌, Option, None, Some, is_none, map, Ok}
use Rattle.std.specs.Cmp.Lexicographic.{pointwise}
use Rattle.mysql_values.specs.declared.value.Value.{Value}
use Rattle.mysql_values.specs.Literal.{literal_of}
use Rattle.mysql_named_params.specs.Reading.{OnWideTokens}
use Rattle.mysql_named_params.specs.Tokens.{Token}
use Rattle.mysql_params_core.specs.GivenValues.{Given}
use Rattle.mysql_binding.specs.LiteralForm.{IsPlainLiteral}
use Rattle.mysql_binding.specs.WrittenText.{IsGivenText}
use Rattle.mysql_steady_text.specs.SteadyLiteral.{steady_literal_of}
use Rattle.mysql_steady_text.specs.SteadyLiterals.{IsSteadyFor}
use Rattle.mysql_bind_core.specs.Assignments.{given_of}
use Rattle.mysql_bind_core.specs.Requests.{mode_of}
use Rattle.mysql_bind_core.specs.declared.request.Literals.{Literals}
use Rattle.mysql_bind_core.specs.declared.request.Literals.TheVariants.{Plain, Steady}
use Rattle.mysql_bind_core.specs.declared.request.Request.{Request}

-- the value of the first pair with this name
abbrev pub value_in : List (List ℕ × Value) → List ℕ → Option Value
value_in [] name = None
value_in (pair ∷ pairs) name =
    if pointwise nat_eq name pair.0 then Some pair.1 else value_in pairs name

-- no name is in two pairs
abbrev pub are_distinct : List (List ℕ × Value) → Bool
are_distinct [] = true
are_distinct (pair ∷ pairs) = is_none (value_in pairs pair.0) && are_distinct pairs

-- these are the values of the pairs with these names
abbrev pub AreValuesIn : List (List ℕ × Value) → List (List ℕ) → List Value → Type 0
AreValuesIn pairs names values = map (value_in pairs) names ≡ map (λ value. Some value) values

-- the text of a query with these tokens and of the given values, with the literals asked for
abbrev pub IsGivenFor : Literals → List Token → Given → List ℕ → Type 0
IsGivenFor Steady ts given text = IsGivenText steady_literal_of IsSteadyFor ts given text
IsGivenFor (Plain mode) ts given text =
    IsGivenText (literal_of mode) (IsPlainLiteral mode) ts given text

-- the text is that of the whole query and of some values
abbrev pub IsValuesText : Request → List ℕ → List ℕ → Type 0
IsValuesText request query text = (given : Given)
    × OnWideTokens (mode_of request.literals) query (λ ts.
    IsGivenFor request.literals ts given text)

-- the text is that of the query for the values of the pairs
pub record IsPairsText (request : Request) (query : List ℕ) (pairs : List (List ℕ × Value))
    (text : List ℕ) : Type 0 where
  pub given : Given
  pub given_is : given_of pairs ≡ Ok given
  pub bound : OnWideTokens (mode_of request.literals) query (λ ts.
      IsGivenFor request.literals ts given text)

-- after these bytes comes such a text, and nothing else
abbrev pub IsTextAppended : Request → List ℕ → List (List ℕ × Value) → (before after : List ℕ) →
    Type 0
IsTextAppended request query pairs before after =
    (text : List ℕ) × IsPairsText request query pairs text × (after ≡ before ++ text)
