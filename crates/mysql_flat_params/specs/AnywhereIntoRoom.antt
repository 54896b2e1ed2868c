-- The promises about an answer in a caller's room that is a text for any mode and any server, for
-- the query and the form. A steady query has the same tokens in both modes.
use Rattle.std.specs.Prelude.{ℕ, Bool, List, Option, option_map}
use Rattle.mysql_named_params.specs.Tokens.{Token, OnTokens}
use Rattle.mysql_portable.specs.Steady.{first_unsteady}
use Rattle.mysql_params_core.specs.GivenValues.{Given}
use Rattle.mysql_steady_text.specs.SteadyText.{IsAnywhereText}
use Rattle.mysql_flat_params.specs.SteadyIntoRoom.{IsSteadyForm, IsSteadyOutcome, query_refusal}
use Rattle.mysql_flat_params.specs.declared.outcome.Outcome.{Outcome}
use Rattle.mysql_flat_params.specs.declared.outcome.Outcome.TheVariants.{Unsteady}

-- this is the query bound to the parameters that are given to it, for any mode and any server
abbrev pub IsBoundAnywhere : List ℕ → Given → List ℕ → Type 0
IsBoundAnywhere query given text =
    (mode : Bool) → OnTokens mode query (λ ts. IsAnywhereText ts given text)

-- the form has parameters, and this is the query bound to them, for any mode and any server
abbrev pub IsAnywhereForm : (query form text : List ℕ) → Type 0
IsAnywhereForm query = IsSteadyForm (IsBoundAnywhere query)

-- the outcome for a query that is refused on its own, with any parameters: its first byte that
-- isn't steady, or else its first construct that isn't portable
abbrev pub anywhere_refusal : List ℕ → List Token → Option Outcome
anywhere_refusal query = query_refusal (option_map Unsteady (first_unsteady query))

-- the meaning of an outcome of binding for any mode and any server, for the query and the form
abbrev pub IsAnywhereOutcome : (query form : List ℕ) → Outcome → Type 0
IsAnywhereOutcome query = IsSteadyOutcome (IsBoundAnywhere query) (anywhere_refusal query) query
