-- The promises about an answer in a caller's room that is a text for both modes and any server, for
-- the query and the form. A query without a backslash in its strings has the same tokens in both
-- modes.
use Rattle.std.specs.Prelude.{ℕ, Bool, List, Option, option_map}
use Rattle.mysql_named_params.specs.Tokens.{Token, OnTokens}
use Rattle.mysql_params_core.specs.GivenValues.{Given}
use Rattle.mysql_steady_text.specs.BothModesText.{IsPortableInBothModes}
use Rattle.mysql_steady_text.specs.FirstBackslash.{first_backslash}
use Rattle.mysql_flat_params.specs.SteadyIntoRoom.{IsSteadyForm, IsSteadyOutcome, query_refusal}
use Rattle.mysql_flat_params.specs.declared.outcome.Outcome.{Outcome}
use Rattle.mysql_flat_params.specs.declared.outcome.Outcome.TheVariants.{Backslash}

-- this is the query bound to the parameters that are given to it, for both modes and any server
abbrev pub IsBoundInBothModes : List ℕ → Given → List ℕ → Type 0
IsBoundInBothModes query given text =
    (mode : Bool) → OnTokens mode query (λ ts. IsPortableInBothModes ts given text)

-- the form has parameters, and this is the query bound to them, for both modes and any server
abbrev pub IsBothModesForm : (query form text : List ℕ) → Type 0
IsBothModesForm query = IsSteadyForm (IsBoundInBothModes query)

-- the outcome for a query that is refused on its own, with any parameters: its first backslash in a
-- string, or else its first construct that isn't portable
abbrev pub both_modes_refusal : List Token → Option Outcome
both_modes_refusal ts = query_refusal (option_map Backslash (first_backslash ts)) ts

-- the meaning of an outcome of binding for both modes and any server, for the query and the form
abbrev pub IsBothModesOutcome : (query form : List ℕ) → Outcome → Type 0
IsBothModesOutcome query = IsSteadyOutcome (IsBoundInBothModes query) both_modes_refusal query
