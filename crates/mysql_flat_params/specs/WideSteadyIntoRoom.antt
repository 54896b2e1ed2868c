-- The promises about an answer in a caller's room, for a query with wide names and the form. It is
-- a text for any mode and any server, or for both modes and any server. The query with its names in
-- lower case has to be portable.
use Rattle.std.specs.Prelude.{ℕ, Bool, true, false, List, Option, option_map}
use Rattle.mysql_named_params.specs.LoweredNames.{lower_names}
use Rattle.mysql_named_params.specs.Reading.{OnWideTokens}
use Rattle.mysql_named_params.specs.Tokens.{Token}
use Rattle.mysql_portable.specs.Steady.{first_unsteady}
use Rattle.mysql_params_core.specs.GivenValues.{Given}
use Rattle.mysql_steady_text.specs.FirstBackslash.{first_backslash}
use Rattle.mysql_steady_text.specs.WideAnywhere.{IsWideAnywhereText}
use Rattle.mysql_steady_text.specs.WideBothModes.{IsWideTextInBothModes}
use Rattle.mysql_flat_params.specs.SteadyIntoRoom.{IsSteadyForm, IsSteadyOutcomeIn, query_refusal}
use Rattle.mysql_flat_params.specs.declared.outcome.Outcome.{Outcome}
use Rattle.mysql_flat_params.specs.declared.outcome.Outcome.TheVariants.{Unsteady, Backslash}

-- the tokens that have to be portable, by wide names or by those of the grammar
abbrev pub portable_tokens : (wide : Bool) → List Token → List Token
portable_tokens false ts = ts
portable_tokens true ts = lower_names ts

-- ---- for any mode and any server

-- this is the query bound to the parameters that are given to it
abbrev pub IsWideBoundAnywhere : List ℕ → Given → List ℕ → Type 0
IsWideBoundAnywhere query given text =
    (mode : Bool) → OnWideTokens mode query (λ ts. IsWideAnywhereText ts given text)

-- the form has parameters, and this is the query bound to them
abbrev pub IsWideAnywhereForm : (query form text : List ℕ) → Type 0
IsWideAnywhereForm query = IsSteadyForm (IsWideBoundAnywhere query)

-- the outcome for a query that is refused on its own, with any parameters
abbrev pub wide_anywhere_refusal : List ℕ → List Token → Option Outcome
wide_anywhere_refusal query ts =
    query_refusal (option_map Unsteady (first_unsteady query)) (lower_names ts)

-- the meaning of an outcome, for the query and the form
abbrev pub IsWideAnywhereOutcome : (query form : List ℕ) → Outcome → Type 0
IsWideAnywhereOutcome query =
    IsSteadyOutcomeIn true (IsWideBoundAnywhere query) (wide_anywhere_refusal query) query

-- ---- for both modes and any server

-- this is the query bound to the parameters that are given to it
abbrev pub IsWideBoundInBothModes : List ℕ → Given → List ℕ → Type 0
IsWideBoundInBothModes query given text =
    (mode : Bool) → OnWideTokens mode query (λ ts. IsWideTextInBothModes ts given text)

-- the form has parameters, and this is the query bound to them
abbrev pub IsWideBothModesForm : (query form text : List ℕ) → Type 0
IsWideBothModesForm query = IsSteadyForm (IsWideBoundInBothModes query)

-- the outcome for a query that is refused on its own, with any parameters
abbrev pub wide_both_modes_refusal : List Token → Option Outcome
wide_both_modes_refusal ts =
    query_refusal (option_map Backslash (first_backslash ts)) (lower_names ts)

-- the meaning of an outcome, for the query and the form
abbrev pub IsWideBothModesOutcome : (query form : List ℕ) → Outcome → Type 0
IsWideBothModesOutcome query =
    IsSteadyOutcomeIn true (IsWideBoundInBothModes query) wide_both_modes_refusal query
