-- The promises about an answer in a caller's room with steady literals, for the query and the form.
-- It is a text for any mode and any server (AnywhereIntoRoom.antt) or for both modes
-- (BothModesIntoRoom.antt). A query that isn't refused has the same tokens in both modes.
use Rattle.std.specs.Prelude.{◌≡◌, ℕ, Bool, false, List, length, Option, Some, None, Ok, Err, option_map, ⊤}
use Rattle.std.specs.Option.{option_or}
use Rattle.mysql_named_params.specs.Reading.{OnTokensIn, reading_with}
use Rattle.mysql_named_params.specs.Tokens.{Token}
use Rattle.mysql_portable.specs.FirstUnportable.{first_unportable}
use Rattle.mysql_portable.specs.declared.portable.Unportable.{Unportable}
use Rattle.mysql_params_core.specs.GivenValues.{Given}
use Rattle.mysql_flat_params.specs.FlatForm.{IsFormReading, form_end, length_lead, unread_type, mixed_form, repeated_name}
use Rattle.mysql_flat_params.specs.IntoRoom.{IsBindOutcomeIn}
use Rattle.mysql_flat_params.specs.UnportableReport.{construct_number}
use Rattle.mysql_flat_params.specs.declared.outcome.Outcome.{Outcome}
use Rattle.mysql_flat_params.specs.declared.outcome.Outcome.TheVariants.{Done, OutOfMemory, Room, FormEnd, FormLengthLead, FormType, FormMixed, FormRepeated, Unsteady, Backslash}
use Rattle.mysql_flat_params.specs.declared.outcome.Outcome.TheVariants as variant

-- the form has parameters
abbrev pub IsReadForm : List ℕ → Type 0
IsReadForm form = (given : Given) × IsFormReading form (Ok given)

-- the form has parameters, and this is the text that is bound to them
abbrev pub IsSteadyForm : (IsBound : Given → List ℕ → Type 0) (form text : List ℕ) → Type 0
IsSteadyForm IsBound form text =
    (given : Given) × IsFormReading form (Ok given) × IsBound given text

-- the text that is bound to the form's parameters has this length
abbrev pub HasSteadyLength : (IsBound : Given → List ℕ → Type 0) (form : List ℕ) → ℕ → Type 0
HasSteadyLength IsBound form len =
    (text : List ℕ) × IsSteadyForm IsBound form text × (length text ≡ len)

-- the outcome for a construct that isn't portable
abbrev pub unportable_outcome : Unportable → Outcome
unportable_outcome found = variant.Unportable (construct_number found.construct) found.at

-- the outcome for a query that is refused on its own, with any parameters: the one for a byte of
-- it, or else the one for its first construct that isn't portable
abbrev pub query_refusal : Option Outcome → List Token → Option Outcome
query_refusal byte ts = option_or byte (option_map unportable_outcome (first_unportable ts))

-- The meaning of an outcome, for the query, by wide names or by those of the grammar, and the form.
-- `IsBound` says which text is bound, and `refusal` gives the outcome for a query with these tokens
-- that is refused on its own, with any parameters.
abbrev pub IsSteadyOutcomeIn : (wide : Bool) (IsBound : Given → List ℕ → Type 0)
    (refusal : List Token → Option Outcome) (query form : List ℕ) → Outcome → Type 0
-- the bound text has this length
IsSteadyOutcomeIn wide IsBound refusal query form (Done len) = HasSteadyLength IsBound form len
IsSteadyOutcomeIn wide IsBound refusal query form (Room len) = HasSteadyLength IsBound form len
-- out of memory promises nothing
IsSteadyOutcomeIn wide IsBound refusal query form OutOfMemory = ⊤
-- the form is refused for this
IsSteadyOutcomeIn wide IsBound refusal query form (FormEnd place position) =
    IsFormReading form (Err (form_end place position))
IsSteadyOutcomeIn wide IsBound refusal query form (FormLengthLead place position lead) =
    IsFormReading form (Err (length_lead place position lead))
IsSteadyOutcomeIn wide IsBound refusal query form (FormType place position number) =
    IsFormReading form (Err (unread_type place position number))
IsSteadyOutcomeIn wide IsBound refusal query form (FormMixed place position) =
    IsFormReading form (Err (mixed_form place position))
IsSteadyOutcomeIn wide IsBound refusal query form (FormRepeated place position len) =
    IsFormReading form (Err (repeated_name place position len))
-- the form is not refused, and this is the outcome for the query in either mode
IsSteadyOutcomeIn wide IsBound refusal query form (Unsteady position) = IsReadForm form
    × ((mode : Bool) → OnTokensIn (reading_with wide mode) query (λ ts.
    refusal ts ≡ Some (Unsteady position)))
IsSteadyOutcomeIn wide IsBound refusal query form (variant.Unportable number position) =
    IsReadForm form × ((mode : Bool) → OnTokensIn (reading_with wide mode) query (λ ts.
    refusal ts ≡ Some (variant.Unportable number position)))
IsSteadyOutcomeIn wide IsBound refusal query form (Backslash position) = IsReadForm form
    × ((mode : Bool) → OnTokensIn (reading_with wide mode) query (λ ts.
    refusal ts ≡ Some (Backslash position)))
-- the query isn't refused on its own, and in either mode the outcome is that of binding in the mode
IsSteadyOutcomeIn wide IsBound refusal query form outcome =
    ((mode : Bool) → OnTokensIn (reading_with wide mode) query (λ ts. refusal ts ≡ None))
    × ((mode : Bool) → IsBindOutcomeIn (reading_with wide mode) query form outcome)

-- the same by the names of the grammar
abbrev pub IsSteadyOutcome : (IsBound : Given → List ℕ → Type 0)
    (refusal : List Token → Option Outcome) (query form : List ℕ) → Outcome → Type 0
IsSteadyOutcome = IsSteadyOutcomeIn false
