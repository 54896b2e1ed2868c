-- The promises about an answer in a caller's room that is a text for any mode and any server, with
-- steady or guarded literals, for the query and the form of fragments. A steady query has the same
-- tokens in both modes.
use Rattle.std.specs.Prelude.{◌≡◌, ℕ, Bool, true, false, List, length, Some, None, Ok, Err, ⊤}
use Rattle.mysql_named_params.specs.NamesAndMarks.{names}
use Rattle.mysql_named_params.specs.Reading.{OnTokensIn, OnWideTokens, reading_with}
use Rattle.mysql_named_params.specs.Tokens.{OnTokens}
use Rattle.mysql_named_params.specs.declared.places.Reading.{Reading}
use Rattle.mysql_fragments.specs.GivenFragments.{GivenFragments, fragments_for}
use Rattle.mysql_fragments.specs.GuardedFragments.{IsGuardedOnServers}
use Rattle.mysql_fragments.specs.SteadyFragments.{IsAnywhereFragments, unsteady_place}
use Rattle.mysql_fragments.specs.WideSteadyFragments.{IsWideAnywhereFragments}
use Rattle.mysql_flat_params.specs.AnywhereIntoRoom.{anywhere_refusal}
use Rattle.mysql_flat_params.specs.FlatForm.{form_end, length_lead, unread_type, mixed_form, repeated_name}
use Rattle.mysql_flat_params.specs.declared.outcome.Outcome.{Outcome}
use Rattle.mysql_flat_params.specs.declared.outcome.Outcome.TheVariants.{Done, OutOfMemory, Room, FormEnd, FormLengthLead, FormType, FormMixed, FormRepeated, Unsteady, Unportable}
use Rattle.mysql_flat_params.specs.FlatFragments.{IsFormReading}
use Rattle.mysql_flat_params.specs.FormCauses.{first_form_cause, unbracketed_place}
use Rattle.mysql_flat_params.specs.FormKinds.{FormKinds, IsKnownForm}
use Rattle.mysql_flat_params.specs.FragmentsIntoRoom.{IsFragmentsOutcomeIn, IsOutcomeAsValuesIn}
use Rattle.mysql_flat_params.specs.WideSteadyIntoRoom.{portable_tokens}
use Rattle.mysql_flat_params.specs.declared.fragments_anywhere_room.AnywhereCall.{AnywhereCall}
use Rattle.mysql_flat_params.specs.declared.fragments_anywhere_room.AnywhereCall.TheVariants.{Steady, Guarded}
use Rattle.mysql_flat_params.specs.declared.fragments_outcome.FragmentsOutcome.{FragmentsOutcome}
use Rattle.mysql_flat_params.specs.declared.fragments_outcome.FragmentsOutcome.TheVariants.{AsValues, Fault, Unbracketed, UnsteadyFragment}

-- whether a call reads wide names, or those of the grammar
abbrev pub is_wide : AnywhereCall → Bool
is_wide (Steady wide) = wide
is_wide (Guarded mode) = true

-- the fragments, of which this is known, may stand in their places of the query, by wide names or
-- by those of the grammar
abbrev pub MayStandIn : (wide : Bool) (query : List ℕ) → FormKinds → Type 0
MayStandIn wide query kinds = (mode : Bool) →
    OnTokensIn (reading_with wide mode) query (λ ts. unbracketed_place kinds ts ≡ None)

-- this is the query bound to the fragments that are given to it, for any mode and any server
abbrev pub IsAnywhereTextIn : AnywhereCall → (query : List ℕ) → GivenFragments → (text : List ℕ)
    → Type 0
IsAnywhereTextIn (Steady false) query given text =
    (mode : Bool) → OnTokens mode query (λ ts. IsAnywhereFragments ts given text)
IsAnywhereTextIn (Steady true) query given text =
    (mode : Bool) → OnWideTokens mode query (λ ts. IsWideAnywhereFragments ts given text)
-- with guarded literals, for a connection that is taken to be in this mode
IsAnywhereTextIn (Guarded mode) query given text =
    (read_mode : Bool) → OnWideTokens read_mode query (λ ts. IsGuardedOnServers mode ts given text)

-- the form has fragments, which may stand in their places, and this is the query bound so to them
abbrev pub IsAnywhereFormIn : AnywhereCall → (query form text : List ℕ) → Type 0
IsAnywhereFormIn call query form text = (given : GivenFragments) × (kinds : FormKinds)
    × IsKnownForm form given kinds × MayStandIn (is_wide call) query kinds
    × IsAnywhereTextIn call query given text

-- the query bound so to the form's fragments has this length
abbrev pub HasAnywhereLengthIn : AnywhereCall → (query form : List ℕ) → ℕ → Type 0
HasAnywhereLengthIn call query form len =
    (text : List ℕ) × IsAnywhereFormIn call query form text × (length text ≡ len)

-- the form has fragments, and in either mode this is the outcome for the query, which is refused on
-- its own, with any fragments
abbrev pub IsRefusedQueryIn : (wide : Bool) (query form : List ℕ) → Outcome → Type 0
IsRefusedQueryIn wide query form told =
    ((given : GivenFragments) × IsFormReading form (Ok given)) × ((mode : Bool) →
    OnTokensIn (reading_with wide mode) query (λ ts.
    anywhere_refusal query (portable_tokens wide ts) ≡ Some told))

-- in neither mode is the query refused on its own
abbrev pub IsTakenQueryIn : (wide : Bool) → List ℕ → Type 0
IsTakenQueryIn wide query = (mode : Bool) → OnTokensIn (reading_with wide mode) query (λ ts.
    anywhere_refusal query (portable_tokens wide ts) ≡ None)

-- the form has fragments for which no cause refuses the query, and the fragment for this place is
-- the first whose text isn't steady
abbrev pub IsUnsteadyForIn : (reading : Reading) (query form : List ℕ) → ℕ → Type 0
IsUnsteadyForIn reading query form place =
    (given : GivenFragments) × (kinds : FormKinds) × IsKnownForm form given kinds
    × OnTokensIn reading query (λ ts. (first_form_cause kinds ts given ≡ None)
    × (unsteady_place (fragments_for given (names ts)) ≡ Some place))

-- the meaning of an outcome that binding values has too, for the query and the form
abbrev pub IsAnywhereAsValuesIn : AnywhereCall → (query form : List ℕ) → Outcome → Type 0
-- the bound text has this length
IsAnywhereAsValuesIn call query form (Done len) = HasAnywhereLengthIn call query form len
IsAnywhereAsValuesIn call query form (Room len) = HasAnywhereLengthIn call query form len
-- out of memory promises nothing
IsAnywhereAsValuesIn call query form OutOfMemory = ⊤
-- the form is refused for this
IsAnywhereAsValuesIn call query form (FormEnd place position) =
    IsFormReading form (Err (form_end place position))
IsAnywhereAsValuesIn call query form (FormLengthLead place position lead) =
    IsFormReading form (Err (length_lead place position lead))
IsAnywhereAsValuesIn call query form (FormType place position number) =
    IsFormReading form (Err (unread_type place position number))
IsAnywhereAsValuesIn call query form (FormMixed place position) =
    IsFormReading form (Err (mixed_form place position))
IsAnywhereAsValuesIn call query form (FormRepeated place position len) =
    IsFormReading form (Err (repeated_name place position len))
-- the form is not refused, and this is the outcome for the query
IsAnywhereAsValuesIn call query form (Unsteady position) =
    IsRefusedQueryIn (is_wide call) query form (Unsteady position)
IsAnywhereAsValuesIn call query form (Unportable number position) =
    IsRefusedQueryIn (is_wide call) query form (Unportable number position)
-- the query isn't refused on its own, and in either mode the outcome is that of binding in the mode
IsAnywhereAsValuesIn call query form outcome = IsTakenQueryIn (is_wide call) query
    × ((mode : Bool) → IsOutcomeAsValuesIn (reading_with (is_wide call) mode) query form outcome)

-- the meaning of an outcome, for the query and the form
abbrev pub IsAnywhereOutcomeIn : AnywhereCall → (query form : List ℕ) → FragmentsOutcome → Type 0
IsAnywhereOutcomeIn call query form (AsValues outcome) =
    IsAnywhereAsValuesIn call query form outcome
IsAnywhereOutcomeIn call query form (Fault place fault) =
    IsTakenQueryIn (is_wide call) query × ((mode : Bool) →
    IsFragmentsOutcomeIn (reading_with (is_wide call) mode) query form (Fault place fault))
IsAnywhereOutcomeIn call query form (Unbracketed place position) =
    IsTakenQueryIn (is_wide call) query × ((mode : Bool) →
    IsFragmentsOutcomeIn (reading_with (is_wide call) mode) query form (Unbracketed place position))
IsAnywhereOutcomeIn call query form (UnsteadyFragment place) = IsTakenQueryIn (is_wide call) query
    × ((mode : Bool) → IsUnsteadyForIn (reading_with (is_wide call) mode) query form place)

-- ---- by the names of the grammar

-- the form has fragments, and this is the query bound so to them
abbrev pub IsAnywhereForm : (query form text : List ℕ) → Type 0
IsAnywhereForm = IsAnywhereFormIn (Steady false)

-- the meaning of an outcome, for the query and the form
abbrev pub IsAnywhereOutcome : (query form : List ℕ) → FragmentsOutcome → Type 0
IsAnywhereOutcome = IsAnywhereOutcomeIn (Steady false)

-- ---- by wide names

-- the form has fragments, and this is the query bound so to them
abbrev pub IsWideAnywhereForm : (query form text : List ℕ) → Type 0
IsWideAnywhereForm = IsAnywhereFormIn (Steady true)

-- the meaning of an outcome, for the query and the form
abbrev pub IsWideAnywhereOutcome : (query form : List ℕ) → FragmentsOutcome → Type 0
IsWideAnywhereOutcome = IsAnywhereOutcomeIn (Steady true)

-- ---- by wide names, with guarded literals for a mode

-- the form has fragments, and this is the query bound so to them
abbrev pub IsWideGuardedForm : (mode : Bool) (query form text : List ℕ) → Type 0
IsWideGuardedForm mode = IsAnywhereFormIn (Guarded mode)

-- the meaning of an outcome, for the query and the form
abbrev pub IsWideGuardedOutcome : (mode : Bool) (query form : List ℕ) → FragmentsOutcome → Type 0
IsWideGuardedOutcome mode = IsAnywhereOutcomeIn (Guarded mode)
