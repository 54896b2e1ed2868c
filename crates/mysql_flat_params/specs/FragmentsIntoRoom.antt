-- The promises about an answer in a caller's room, for the query, in a reading, and the form of
-- fragments.
use Rattle.std.specs.Prelude.{◌≡◌, ℕ, Bool, List, length, Some, None, Err, ⊤}
use Rattle.mysql_named_params.specs.Reading.{OnTokensIn, grammar_reading}
use Rattle.mysql_named_params.specs.Tokens.{Token}
use Rattle.mysql_named_params.specs.declared.places.Reading.{Reading}
use Rattle.mysql_params_core.specs.declared.params.errors.ParamsConfusionError.TheVariants.{NamedParamsForPositionalQuery, PositionalParamsForNamedQuery}
use Rattle.mysql_fragments.specs.Expanded.{IsBoundFragments}
use Rattle.mysql_fragments.specs.FragmentErrors.{mixed_query, refused_fragments, mark_count, not_alone, float_value, faulty}
use Rattle.mysql_fragments.specs.GivenFragments.{GivenFragments, missing, confused}
use Rattle.mysql_flat_params.specs.FlatForm.{form_end, length_lead, unread_type, mixed_form, repeated_name}
use Rattle.mysql_flat_params.specs.IntoRoom.{IsMissingNameIn}
use Rattle.mysql_flat_params.specs.declared.outcome.Outcome.{Outcome}
use Rattle.mysql_flat_params.specs.declared.outcome.Outcome.TheVariants.{Done, OutOfMemory, Room, FormEnd, FormLengthLead, FormType, FormMixed, FormRepeated, Mixed, Missing, NamedForPositional, PositionalForNamed, MarkCount, NotAlone, Float, Unsteady, Unportable, Backslash}
use Rattle.mysql_flat_params.specs.FlatFragments.{IsFormReading}
use Rattle.mysql_flat_params.specs.FormCauses.{FormCause, first_form_cause, of_fragments, unbracketed, unbracketed_place}
use Rattle.mysql_flat_params.specs.FormKinds.{FormKinds, IsKnownForm}
use Rattle.mysql_flat_params.specs.declared.fragments_outcome.FragmentsOutcome.{FragmentsOutcome}
use Rattle.mysql_flat_params.specs.declared.fragments_outcome.FragmentsOutcome.TheVariants.{AsValues, Fault, Unbracketed, UnsteadyFragment}

-- the fragments, of which this is known, may stand in their places of the query, and this is the
-- query bound to them
abbrev pub IsBoundTo : (reading : Reading) → GivenFragments → FormKinds → List Token →
    (text : List ℕ) → Type 0
IsBoundTo reading given kinds ts text = (unbracketed_place kinds ts ≡ None)
    × IsBoundFragments reading.no_backslash_escape ts given text

-- the form has fragments, and this is the query bound to them
abbrev pub IsBoundFormIn : (reading : Reading) (query form text : List ℕ) → Type 0
IsBoundFormIn reading query form text = (given : GivenFragments) × (kinds : FormKinds)
    × IsKnownForm form given kinds
    × OnTokensIn reading query (λ ts. IsBoundTo reading given kinds ts text)

-- the same by the names of the grammar
abbrev pub IsBoundForm : (mode : Bool) (query form text : List ℕ) → Type 0
IsBoundForm mode = IsBoundFormIn (grammar_reading mode)

-- the form has fragments, for which binding to the query is refused, and this is the first cause
abbrev pub IsRefusedForIn : (reading : Reading) (query form : List ℕ) → FormCause → Type 0
IsRefusedForIn reading query form cause = (given : GivenFragments) × (kinds : FormKinds)
    × IsKnownForm form given kinds
    × OnTokensIn reading query (λ ts. first_form_cause kinds ts given ≡ Some cause)

-- the same by the names of the grammar
abbrev pub IsRefusedFor : (mode : Bool) (query form : List ℕ) → FormCause → Type 0
IsRefusedFor mode = IsRefusedForIn (grammar_reading mode)

-- the query bound to the form's fragments has this length
abbrev pub HasBoundLengthIn : (reading : Reading) (query form : List ℕ) → ℕ → Type 0
HasBoundLengthIn reading query form len =
    (text : List ℕ) × IsBoundFormIn reading query form text × (length text ≡ len)

-- the same by the names of the grammar
abbrev pub HasBoundLength : (mode : Bool) (query form : List ℕ) → ℕ → Type 0
HasBoundLength mode = HasBoundLengthIn (grammar_reading mode)

-- the meaning of an outcome that binding values has too, for the query and the form
abbrev pub IsOutcomeAsValuesIn : (reading : Reading) (query form : List ℕ) → Outcome → Type 0
-- the bound text has this length
IsOutcomeAsValuesIn reading query form (Done len) = HasBoundLengthIn reading query form len
IsOutcomeAsValuesIn reading query form (Room len) = HasBoundLengthIn reading query form len
-- out of memory promises nothing
IsOutcomeAsValuesIn reading query form OutOfMemory = ⊤
-- the form is refused for this
IsOutcomeAsValuesIn reading query form (FormEnd place position) =
    IsFormReading form (Err (form_end place position))
IsOutcomeAsValuesIn reading query form (FormLengthLead place position lead) =
    IsFormReading form (Err (length_lead place position lead))
IsOutcomeAsValuesIn reading query form (FormType place position number) =
    IsFormReading form (Err (unread_type place position number))
IsOutcomeAsValuesIn reading query form (FormMixed place position) =
    IsFormReading form (Err (mixed_form place position))
IsOutcomeAsValuesIn reading query form (FormRepeated place position len) =
    IsFormReading form (Err (repeated_name place position len))
-- the form is not refused, and this is the first cause
IsOutcomeAsValuesIn reading query form Mixed =
    IsRefusedForIn reading query form (of_fragments mixed_query)
IsOutcomeAsValuesIn reading query form (Missing place position len) =
    (name : List ℕ)
    × IsRefusedForIn reading query form (of_fragments (refused_fragments (missing name)))
    × IsMissingNameIn reading query name (Missing place position len)
IsOutcomeAsValuesIn reading query form NamedForPositional =
    IsRefusedForIn reading query form
    (of_fragments (refused_fragments (confused NamedParamsForPositionalQuery)))
IsOutcomeAsValuesIn reading query form PositionalForNamed =
    IsRefusedForIn reading query form
    (of_fragments (refused_fragments (confused PositionalParamsForNamedQuery)))
IsOutcomeAsValuesIn reading query form (MarkCount marks values) =
    IsRefusedForIn reading query form (of_fragments (mark_count marks values))
IsOutcomeAsValuesIn reading query form (NotAlone place position) =
    IsRefusedForIn reading query form (of_fragments (not_alone place position))
IsOutcomeAsValuesIn reading query form (Float place) =
    IsRefusedForIn reading query form (of_fragments (float_value place))
-- nothing else is refused
IsOutcomeAsValuesIn reading query form (Unsteady position) = ⊥
IsOutcomeAsValuesIn reading query form (Unportable number position) = ⊥
IsOutcomeAsValuesIn reading query form (Backslash position) = ⊥

-- the same by the names of the grammar
abbrev pub IsOutcomeAsValues : (mode : Bool) (query form : List ℕ) → Outcome → Type 0
IsOutcomeAsValues mode = IsOutcomeAsValuesIn (grammar_reading mode)

-- the meaning of an outcome, for the query and the form
abbrev pub IsFragmentsOutcomeIn : (reading : Reading) (query form : List ℕ) → FragmentsOutcome →
    Type 0
IsFragmentsOutcomeIn reading query form (AsValues outcome) =
    IsOutcomeAsValuesIn reading query form outcome
IsFragmentsOutcomeIn reading query form (Fault place fault) =
    IsRefusedForIn reading query form (of_fragments (faulty place fault))
IsFragmentsOutcomeIn reading query form (Unbracketed place position) =
    IsRefusedForIn reading query form (unbracketed place position)
IsFragmentsOutcomeIn reading query form (UnsteadyFragment place) = ⊥

-- the same by the names of the grammar
abbrev pub IsFragmentsOutcome : (mode : Bool) (query form : List ℕ) → FragmentsOutcome → Type 0
IsFragmentsOutcome mode = IsFragmentsOutcomeIn (grammar_reading mode)
