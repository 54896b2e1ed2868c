-- The promises about an answer in a caller's room, for the query, in a reading, and the form.
use Rattle.std.specs.Prelude.{◌≡◌, ◌≤◌, ◌<◌, ℕ, Bool, List, length, take, drop, Some, Ok, Err, ⊤}
use Rattle.std.specs.List.{Contains}
use Rattle.mysql_named_params.specs.Reading.{OnTokensIn, grammar_reading}
use Rattle.mysql_named_params.specs.declared.places.Reading.{Reading}
use Rattle.mysql_named_params.specs.NamesAndMarks.{names}
use Rattle.mysql_named_params.specs.Places.{HasName, HasMark}
use Rattle.mysql_named_params.specs.Parsed.{parsed}
use Rattle.mysql_params_core.specs.GivenValues.{Given}
use Rattle.mysql_params_core.specs.LookupValues.{missing, confused}
use Rattle.mysql_params_core.specs.declared.params.errors.ParamsConfusionError.TheVariants.{NamedParamsForPositionalQuery, PositionalParamsForNamedQuery}
use Rattle.mysql_binding.specs.BindErrors.{cause_of}
use Rattle.mysql_binding.specs.FirstCause.{Cause, first_cause, mixed_query, refused_params, mark_count, not_alone, float_value}
use Rattle.mysql_binding.specs.Isolation.{IsBoundText}
use Rattle.mysql_binding.specs.declared.bind_error.BindError.{BindError}
use Rattle.mysql_flat_params.specs.FlatForm.{IsFormReading, form_end, length_lead, unread_type, mixed_form, repeated_name}
use Rattle.mysql_flat_params.specs.NamePlace.{IsFirstOfName}
use Rattle.mysql_flat_params.specs.NamesAnswer.{names_answer}
use Rattle.mysql_flat_params.specs.declared.outcome.Outcome.{Outcome}
use Rattle.mysql_flat_params.specs.declared.outcome.Outcome.TheVariants.{Done, OutOfMemory, Room, FormEnd, FormLengthLead, FormType, FormMixed, FormRepeated, Mixed, Missing, NamedForPositional, PositionalForNamed, MarkCount, NotAlone, Float, Unsteady, Unportable, Backslash}

-- The answer is at the front of the room, and the rest of the room is unchanged; or the room is
-- shorter than the answer, and unchanged. The bytes of the room are `old` before the call and `new`
-- after it.
abbrev pub IsInRoom : (answer old new : List ℕ) → Outcome → Type 0
IsInRoom answer old new (Done len) = (length answer ≡ len) × (len ≤ length old)
    × (take len new ≡ answer) × (drop len new ≡ drop len old)
IsInRoom answer old new (Room len) =
    (length answer ≡ len) × (length old < len) × (new ≡ old)
IsInRoom answer old new outcome = ⊥

-- the same, or out of memory, and the room is unchanged
abbrev pub IsInRoomOrMemory : (answer old new : List ℕ) → Outcome → Type 0
IsInRoomOrMemory answer old new OutOfMemory = new ≡ old
IsInRoomOrMemory answer old new outcome = IsInRoom answer old new outcome

-- the outcome reports the first place of this name
abbrev pub IsMissingNameIn : (reading : Reading) (query name : List ℕ) → Outcome → Type 0
IsMissingNameIn reading query name (Missing place position len) = (length name ≡ len)
    × OnTokensIn reading query (λ ts. IsFirstOfName ts name place position)
IsMissingNameIn reading query name outcome = ⊥

-- the same by the names of the grammar
abbrev pub IsMissingName : (mode : Bool) (query name : List ℕ) → Outcome → Type 0
IsMissingName mode = IsMissingNameIn (grammar_reading mode)

-- the error is that a name has no value, and the query doesn't have this name
abbrev pub MissesOtherNameIn : (reading : Reading) (query : List ℕ) → BindError → Type 0
MissesOtherNameIn reading query error = (name : List ℕ)
    × (cause_of error ≡ Some (refused_params (missing name)))
    × OnTokensIn reading query (λ ts. Contains (names ts) name → ⊥)

-- the same by the names of the grammar
abbrev pub MissesOtherName : (mode : Bool) (query : List ℕ) → BindError → Type 0
MissesOtherName mode = MissesOtherNameIn (grammar_reading mode)

-- the form has parameters, and this is the query bound to them
abbrev pub IsBoundFormIn : (reading : Reading) (query form text : List ℕ) → Type 0
IsBoundFormIn reading query form text = (given : Given) × IsFormReading form (Ok given)
    × OnTokensIn reading query (λ ts. IsBoundText reading.no_backslash_escape ts given text)

-- the same by the names of the grammar
abbrev pub IsBoundForm : (mode : Bool) (query form text : List ℕ) → Type 0
IsBoundForm mode = IsBoundFormIn (grammar_reading mode)

-- the form has parameters, for which binding to the query is refused, and this is the first cause
abbrev pub IsRefusedForIn : (reading : Reading) (query form : List ℕ) → Cause → Type 0
IsRefusedForIn reading query form cause = (given : Given) × IsFormReading form (Ok given)
    × OnTokensIn reading query (λ ts. first_cause ts given ≡ Some cause)

-- the same by the names of the grammar
abbrev pub IsRefusedFor : (mode : Bool) (query form : List ℕ) → Cause → Type 0
IsRefusedFor mode = IsRefusedForIn (grammar_reading mode)

-- the query bound to the form's parameters has this length
abbrev pub HasBoundLengthIn : (reading : Reading) (query form : List ℕ) → ℕ → Type 0
HasBoundLengthIn reading query form len =
    (text : List ℕ) × IsBoundFormIn reading query form text × (length text ≡ len)

-- the same by the names of the grammar
abbrev pub HasBoundLength : (mode : Bool) (query form : List ℕ) → ℕ → Type 0
HasBoundLength mode = HasBoundLengthIn (grammar_reading mode)

-- the meaning of an outcome of binding, for the query and the form
abbrev pub IsBindOutcomeIn : (reading : Reading) (query form : List ℕ) → Outcome → Type 0
-- the bound text has this length
IsBindOutcomeIn reading query form (Done len) = HasBoundLengthIn reading query form len
IsBindOutcomeIn reading query form (Room len) = HasBoundLengthIn reading query form len
-- out of memory promises nothing
IsBindOutcomeIn reading query form OutOfMemory = ⊤
-- the form is refused for this
IsBindOutcomeIn reading query form (FormEnd place position) =
    IsFormReading form (Err (form_end place position))
IsBindOutcomeIn reading query form (FormLengthLead place position lead) =
    IsFormReading form (Err (length_lead place position lead))
IsBindOutcomeIn reading query form (FormType place position number) =
    IsFormReading form (Err (unread_type place position number))
IsBindOutcomeIn reading query form (FormMixed place position) =
    IsFormReading form (Err (mixed_form place position))
IsBindOutcomeIn reading query form (FormRepeated place position len) =
    IsFormReading form (Err (repeated_name place position len))
-- the form is not refused, and this is the first cause
IsBindOutcomeIn reading query form Mixed = IsRefusedForIn reading query form mixed_query
IsBindOutcomeIn reading query form (Missing place position len) =
    (name : List ℕ) × IsRefusedForIn reading query form (refused_params (missing name))
    × IsMissingNameIn reading query name (Missing place position len)
IsBindOutcomeIn reading query form NamedForPositional =
    IsRefusedForIn reading query form (refused_params (confused NamedParamsForPositionalQuery))
IsBindOutcomeIn reading query form PositionalForNamed =
    IsRefusedForIn reading query form (refused_params (confused PositionalParamsForNamedQuery))
IsBindOutcomeIn reading query form (MarkCount marks values) =
    IsRefusedForIn reading query form (mark_count marks values)
IsBindOutcomeIn reading query form (NotAlone place position) =
    IsRefusedForIn reading query form (not_alone place position)
IsBindOutcomeIn reading query form (Float place) =
    IsRefusedForIn reading query form (float_value place)
-- nothing else is refused
IsBindOutcomeIn reading query form (Unsteady position) = ⊥
IsBindOutcomeIn reading query form (Unportable number position) = ⊥
IsBindOutcomeIn reading query form (Backslash position) = ⊥

-- the same by the names of the grammar
abbrev pub IsBindOutcome : (mode : Bool) (query form : List ℕ) → Outcome → Type 0
IsBindOutcome mode = IsBindOutcomeIn (grammar_reading mode)

-- the query has no names or no marks, and this is the answer to it
abbrev pub IsNamesAnswerIn : (reading : Reading) (query text : List ℕ) → Type 0
IsNamesAnswerIn reading query text = OnTokensIn reading query (λ ts.
    (HasName ts × HasMark ts → ⊥) × (text ≡ names_answer (parsed ts)))

-- the same by the names of the grammar
abbrev pub IsNamesAnswer : (mode : Bool) (query text : List ℕ) → Type 0
IsNamesAnswer mode = IsNamesAnswerIn (grammar_reading mode)

-- the answer to the query has this length
abbrev pub HasNamesLengthIn : (reading : Reading) (query : List ℕ) → ℕ → Type 0
HasNamesLengthIn reading query len =
    (text : List ℕ) × IsNamesAnswerIn reading query text × (length text ≡ len)

-- the same by the names of the grammar
abbrev pub HasNamesLength : (mode : Bool) (query : List ℕ) → ℕ → Type 0
HasNamesLength mode = HasNamesLengthIn (grammar_reading mode)

-- if the query has a name and a mark in this reading, this holds
abbrev pub IfMixedIn : (reading : Reading) (query : List ℕ) → Type 0 → Type 0
IfMixedIn reading query P = OnTokensIn reading query (λ ts. HasName ts × HasMark ts → P)

-- the same by the names of the grammar
abbrev pub IfMixed : (mode : Bool) (query : List ℕ) → Type 0 → Type 0
IfMixed mode = IfMixedIn (grammar_reading mode)

-- the meaning of an outcome of asking for names, for the query; no other outcome comes
abbrev pub IsNamesOutcomeIn : (reading : Reading) (query : List ℕ) → Outcome → Type 0
IsNamesOutcomeIn reading query (Done len) = HasNamesLengthIn reading query len
IsNamesOutcomeIn reading query (Room len) = HasNamesLengthIn reading query len
IsNamesOutcomeIn reading query OutOfMemory = ⊤
IsNamesOutcomeIn reading query Mixed = OnTokensIn reading query (λ ts. HasName ts × HasMark ts)
IsNamesOutcomeIn reading query outcome = ⊥

-- the same by the names of the grammar
abbrev pub IsNamesOutcome : (mode : Bool) (query : List ℕ) → Outcome → Type 0
IsNamesOutcome mode = IsNamesOutcomeIn (grammar_reading mode)
