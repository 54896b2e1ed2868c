-- Binding by a table for any mode and any server, with literals of one kind.
use Rattle.std.specs.Prelude.{Bool, Option}
use Rattle.std.proofs.Common.{◌≡◌, ℕ, List, None, true}
use Rattle.mysql_named_params.specs.Reading.{OnTokensIn, wide_reading}
use Rattle.mysql_named_params.specs.Tokens.{Token}
use Rattle.mysql_params_core.specs.Given.{Given}
use Rattle.mysql_binding.specs.MeasuredText.{HasGivenLength}
use Rattle.mysql_binding.specs.TextInRoom.{HasTextOf, IsTextInRoom}
use Rattle.mysql_binding.specs.WrittenText.{IsGivenText}
use Rattle.mysql_binding.specs.declared.binding.room.TextInRoom.{TextInRoom}
use Rattle.mysql_binding.proofs.CauseLemmas.{on_both}
use Rattle.mysql_binding.proofs.TextInRoomLemmas.{each_in_room, known_text}
use Rattle.mysql_steady_text.specs.GuardedLiteral.{guarded_literal_of}
use Rattle.mysql_steady_text.specs.GuardedLiterals.{IsGuardedFor}
use Rattle.mysql_flat_params.specs.AnywhereTable.{IsBindOutcomeBy, IsTakenAnywhere}
use Rattle.mysql_flat_params.specs.Outcomes as outcomes
use Rattle.mysql_flat_params.specs.PlaceTable.{IfAsQuery, IsTableBindOutcomeIn}
use Rattle.mysql_flat_params.specs.SteadyIntoRoom.{IsSteadyOutcomeIn}
use Rattle.mysql_flat_params.specs.Steadiness.{IsBoundAs, refusal_as}
use Rattle.mysql_flat_params.specs.TableLiterals.{IsBoundWith, IsKnownWith, literal_with}
use Rattle.mysql_flat_params.specs.WideSteadyIntoRoom.{wide_anywhere_refusal}
use Rattle.mysql_flat_params.specs.declared.outcome.Outcome.{Outcome}
use Rattle.mysql_flat_params.specs.declared.outcome.Outcome.TheVariants as variant
use Rattle.mysql_flat_params.specs.declared.place_table.TableOutcome.{TableOutcome}
use Rattle.mysql_flat_params.specs.declared.place_table.TableOutcome.TheVariants.{AsQuery, OtherTable}
use Rattle.mysql_flat_params.specs.declared.steady_room.Steadiness.TheVariants.{Anywhere}
use Rattle.mysql_flat_params.specs.declared.table_literals.AnywhereLiterals.{AnywhereLiterals}
use Rattle.mysql_flat_params.specs.declared.table_literals.AnywhereLiterals.TheVariants.{Steady, Guarded}
use Rattle.mysql_flat_params.proofs.AnywhereTableLemmas.{taken_agree}
use Rattle.mysql_flat_params.proofs.GuardedRoomLemmas.{guarded_known}
use Rattle.mysql_flat_params.proofs.SteadyOutcomeLemmas.{cause_told}
use Rattle.mysql_flat_params.proofs.SteadyRoomLemmas.{steady_in_room}
use Rattle.mysql_flat_params.proofs.WideGuardedLemmas.{guarded_bound}

-- the text in the room is the one that is promised
pub literals_in_room : (literals : AnywhereLiterals) (query : List ℕ) (given : Given) (old new : List ℕ) (text : TextInRoom) →
    OnTokensIn (wide_reading true) query (λ ts. wide_anywhere_refusal query ts ≡ None) →
    OnTokensIn (wide_reading true) query (λ ts. IsTextInRoom (IsGivenText (literal_with literals) (IsKnownWith literals) ts given) (HasGivenLength (literal_with literals) ts given) old new text) →
    IsTextInRoom (IsBoundWith literals query given) (HasTextOf (IsBoundWith literals query given)) old new text
literals_in_room Steady query given old new text none h = steady_in_room true Anywhere query given old new text none h
literals_in_room (Guarded mode) query given old new text none h =
    let (ts, is, both) = on_both (wide_reading true) query (λ ts. wide_anywhere_refusal query ts ≡ None) (λ ts. IsTextInRoom (IsGivenText (guarded_literal_of mode) (IsGuardedFor mode) ts given) (HasGivenLength (guarded_literal_of mode) ts given) old new text) none h in
    each_in_room _ _ _ old new text (λ x g. guarded_bound mode query given ts x g is both.0)
    (λ len (x, g, long). (x, guarded_bound mode query given ts x (known_text (guarded_literal_of mode) (IsGuardedFor mode) (guarded_known mode) ts given x g) is both.0, long)) both.1

-- an outcome without an answer says the same of each kind of text
other_text : (wide : Bool) (IsBound IsOther : Given → List ℕ → Type 0) (refusal : List Token → Option Outcome) (query form : List ℕ) (outcome : Outcome) → outcomes.HasNoAnswer outcome →
    IsSteadyOutcomeIn wide IsBound refusal query form outcome → IsSteadyOutcomeIn wide IsOther refusal query form outcome
other_text wide IsBound IsOther refusal query form (variant.Done len) no_answer is = absurd no_answer
other_text wide IsBound IsOther refusal query form (variant.Room len) no_answer is = absurd no_answer
other_text wide IsBound IsOther refusal query form variant.OutOfMemory no_answer is = is
other_text wide IsBound IsOther refusal query form (variant.FormEnd place position) no_answer is = is
other_text wide IsBound IsOther refusal query form (variant.FormLengthLead place position lead) no_answer is = is
other_text wide IsBound IsOther refusal query form (variant.FormType place position number) no_answer is = is
other_text wide IsBound IsOther refusal query form (variant.FormMixed place position) no_answer is = is
other_text wide IsBound IsOther refusal query form (variant.FormRepeated place position len) no_answer is = is
other_text wide IsBound IsOther refusal query form (variant.Unsteady position) no_answer is = is
other_text wide IsBound IsOther refusal query form (variant.Unportable number position) no_answer is = is
other_text wide IsBound IsOther refusal query form (variant.Backslash position) no_answer is = is
other_text wide IsBound IsOther refusal query form outcome no_answer is = is

-- the outcome for a form that is refused
pub form_told : (literals : AnywhereLiterals) (query form : List ℕ) (outcome : Outcome) → outcomes.HasNoAnswer outcome →
    IsSteadyOutcomeIn true (IsBoundAs true Anywhere query) (refusal_as true Anywhere query) query form outcome →
    IsSteadyOutcomeIn true (IsBoundWith literals query) (refusal_as true Anywhere query) query form outcome
form_told literals query form outcome no_answer is =
    other_text true (IsBoundAs true Anywhere query) (IsBoundWith literals query) (refusal_as true Anywhere query) query form outcome no_answer is

-- the outcome for an error of binding by its own table
pub cause_by : (literals : AnywhereLiterals) (query form : List ℕ) → IsTakenAnywhere query → (outcome : TableOutcome) → IfAsQuery outcome outcomes.HasNoAnswer →
    IsTableBindOutcomeIn (wide_reading true) query form outcome → IsBindOutcomeBy (IsBoundWith literals query) query form outcome
cause_by literals query form taken (AsQuery outcome) no_answer is =
    cause_told true (IsBoundWith literals query) (refusal_as true Anywhere query) query form (taken_agree query taken) taken outcome no_answer is
cause_by literals query form taken OtherTable no_answer is = is
