-- The meaning of an outcome of binding fragments for any mode and any server, from the results of
-- the calls below.
use Rattle.std.specs.Prelude.{Bool, false, true, None, Some, Ok}
use Rattle.std.proofs.Common.{◌≡◌, ℕ, List, ap, arith, length, subst, sym, take, ◌∙◌}
use Rattle.std.proofs.lemmas.List.{length-take-le}
use Rattle.mysql_named_params.specs.LoweredNames.{lower_names}
use Rattle.mysql_named_params.specs.Reading.{OnTokensIn, reading_with}
use Rattle.mysql_named_params.specs.Tokens.{Token}
use Rattle.mysql_portable.specs.FirstUnportable.{first_unportable}
use Rattle.mysql_portable.specs.Steady.{first_unsteady, IsSteady}
use Rattle.mysql_portable.proofs.SteadyLemmas.{none_unsteady}
use Rattle.mysql_portable.proofs.UnportableLemmas.{none_is_portable}
use Rattle.mysql_binding.specs.TextInRoom.{HasTextOf, IsTextInRoom}
use Rattle.mysql_binding.specs.declared.binding.room.TextInRoom.{TextInRoom}
use Rattle.mysql_binding.specs.declared.binding.room.TextInRoom.TheVariants.{Written, TooShort}
use Rattle.mysql_binding.proofs.TextInRoomLemmas.{each_in_room}
use Rattle.mysql_named_params.specs.Places.{names}
use Rattle.mysql_named_params.specs.declared.places.Reading.{Reading}
use Rattle.mysql_named_params.proofs.ReadingLemmas.{one_reading}
use Rattle.mysql_fragments.specs.GivenFragments.{GivenFragments, fragments_for}
use Rattle.mysql_fragments.specs.SteadyFragments.{first_unsteady_from, unsteady_place}
use Rattle.mysql_fragments.specs.declared.fragment_ref.FragmentRef.{FragmentRef}
use Rattle.mysql_flat_params.specs.FormInPlace.{AreGivenTo}
use Rattle.mysql_fragments.proofs.SteadyFragmentLemmas.{anywhere_fragments, in_either}
use Rattle.mysql_fragments.proofs.WideFragmentLemmas.{wide_anywhere_fragments}
use Rattle.mysql_fragments.proofs.GuardedFragmentLemmas.{guarded_on_servers}
use Rattle.mysql_fragments.proofs.SteadyRoomLemmas.{steady_in_room}
use Rattle.mysql_fragments.specs.FilledText.{ArePlaced, IsFilledQuery}
use Rattle.mysql_fragments.specs.FragmentsInRoom.{HasFilledLength}
use Rattle.mysql_fragments.specs.declared.fragment.Fragment.{Fragment}
use Rattle.mysql_flat_params.proofs.GuardedRoomLemmas.{guarded_in_room}
use Rattle.mysql_flat_params.specs.Outcomes as values
use Rattle.mysql_flat_params.specs.Outcomes.{text_outcome}
use Rattle.mysql_flat_params.specs.Steadiness.{refusal_as}
use Rattle.mysql_flat_params.specs.WideSteadyIntoRoom.{portable_tokens}
use Rattle.mysql_flat_params.specs.NamePlace.{IsFirstOfName}
use Rattle.mysql_flat_params.specs.declared.outcome.Outcome.{Outcome}
use Rattle.mysql_flat_params.specs.declared.outcome.Outcome.TheVariants.{Done, OutOfMemory, Room, FormEnd, FormLengthLead, FormType, FormMixed, FormRepeated, Mixed, Missing, NamedForPositional, PositionalForNamed, MarkCount, NotAlone, Float, Unsteady, Backslash}
use Rattle.mysql_flat_params.specs.declared.outcome.Outcome.TheVariants as variant
use Rattle.mysql_flat_params.specs.declared.steady_room.Steadiness.TheVariants.{Anywhere}
use Rattle.mysql_flat_params.specs.FlatFragments.{IsFormReading}
use Rattle.mysql_flat_params.specs.FormCauses.{FormCause, first_form_cause}
use Rattle.mysql_flat_params.specs.FormKinds.{FormKinds, IsKnownForm}
use Rattle.mysql_flat_params.specs.AnywhereCalls.{IsBoundIn, IsKnownIn, literal_in}
use Rattle.mysql_flat_params.specs.FragmentsAnywhereIntoRoom.{IsAnywhereAsValuesIn, IsAnywhereFormIn, IsAnywhereOutcomeIn, IsAnywhereTextIn, IsTakenQueryIn, MayStandIn, is_wide}
use Rattle.mysql_flat_params.specs.declared.fragments_anywhere_room.AnywhereCall.{AnywhereCall}
use Rattle.mysql_flat_params.specs.declared.fragments_anywhere_room.AnywhereCall.TheVariants.{Steady, Guarded}
use Rattle.mysql_flat_params.specs.FragmentsIntoRoom.{IsFragmentsOutcomeIn, IsOutcomeAsValuesIn, IsRefusedForIn}
use Rattle.mysql_flat_params.specs.FragmentsOutcomes.{HasNoAnswer}
use Rattle.mysql_flat_params.specs.declared.fragments_outcome.FragmentsOutcome.{FragmentsOutcome}
use Rattle.mysql_flat_params.specs.declared.fragments_outcome.FragmentsOutcome.TheVariants.{AsValues, Fault, Unbracketed, UnsteadyFragment}
use Rattle.mysql_flat_params.proofs.SteadyOutcomeLemmas.{told_first}
use Rattle.mysql_flat_params.proofs.SteadyRoomLemmas.{none_told}

-- ---- a query that is refused with any fragments

pub refused_told : (call : AnywhereCall) (query form : List ℕ) (given : GivenFragments) → IsFormReading form (Ok given) → (outcome : Outcome) (ts : List Token) →
    refusal_as (is_wide call) Anywhere query ts ≡ Some outcome →
    ((mode : Bool) → OnTokensIn (reading_with (is_wide call) mode) query (λ ts. refusal_as (is_wide call) Anywhere query ts ≡ Some outcome)) →
    IsAnywhereAsValuesIn call query form outcome
refused_told call query form given reads outcome ts e h =
    told_first (λ told. ((mode : Bool) → OnTokensIn (reading_with (is_wide call) mode) query (λ ts. refusal_as (is_wide call) Anywhere query ts ≡ Some told)) → IsAnywhereAsValuesIn call query form told)
    variant.Unsteady (λ at h. ((given, reads), h)) (λ found h. ((given, reads), h)) (first_unsteady query) (first_unportable (portable_tokens (is_wide call) ts)) outcome e h

-- ---- a query that is taken

pub taken_is_steady : (wide : Bool) (query : List ℕ) → IsTakenQueryIn wide query → IsSteady query
taken_is_steady wide query none =
    let o = none false in
    (none_unsteady query).0 (none_told variant.Unsteady (first_unsteady query) (first_unportable (portable_tokens wide o.0)) o.2).0

-- the text for any mode is one for any server
anywhere_text : (call : AnywhereCall) (query : List ℕ) (given : GivenFragments) → IsTakenQueryIn (is_wide call) query → (text : List ℕ) →
    IsBoundIn call query given text → IsAnywhereTextIn call query given text
anywhere_text (Steady false) query given none text b =
    let o = none false in
    let n = none_told variant.Unsteady (first_unsteady query) (first_unportable o.0) o.2 in
    anywhere_fragments {E = ⊥} (λ y. y) (Ok text) query given ((none_unsteady query).0 n.0) (o.0, o.1, none_is_portable o.0 n.1) b
anywhere_text (Steady true) query given none text b =
    let o = none false in
    let n = none_told variant.Unsteady (first_unsteady query) (first_unportable (lower_names o.0)) o.2 in
    wide_anywhere_fragments {E = ⊥} (λ y. y) (Ok text) query given ((none_unsteady query).0 n.0) (o.0, o.1, none_is_portable (lower_names o.0) n.1) b
anywhere_text (Guarded mode) query given none text b =
    let o = none false in
    let n = none_told variant.Unsteady (first_unsteady query) (first_unportable (lower_names o.0)) o.2 in
    guarded_on_servers {E = ⊥} (λ y. y) (Ok text) mode query given ((none_unsteady query).0 n.0) (o.0, o.1, none_is_portable (lower_names o.0) n.1) b

pub anywhere_in_room : (call : AnywhereCall) (query : List ℕ) (given : GivenFragments) → IsTakenQueryIn (is_wide call) query → (old new : List ℕ) (text : TextInRoom) →
    IsTextInRoom (IsBoundIn call query given) (HasTextOf (IsBoundIn call query given)) old new text →
    IsTextInRoom (IsAnywhereTextIn call query given) (HasTextOf (IsAnywhereTextIn call query given)) old new text
anywhere_in_room call query given none old new text h =
    each_in_room _ _ _ old new text (λ x b. anywhere_text call query given none x b) (λ len (x, b, long). (x, anywhere_text call query given none x b, long)) h

-- the query with the fragments in its places is bound to them
pub bound_in_room : (call : AnywhereCall) (query : List ℕ) (given : GivenFragments) (said : List Fragment) → IsSteady query →
    OnTokensIn (reading_with (is_wide call) false) query (λ ts. ArePlaced true ts given said) → None ≡ first_unsteady_from 0 said → (old new : List ℕ) (text : TextInRoom) →
    OnTokensIn (reading_with (is_wide call) false) query (λ ts. IsTextInRoom (IsFilledQuery (literal_in call) (IsKnownIn call) false ts given) (HasFilledLength (literal_in call) false ts given) old new text) →
    IsTextInRoom (IsBoundIn call query given) (HasTextOf (IsBoundIn call query given)) old new text
bound_in_room (Steady wide) query given said steady p none old new text h = steady_in_room wide query given said steady p none old new text h
bound_in_room (Guarded mode) query given said steady p none old new text h = guarded_in_room mode query given said steady p none old new text h

-- ---- any other outcome

module _ (call : AnywhereCall) (query form : List ℕ) (steady : IsSteady query) (none : IsTakenQueryIn (is_wide call) query) where
  either : (cause : FormCause) → IsRefusedForIn (reading_with (is_wide call) false) query form cause → (mode : Bool) → IsRefusedForIn (reading_with (is_wide call) mode) query form cause
  either cause (given, kinds, reads, o) mode = (given, kinds, reads, in_either (is_wide call) query (λ ts. first_form_cause kinds ts given ≡ Some cause) false mode steady o)

  as_values_told : (outcome : Outcome) → values.HasNoAnswer outcome → IsOutcomeAsValuesIn (reading_with (is_wide call) false) query form outcome →
      IsAnywhereAsValuesIn call query form outcome
  as_values_told (Done len) no_answer is = absurd no_answer
  as_values_told (Room len) no_answer is = absurd no_answer
  as_values_told OutOfMemory no_answer is = tt
  as_values_told (FormEnd place position) no_answer is = is
  as_values_told (FormLengthLead place position lead) no_answer is = is
  as_values_told (FormType place position number) no_answer is = is
  as_values_told (FormMixed place position) no_answer is = is
  as_values_told (FormRepeated place position len) no_answer is = is
  as_values_told Mixed no_answer is = (none, either _ is)
  as_values_told (Missing place position len) no_answer (name, refused, told) = (
    none,
    λ mode. (
      name,
      either _ refused mode,
      (told.0, in_either (is_wide call) query (λ ts. IsFirstOfName ts name place position) false mode steady told.1),
    ),
  )
  as_values_told NamedForPositional no_answer is = (none, either _ is)
  as_values_told PositionalForNamed no_answer is = (none, either _ is)
  as_values_told (MarkCount marks values) no_answer is = (none, either _ is)
  as_values_told (NotAlone place position) no_answer is = (none, either _ is)
  as_values_told (Float place) no_answer is = (none, either _ is)
  as_values_told (Unsteady position) no_answer is = absurd is
  as_values_told (variant.Unportable number position) no_answer is = absurd is
  as_values_told (Backslash position) no_answer is = absurd is

  pub outcome_told : (outcome : FragmentsOutcome) → HasNoAnswer outcome → IsFragmentsOutcomeIn (reading_with (is_wide call) false) query form outcome →
      IsAnywhereOutcomeIn call query form outcome
  outcome_told (AsValues outcome) no_answer is = as_values_told outcome no_answer is
  outcome_told (Fault place fault) no_answer is = (none, either _ is)
  outcome_told (Unbracketed place position) no_answer is = (none, either _ is)
  outcome_told (UnsteadyFragment place) no_answer is = absurd is

-- the first fragment that isn't steady is that of the places
pub unsteady_told : (reading : Reading) (query : List ℕ) (given : GivenFragments) (kinds : FormKinds) (placed : List FragmentRef) (p : OnTokensIn reading query (AreGivenTo given placed)) (place : ℕ) →
    OnTokensIn reading query (λ ts. first_form_cause kinds ts given ≡ None) → Some place ≡ first_unsteady_from 0 p.2.1 →
    OnTokensIn reading query (λ ts. (first_form_cause kinds ts given ≡ None) × (unsteady_place (fragments_for given (names ts)) ≡ Some place))
unsteady_told reading query given kinds placed p place n is =
    let none : first_form_cause kinds p.0 given ≡ None = subst (λ ts. first_form_cause kinds ts given ≡ None) (one_reading reading query n.0 p.0 n.1 p.1) n.2 in
    (p.0, p.1, (none, ap unsteady_place p.2.2 ∙ sym is))

-- ---- a text in the room, as an outcome

module _ (call : AnywhereCall) (query form : List ℕ) (given : GivenFragments) (kinds : FormKinds) (reads : IsKnownForm form given kinds) (stand : MayStandIn (is_wide call) query kinds) (old new : List ℕ) where
  pub told_in_room : length new ≡ length old → (text : TextInRoom) →
      IsTextInRoom (IsAnywhereTextIn call query given) (HasTextOf (IsAnywhereTextIn call query given)) old new text → IsAnywhereAsValuesIn call query form (text_outcome text)
  told_in_room same (Written len) h = (take len new, (given, kinds, reads, stand, h.1), length-take-le len new (omega (arith, h.0, same)))
  told_in_room same (TooShort len) h = (h.1.0, (given, kinds, reads, stand, h.1.1), h.1.2)

  pub written_in_room : (text : TextInRoom) →
      IsTextInRoom (IsAnywhereTextIn call query given) (HasTextOf (IsAnywhereTextIn call query given)) old new text →
      values.IfDone (text_outcome text) (λ len. IsAnywhereFormIn call query form (take len new))
  written_in_room (Written len) h = (given, kinds, reads, stand, h.1)
  written_in_room (TooShort len) h = tt
