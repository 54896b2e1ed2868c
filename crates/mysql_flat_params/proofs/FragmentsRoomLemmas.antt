-- The meaning of an outcome, from the results of the calls below.
use Rattle.std.specs.Prelude.{Option, Some, None, Result, Ok, Err, option_map, true, if◌then◌else◌}
use Rattle.std.specs.Option.{option_or}
use Rattle.std.specs.List.{Contains}
use Rattle.std.specs.FinMap.{get}
use Rattle.std.proofs.Common.{arith, ◌≡◌, inl, inr, ℕ, suc, Bool, false, List, [], ◌∷◌, length, subst, sym, take, ap, ◌∙◌}
use Rattle.std.proofs.lemmas.List.{length-take-le}
use Rattle.mysql_named_params.specs.Tokens.{Token}
use Rattle.mysql_named_params.specs.Places.{names, marks, has_both}
use Rattle.mysql_named_params.specs.Reading.{OnTokensIn}
use Rattle.mysql_named_params.specs.declared.places.Reading.{Reading}
use Rattle.mysql_binding.specs.FirstCause.{mark_count_differs}
use Rattle.mysql_binding.specs.StandsAlone.{first_not_alone}
use Rattle.mysql_fragments.specs.FragmentErrors.{Cause, cause_of, cause_of_places, count_cause, fault_cause, faulty, first_cause, first_fault_from, float_cause, float_value, later_cause, literal_float, mark_count, mixed_query, not_alone, not_alone_cause, refused_fragments}
use Rattle.mysql_fragments.specs.GivenFragments.{FragmentMap, GivenFragments, PlaceRefusal, fragments_at, fragments_for, missing, named, positional, with_first}
use Rattle.mysql_fragments.specs.declared.fragment.Fragment.{Fragment}
use Rattle.mysql_fragments.specs.declared.fragments_error.FragmentFault.{FragmentFault}
use Rattle.mysql_fragments.specs.declared.fragments_error.FragmentsError.{FragmentsError}
use Rattle.mysql_fragments.specs.declared.fragments_error.FragmentsError.TheVariants as error
use Rattle.mysql_params_core.specs.declared.params.errors.MissingNamedParameterError.{MissingNamedParameterError}
use Rattle.mysql_binding.specs.TextInRoom.{HasTextOf, IsTextInRoom}
use Rattle.mysql_binding.specs.declared.binding.room.TextInRoom.{TextInRoom}
use Rattle.mysql_binding.specs.declared.binding.room.TextInRoom.TheVariants.{Written, TooShort}
use Rattle.mysql_fragments.specs.Expanded.{IsBoundFragments}
use Rattle.mysql_flat_params.specs.IntoRoom.{IsMissingNameIn}
use Rattle.mysql_flat_params.specs.Outcomes as values
use Rattle.mysql_flat_params.specs.Outcomes.{text_outcome}
use Rattle.mysql_flat_params.specs.declared.outcome.Outcome.{Outcome}
use Rattle.mysql_flat_params.specs.declared.outcome.Outcome.TheVariants as outcome
use Rattle.mysql_named_params.proofs.ReadingLemmas.{one_reading}
use Rattle.mysql_binding.proofs.TextInRoomLemmas.{each_in_room}
use Rattle.mysql_flat_params.specs.FormCauses.{FormCause, IsFormCauseOrMemory, first_form_cause, form_cause_of, of_fragments, unbracketed_place}
use Rattle.mysql_flat_params.specs.FormKinds.{FormKinds, IsKnownForm}
use Rattle.mysql_flat_params.specs.declared.form_refusal.KeptError.{KeptError}
use Rattle.mysql_flat_params.specs.declared.form_refusal.KeptError.TheVariants.{Fragments}
use Rattle.mysql_flat_params.proofs.FormCauseLemmas.{first_of_fragments}
use Rattle.mysql_flat_params.specs.FragmentsIntoRoom.{IsBoundFormIn, IsBoundTo, IsOutcomeAsValuesIn, IsRefusedForIn}

-- ---- a missing name is one of the query's

with_first_missing : (name : List ℕ) (o : Option Fragment) (others : Result (List Fragment) PlaceRefusal) (names : List (List ℕ)) (absent : List ℕ) →
    with_first name o others ≡ Err (missing absent) → (others ≡ Err (missing absent) → Contains names absent) → Contains (name ∷ names) absent
with_first_missing name None others names absent e later =
    let same : name ≡ absent = cc in
    (0, omega arith, same)
with_first_missing name (Some fragment) (Err refusal) names absent e later =
    let same : refusal ≡ missing absent = cc in
    let (k, below, is) = later (ap (λ r. Err r) same) in
    (suc k, omega arith, is)
with_first_missing name (Some fragment) (Ok fragments) names absent e later = cc

missing_at : (entries : FragmentMap) (names : List (List ℕ)) (absent : List ℕ) → fragments_at entries names ≡ Err (missing absent) → Contains names absent
missing_at entries [] absent e = cc
missing_at entries (name ∷ names) absent e =
    with_first_missing name (get entries name) (fragments_at entries names) names absent e (missing_at entries names absent)

missing_for : (given : GivenFragments) (names : List (List ℕ)) (absent : List ℕ) → fragments_for given names ≡ Err (missing absent) → Contains names absent
missing_for (positional fragments) [] absent e = cc
missing_for (positional fragments) (name ∷ names) absent e = cc
missing_for (named entries) [] absent e = cc
missing_for (named entries) (name ∷ names) absent e = missing_at entries (name ∷ names) absent e

abbrev IsNoRefusal : Option Cause → PlaceRefusal → Type 0
IsNoRefusal cause refusal = cause ≡ Some (refused_fragments refusal) → ⊥

module _ (refusal : PlaceRefusal) where
  no_refusal_or : (a b : Option Cause) → IsNoRefusal a refusal → IsNoRefusal b refusal → IsNoRefusal (option_or a b) refusal
  no_refusal_or None b no_a no_b = no_b
  no_refusal_or (Some cause) b no_a no_b = no_a

  no_refusal_count : (b : Bool) (m n : ℕ) → IsNoRefusal (if b then Some (mark_count m n) else None) refusal
  no_refusal_count true m n e = cc
  no_refusal_count false m n e = cc

  no_refusal_place : (o : Option (ℕ × ℕ)) → IsNoRefusal (option_map (λ found. not_alone found.0 found.1) o) refusal
  no_refusal_place None e = cc
  no_refusal_place (Some found) e = cc

  no_refusal_float : (o : Option ℕ) → IsNoRefusal (option_map float_value o) refusal
  no_refusal_float None e = cc
  no_refusal_float (Some place) e = cc

  no_refusal_fault : (o : Option (ℕ × FragmentFault)) → IsNoRefusal (option_map (λ found. faulty found.0 found.1) o) refusal
  no_refusal_fault None e = cc
  no_refusal_fault (Some found) e = cc

  no_refusal_later : (ts : List Token) (fragments : List Fragment) → IsNoRefusal (later_cause true ts fragments) refusal
  no_refusal_later ts fragments =
      no_refusal_or (count_cause ts fragments) _
      (no_refusal_count (mark_count_differs (length (names ts)) (marks ts) (length fragments)) (marks ts) (length fragments))
      (no_refusal_or (not_alone_cause ts) _ (no_refusal_place (first_not_alone ts))
      (no_refusal_or (float_cause true fragments) (fault_cause fragments) (no_refusal_float (literal_float true fragments))
      (no_refusal_fault (first_fault_from 0 fragments))))

  unmixed : (b : Bool) (cause : Option Cause) →
      option_or (if b then Some mixed_query else None) cause ≡ Some (refused_fragments refusal) → cause ≡ Some (refused_fragments refusal)
  unmixed true cause e = cc
  unmixed false cause e = e

  refused_for_places : (ts : List Token) (r : Result (List Fragment) PlaceRefusal) →
      cause_of_places true ts r ≡ Some (refused_fragments refusal) → r ≡ Err refusal
  refused_for_places ts (Err why) e =
      let same : why ≡ refusal = cc in
      ap (λ x. Err x) same
  refused_for_places ts (Ok fragments) e = absurd (no_refusal_later ts fragments e)

missing_is_name : (ts : List Token) (given : GivenFragments) (absent : List ℕ) →
    first_cause true ts given ≡ Some (refused_fragments (missing absent)) → Contains (names ts) absent
missing_is_name ts given absent e =
    missing_for given (names ts) absent
    (refused_for_places (missing absent) ts (fragments_for given (names ts)) (unmixed (missing absent) (has_both ts) _ e))

-- ---- an error with a cause is that of the first cause

module _ (error : KeptError) (cause : FormCause) (is : form_cause_of error ≡ Some cause) where
  cause_is_first : (first : Option FormCause) → IsFormCauseOrMemory first error → first ≡ Some cause
  cause_is_first first (inl memory) =
      let never : Some cause ≡ None = sym is ∙ ap form_cause_of memory in
      cc
  cause_is_first first (inr why) = why.1 ∙ (sym why.2 ∙ is)

  pub refused_for : (reading : Reading) (query form : List ℕ) (given : GivenFragments) (kinds : FormKinds) → IsKnownForm form given kinds →
      OnTokensIn reading query (λ ts. IsFormCauseOrMemory (first_form_cause kinds ts given) error) → IsRefusedForIn reading query form cause
  refused_for reading query form given kinds reads o = (given, kinds, reads, (o.0, o.1, cause_is_first (first_form_cause kinds o.0 given) o.2))

-- the cause of an error that holds a missing name
pub is_missing : (why : FragmentsError) (held : MissingNamedParameterError) (name : List ℕ) → why ≡ error.Missing held → name ≡ held.0.items →
    cause_of why ≡ Some (refused_fragments (missing name))
is_missing why held name is name_is = ap cause_of is ∙ ap (λ n. Some (refused_fragments (missing n))) (sym name_is)

pub name_is_there : (reading : Reading) (query name : List ℕ) (error : FragmentsError) → cause_of error ≡ Some (refused_fragments (missing name)) →
    ((given : GivenFragments) × (kinds : FormKinds) × OnTokensIn reading query (λ ts. IsFormCauseOrMemory (first_form_cause kinds ts given) (Fragments error))) →
    OnTokensIn reading query (λ ts. Contains (names ts) name)
name_is_there reading query name error is (given, kinds, o) =
    let first = cause_is_first (Fragments error) (of_fragments (refused_fragments (missing name))) (ap (option_map of_fragments) is) (first_form_cause kinds o.0 given) o.2 in
    (o.0, o.1, missing_is_name o.0 given name (first_of_fragments (unbracketed_place kinds o.0) (first_cause true o.0 given) (refused_fragments (missing name)) first))

-- the outcome reports its place
pub missing_told : (reading : Reading) (query form name : List ℕ) (told : Outcome) → IsRefusedForIn reading query form (of_fragments (refused_fragments (missing name))) →
    IsMissingNameIn reading query name told → IsOutcomeAsValuesIn reading query form told
missing_told reading query form name (outcome.Missing place position len) refused is = (name, refused, is)
missing_told reading query form name told refused is = absurd is

-- ---- a text in the room

-- the fragments may stand in their places
pub stands_in_room : (reading : Reading) (query : List ℕ) (given : GivenFragments) (kinds : FormKinds) (old new : List ℕ) (text : TextInRoom) →
    OnTokensIn reading query (λ ts. unbracketed_place kinds ts ≡ None) →
    OnTokensIn reading query (λ ts. IsTextInRoom (IsBoundFragments reading.no_backslash_escape ts given) (HasTextOf (IsBoundFragments reading.no_backslash_escape ts given)) old new text) →
    OnTokensIn reading query (λ ts. IsTextInRoom (IsBoundTo reading given kinds ts) (HasTextOf (IsBoundTo reading given kinds ts)) old new text)
stands_in_room reading query given kinds old new text n h =
    let none : unbracketed_place kinds h.0 ≡ None = subst (λ ts. unbracketed_place kinds ts ≡ None) (one_reading reading query n.0 h.0 n.1 h.1) n.2 in (
      h.0,
      h.1,
      each_in_room (IsBoundFragments reading.no_backslash_escape h.0 given) (IsBoundTo reading given kinds h.0) (HasTextOf (IsBoundFragments reading.no_backslash_escape h.0 given)) old new text
          (λ x b. (none, b)) (λ len (x, b, long). (x, (none, b), long)) h.2,
    )

module _ (reading : Reading) (query form : List ℕ) (given : GivenFragments) (kinds : FormKinds) (reads : IsKnownForm form given kinds) (old new : List ℕ) (text : TextInRoom)
    (h : OnTokensIn reading query (λ ts. IsTextInRoom (IsBoundTo reading given kinds ts) (HasTextOf (IsBoundTo reading given kinds ts)) old new text)) where
  pub bound_told : length new ≡ length old → (outcome : Outcome) → outcome ≡ text_outcome text → IsOutcomeAsValuesIn reading query form outcome
  bound_told same outcome is = subst (IsOutcomeAsValuesIn reading query form) (sym is) (told text h)
    where
      told : (text : TextInRoom) → OnTokensIn reading query (λ ts. IsTextInRoom (IsBoundTo reading given kinds ts) (HasTextOf (IsBoundTo reading given kinds ts)) old new text) →
          IsOutcomeAsValuesIn reading query form (text_outcome text)
      told (Written len) (ts, is, (fits, bound, rest)) = (take len new, (given, kinds, reads, (ts, is, bound)), length-take-le len new (omega (arith, fits, same)))
      told (TooShort len) (ts, is, (short, (bound, is_bound, long), rest)) = (bound, (given, kinds, reads, (ts, is, is_bound)), long)

  pub bound_written : (outcome : Outcome) → outcome ≡ text_outcome text → values.IfDone outcome (λ len. IsBoundFormIn reading query form (take len new))
  bound_written outcome is = subst (λ o. values.IfDone o (λ len. IsBoundFormIn reading query form (take len new))) (sym is) (written text h)
    where
      written : (text : TextInRoom) → OnTokensIn reading query (λ ts. IsTextInRoom (IsBoundTo reading given kinds ts) (HasTextOf (IsBoundTo reading given kinds ts)) old new text) →
          values.IfDone (text_outcome text) (λ len. IsBoundFormIn reading query form (take len new))
      written (Written len) (ts, is, (fits, bound, rest)) = (given, kinds, reads, (ts, is, bound))
      written (TooShort len) o = tt
