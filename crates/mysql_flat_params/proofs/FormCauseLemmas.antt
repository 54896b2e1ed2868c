-- The first cause that refuses a form's fragments, from the first cause of fragments and the first
-- place that may not have its list or rows.
use Rattle.std.specs.Prelude.{IfSome, Option, Some, None, option_map, true}
use Rattle.std.proofs.Common.{◌≡◌, inl, inr, ℕ, List, refl, sym, ap, ◌∙◌, subst}
use Rattle.mysql_named_params.specs.Reading.{OnTokensIn}
use Rattle.mysql_named_params.specs.Tokens.{Token}
use Rattle.mysql_named_params.specs.declared.places.Reading.{Reading}
use Rattle.mysql_named_params.proofs.ReadingLemmas.{one_reading}
use Rattle.mysql_binding.specs.Survey.{IsSurvey}
use Rattle.mysql_binding.specs.declared.binding.survey.Survey.{Survey}
use Rattle.mysql_fragments.specs.BorrowedFragments.{AreSaid}
use Rattle.mysql_fragments.specs.FragmentErrors.{Cause, IsCauseOrMemory, cause_of, faulty, first_cause, float_value, later_cause, mark_count, mixed_query, not_alone, refused_fragments}
use Rattle.mysql_fragments.specs.GivenFragments.{GivenFragments}
use Rattle.mysql_fragments.specs.declared.fragment.Fragment.{Fragment}
use Rattle.mysql_fragments.specs.declared.fragment_ref.FragmentRef.{FragmentRef}
use Rattle.mysql_fragments.specs.declared.fragments_error.FragmentsError.{FragmentsError}
use Rattle.mysql_fragments.proofs.CauseLemmas.{first_by}
use Rattle.mysql_flat_params.specs.FormCauses.{FormCause, IsFormCauseOrMemory, first_form_cause, form_cause_of, of_fragments, unbracketed_place, with_brackets}
use Rattle.mysql_flat_params.specs.FormInPlace.{AreGivenTo, IsEarly, is_early}
use Rattle.mysql_flat_params.specs.FormKinds.{FormKinds}
use Rattle.mysql_flat_params.specs.declared.form_refusal.KeptError.{KeptError}
use Rattle.mysql_flat_params.specs.declared.form_refusal.KeptError.TheVariants.{Fragments}

-- ---- the first of both

-- a cause of fragments is their first one
pub first_of_fragments : (found : Option (ℕ × ℕ)) (first : Option Cause) (cause : Cause) →
    with_brackets found first ≡ Some (of_fragments cause) → first ≡ Some cause
first_of_fragments None None cause e = cc
first_of_fragments (Some at) None cause e = cc
first_of_fragments None (Some (float_value place)) cause e = cc
first_of_fragments (Some at) (Some (float_value place)) cause e = cc
first_of_fragments None (Some (faulty place fault)) cause e = cc
first_of_fragments (Some at) (Some (faulty place fault)) cause e = cc
first_of_fragments found (Some why) cause e = cc

-- no cause is none of both
pub none_of_both : (found : Option (ℕ × ℕ)) (first : Option Cause) → with_brackets found first ≡ None → (found ≡ None) × (first ≡ None)
none_of_both None None e = (refl, refl)
none_of_both (Some at) None e = cc
none_of_both None (Some (float_value place)) e = cc
none_of_both (Some at) (Some (float_value place)) e = cc
none_of_both None (Some (faulty place fault)) e = cc
none_of_both (Some at) (Some (faulty place fault)) e = cc
none_of_both found (Some why) e = cc

-- an early cause is the first of both
early_first : (found : Option (ℕ × ℕ)) (why : Cause) → is_early why ≡ true → with_brackets found (Some why) ≡ Some (of_fragments why)
early_first found mixed_query e = refl
early_first found (refused_fragments refusal) e = refl
early_first found (mark_count marks fragments) e = refl
early_first found (not_alone place position) e = refl
early_first found (float_value place) e = cc
early_first found (faulty place fault) e = cc

-- ---- an error of placing the fragments

pub early_refused : (kinds : FormKinds) (ts : List Token) (given : GivenFragments) (error : FragmentsError) →
    IsEarly error → IsCauseOrMemory (first_cause true ts given) error → IsFormCauseOrMemory (first_form_cause kinds ts given) (Fragments error)
early_refused kinds ts given error early (inl memory) = inl (ap (λ e. Fragments e) memory)
early_refused kinds ts given error (inl memory) (inr cause) = inl (ap (λ e. Fragments e) memory)
early_refused kinds ts given error (inr (why, told, early)) (inr (cause, first, is)) =
    let same : Some why ≡ Some cause = sym told ∙ is in
    let one : why ≡ cause = cc in
    inr (
      of_fragments why,
      ap (with_brackets (unbracketed_place kinds ts)) (first ∙ sym same) ∙ early_first (unbracketed_place kinds ts) why early,
      ap (option_map of_fragments) told,
    )

-- ---- an error after that

told_as : (error : KeptError) (first : Option FormCause) → Some (form_cause_of error) ≡ option_map (λ x. Some x) first → IsFormCauseOrMemory first error
told_as error None e = cc
told_as error (Some why) e = (let told : form_cause_of error ≡ Some why = cc in inr (why, refl, told))

not_told : (first : Option FormCause) → ◌≡◌ {A = Option (Option FormCause)} None (option_map (λ x. Some x) first) → first ≡ None
not_told None e = refl
not_told (Some why) e = cc

module _ (reading : Reading) (query : List ℕ) (kinds : FormKinds) (given : GivenFragments) where
  pub some_caused : (result : Option KeptError) →
      OnTokensIn reading query (λ ts. option_map form_cause_of result ≡ option_map (λ x. Some x) (first_form_cause kinds ts given)) →
      OnTokensIn reading query (λ ts. IfSome result (IsFormCauseOrMemory (first_form_cause kinds ts given)))
  some_caused None o = (o.0, o.1, tt)
  some_caused (Some error) o = (o.0, o.1, told_as error (first_form_cause kinds o.0 given) o.2)

  pub none_caused : (result : Option KeptError) → result ≡ None →
      OnTokensIn reading query (λ ts. option_map form_cause_of result ≡ option_map (λ x. Some x) (first_form_cause kinds ts given)) →
      OnTokensIn reading query (λ ts. first_form_cause kinds ts given ≡ None)
  none_caused None none o = (o.0, o.1, not_told (first_form_cause kinds o.0 given) o.2)
  none_caused (Some error) none o = cc

module _ (reading : Reading) (query : List ℕ) (survey : Survey) (o : OnTokensIn reading query (IsSurvey survey)) (given : GivenFragments) (kinds : FormKinds) (placed : List FragmentRef)
    (p : OnTokensIn reading query (AreGivenTo given placed)) (error : Option FragmentsError)
    (placed_error : (ts : List Token) (said : List Fragment) → AreSaid placed said → IsSurvey survey ts → option_map cause_of error ≡ option_map (λ x. Some x) (later_cause true ts said))
    (found : Option (ℕ × ℕ)) (f : OnTokensIn reading query (λ ts. found ≡ unbracketed_place kinds ts)) (result : Option KeptError)
    (first_error : (cause : Option Cause) → option_map cause_of error ≡ option_map (λ x. Some x) cause → option_map form_cause_of result ≡ option_map (λ x. Some x) (with_brackets found cause)) where
  pub form_caused : OnTokensIn reading query (λ ts. option_map form_cause_of result ≡ option_map (λ x. Some x) (first_form_cause kinds ts given))
  form_caused =
      let (ts, is, (unmixed, said, looked, are)) = p in
      let survey_on : IsSurvey survey ts = subst (IsSurvey survey) (one_reading reading query o.0 ts o.1 is) o.2 in
      let found_is : found ≡ unbracketed_place kinds ts = subst (λ us. found ≡ unbracketed_place kinds us) (one_reading reading query f.0 ts f.1 is) f.2 in
      let first : first_cause true ts given ≡ later_cause true ts said = first_by true ts given said (later_cause true ts said) unmixed looked refl in (
        ts,
        is,
        first_error (first_cause true ts given) (placed_error ts said are survey_on ∙ ap (option_map (λ x. Some x)) (sym first))
            ∙ ap (λ x. option_map (λ y. Some y) (with_brackets x (first_cause true ts given))) found_is,
      )
