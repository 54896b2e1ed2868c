-- The text of fragments that is written for an accepted query is the one that the scope promises.
use Rattle.std.specs.Prelude.{Bool, true, false, Ok, Result, Err, IfOk, IfErr}
use Rattle.std.specs.List.{list_all}
use Rattle.std.proofs.Common.{◌≡◌, ◌+◌, ◌∙◌, ℕ, List, [], ◌∷◌, Some, None, inl, inr, refl, map, ap, sym, subst}
use Rattle.std.proofs.lemmas.Bool.{cases_Bool}
use Rattle.mysql_named_params.specs.Tokens.{Token}
use Rattle.mysql_named_params.specs.Places.{names}
use Rattle.mysql_named_params.specs.Reading.{OnTokensIn, reading_with}
use Rattle.mysql_named_params.proofs.ReadingLemmas.{one_reading}
use Rattle.mysql_portable.specs.Steady.{is_steady, HoldNoEscapes}
use Rattle.mysql_portable.proofs.OtherModeLemmas.{tokens_other}
use Rattle.mysql_portable.proofs.SteadyLemmas.{steady_tokens}
use Rattle.mysql_params_core.specs.Given.{positional}
use Rattle.mysql_binding.specs.Replaced.{AreTokensOf, with_literal_tokens}
use Rattle.mysql_binding.proofs.CauseLemmas.{on_both}
use Rattle.mysql_binding.proofs.SpliceLemmas.{Each}
use Rattle.mysql_steady_text.specs.FirstBackslash.{first_backslash}
use Rattle.mysql_steady_text.specs.SteadyLiteral.{steady_literal_of}
use Rattle.mysql_steady_text.specs.SteadyLiterals.{IsSteadyFor}
use Rattle.mysql_steady_text.specs.declared.purpose.Purpose.{Purpose}
use Rattle.mysql_steady_text.specs.declared.purpose.Scope.{Scope}
use Rattle.mysql_steady_text.specs.declared.purpose.Scope.TheVariants.{OneMode, EitherMode, AnyConnection}
use Rattle.mysql_steady_text.proofs.BackslashLemmas.{hold_no_escapes}
use Rattle.mysql_steady_text.proofs.BothModesTextLemmas.{in_both_modes, no_escapes_in}
use Rattle.mysql_fragments.specs.FilledText.{ArePlaced, IsFilledQuery}
use Rattle.mysql_fragments.specs.FragmentErrors as fragment
use Rattle.mysql_fragments.specs.FragmentText.{all_values, fragment_text}
use Rattle.mysql_fragments.specs.GivenFragments.{GivenFragments, fragments_for}
use Rattle.mysql_fragments.specs.SteadyFragments.{first_unsteady_from, unsteady_place}
use Rattle.mysql_fragments.specs.SteadyFragmentsErrors.{IsFragmentsRefusal}
use Rattle.mysql_fragments.specs.declared.fragment.Fragment.{Fragment}
use Rattle.mysql_fragments.specs.declared.fragments_error.FragmentsError.{FragmentsError}
use Rattle.mysql_fragments.specs.declared.fragments_error.FragmentsError.TheVariants as fault
use Rattle.mysql_fragments.specs.declared.steady_fragments_error.SteadyFragmentsError.{SteadyFragmentsError}
use Rattle.mysql_fragments.specs.declared.steady_fragments_error.SteadyFragmentsError.TheVariants as steady
use Rattle.mysql_fragments.proofs.CauseLemmas.{first_by}
use Rattle.mysql_bind_call.specs.Accepted.{IsAccepted, OnQuery}
use Rattle.mysql_bind_call.specs.AnyGiven.{AnyGiven, values, fragments}
use Rattle.mysql_bind_call.specs.BoundTexts.{IsFragmentsText}
use Rattle.mysql_bind_call.specs.Errors.{of_fragments_error, of_steady_error, with_error}
use Rattle.mysql_bind_call.specs.FragmentsInBothModes.{IsFragmentsInBothModes}
use Rattle.mysql_bind_call.specs.Refusals.{IsCauseOrMemory}
use Rattle.mysql_bind_call.specs.declared.refusal.BindRefusal.{BindRefusal}
use Rattle.mysql_bind_call.proofs.ResultLemmas.{err_to, ok_to}
use Rattle.mysql_bind_call.proofs.ScopeLemmas.{in_any, in_either, in_own}

-- ---- the causes of fragments

none_some : (why : fragment.Cause) → None ≡ Some why → ⊥
none_some why h = cc

pub fragments_cause : (scope : Scope) (ts : List Token) (given : GivenFragments) (error : FragmentsError) →
    fragment.IsCauseOrMemory (fragment.first_cause true ts given) error → IsCauseOrMemory scope ts (fragments given) (of_fragments_error error)
fragments_cause scope ts given error (inl is) = inl (ap of_fragments_error is)
fragments_cause scope ts given (fault.Memory e) (inr w) = absurd (none_some w.0 w.2)
fragments_cause scope ts given fault.Mixed (inr w) = inr w
fragments_cause scope ts given (fault.Missing e) (inr w) = inr w
fragments_cause scope ts given (fault.Confusion e) (inr w) = inr w
fragments_cause scope ts given (fault.MarkCount marks count) (inr w) = inr w
fragments_cause scope ts given (fault.NotAlone place at) (inr w) = inr w
fragments_cause scope ts given (fault.Float place) (inr w) = inr w
fragments_cause scope ts given (fault.Fault place f) (inr w) = inr w

pub steady_cause : (ts : List Token) (given : GivenFragments) (error : SteadyFragmentsError) →
    IsFragmentsRefusal ts given error → IsCauseOrMemory AnyConnection ts (fragments given) (of_steady_error error)
steady_cause ts given (steady.Fragments error) h = fragments_cause AnyConnection ts given error h
steady_cause ts given (steady.UnsteadyFragment place) h = inr (refl, h.0, h.1)
steady_cause ts given (steady.Unsteady at) h = absurd h
steady_cause ts given (steady.Unportable found) h = absurd h

-- ---- in the scope of a purpose

module _ {A E : Type 0} (items : A → List ℕ) (r : Result A E) (purpose : Purpose) (query : List ℕ) (given : GivenFragments) where
  abbrev pub Bound : Type 0
  Bound = IfOk r (λ text. OnQuery purpose query (λ ts. IsFragmentsText purpose.scope ts given (items text)))

  -- read without backslash escapes, in this scope
  abbrev pub BoundIn : Scope → Bool → Type 0
  BoundIn scope mode = IfOk r (λ text. OnTokensIn (reading_with purpose.wide_names mode) query (λ ts. IsFragmentsText scope ts given (items text)))

  said : (scope : Scope) → purpose.scope ≡ scope → (ts : List Token) (text : List ℕ) → IsFragmentsText scope ts given text → IsFragmentsText purpose.scope ts given text
  said scope e ts text t = subst (λ s. IsFragmentsText s ts given text) (sym e) t

  pub own_list : (mode : Bool) → purpose.scope ≡ OneMode mode → BoundIn (OneMode mode) mode → Bound
  own_list mode e h = ok_to _ _ r (λ text o. in_own purpose query _ mode e (o.0, o.1, said (OneMode mode) e o.0 (items text) o.2)) h

  pub either_list : purpose.scope ≡ EitherMode → IsAccepted purpose query → BoundIn EitherMode true → Bound
  either_list e accepted h = ok_to _ _ r (λ text o. in_either purpose query _ e accepted (o.0, o.1, said EitherMode e o.0 (items text) o.2)) h

  pub any_list : purpose.scope ≡ AnyConnection → IsAccepted purpose query → BoundIn AnyConnection true → Bound
  any_list e accepted h = ok_to _ _ r (λ text o. in_any purpose query _ e accepted (o.0, o.1, said AnyConnection e o.0 (items text) o.2)) h

module _ {A : Type 0} (r : Result A BindRefusal) (purpose : Purpose) (query : List ℕ) (given : GivenFragments) where
  abbrev pub Refused : Type 0
  Refused = IfErr r (λ refusal. OnQuery purpose query (λ ts. IsCauseOrMemory purpose.scope ts (fragments given) refusal))

  abbrev pub RefusedIn : Scope → Bool → Type 0
  RefusedIn scope mode = IfErr r (λ refusal. OnTokensIn (reading_with purpose.wide_names mode) query (λ ts. IsCauseOrMemory scope ts (fragments given) refusal))

  told : (scope : Scope) → purpose.scope ≡ scope → (ts : List Token) (refusal : BindRefusal) → IsCauseOrMemory scope ts (fragments given) refusal → IsCauseOrMemory purpose.scope ts (fragments given) refusal
  told scope e ts refusal t = subst (λ s. IsCauseOrMemory s ts (fragments given) refusal) (sym e) t

  pub own_refused : (mode : Bool) → purpose.scope ≡ OneMode mode → RefusedIn (OneMode mode) mode → Refused
  own_refused mode e h = err_to _ _ r (λ refusal o. in_own purpose query _ mode e (o.0, o.1, told (OneMode mode) e o.0 refusal o.2)) h

  pub either_refused : purpose.scope ≡ EitherMode → IsAccepted purpose query → RefusedIn AnyConnection true → Refused
  either_refused e accepted h = err_to _ _ r (λ refusal o. in_either purpose query _ e accepted (o.0, o.1, told EitherMode e o.0 refusal o.2)) h

  pub any_refused : purpose.scope ≡ AnyConnection → IsAccepted purpose query → RefusedIn AnyConnection true → Refused
  any_refused e accepted h = err_to _ _ r (λ refusal o. in_any purpose query _ e accepted (o.0, o.1, told AnyConnection e o.0 refusal o.2)) h

-- ---- no string of the expanded query has a backslash

never : {A : Type 0} {x : A} → Some x ≡ None → ⊥
never e = cc

-- the tokens of steady fragments
each_no_escapes : (place : ℕ) (list : List Fragment) (lists : List (List Token)) → first_unsteady_from place list ≡ None →
    AreTokensOf true (map fragment_text list) lists → Each HoldNoEscapes lists
each_no_escapes place [] [] e a = tt
each_no_escapes place [] (tokens ∷ lists) e a = absurd a
each_no_escapes place (one ∷ list) [] e a = absurd a
each_no_escapes place (one ∷ list) (tokens ∷ lists) e a =
    elim (cases_Bool (list_all is_steady (fragment_text one))) [
      | inl h ↦
          (steady_tokens tokens (subst (λ x. list_all is_steady x ≡ true) (sym a.0.text) h), each_no_escapes (place + 1) list lists (rw h at e) a.1)
      | inr h ↦ let none : Some place ≡ None = rw h at e in absurd (never none)
    ]

-- ---- the text for both modes

list_in_both_modes : (ts : List Token) (given : GivenFragments) (text : List ℕ) → HoldNoEscapes ts →
    (f : IsFilledQuery steady_literal_of IsSteadyFor true ts given text) → first_unsteady_from 0 f.expanded.fragments ≡ None →
    IsFragmentsInBothModes ts given text
list_in_both_modes ts given text none f steady =
    let x = f.expanded in
    let us : List Token = with_literal_tokens ts x.lists in
    let free : HoldNoEscapes us = no_escapes_in ts x.lists none (each_no_escapes 0 x.fragments x.lists steady x.tokens_of_fragments) in
    record {
      query = f.query;
      expanded = x;
      steady_fragments = steady;
      no_escapes = free;
      isolated = λ mode. tokens_other true mode f.query us free x.isolated;
      bound = in_both_modes f.query us (positional (all_values x.fragments)) text x.isolated free f.filled;
    }

module _ (wide : Bool) (query : List ℕ) (given : GivenFragments) (list : List Fragment) (p : OnTokensIn (reading_with wide true) query (λ ts. ArePlaced true ts given list)) where
  -- the first fragment that isn't steady
  pub place_told : (place : ℕ) → Some place ≡ first_unsteady_from 0 list →
      OnTokensIn (reading_with wide true) query (λ ts. IsFragmentsRefusal ts given (steady.UnsteadyFragment place))
  place_told place e =
      (p.0, p.1, (first_by true p.0 given list None p.2.unmixed p.2.given_to_places p.2.no_later, ap unsteady_place p.2.given_to_places ∙ sym e))

  pub both_modes_list : (text : List ℕ) → OnTokensIn (reading_with wide true) query (λ ts. first_backslash ts ≡ None) → None ≡ first_unsteady_from 0 list →
      OnTokensIn (reading_with wide true) query (λ ts. IsFilledQuery steady_literal_of IsSteadyFor true ts given text) →
      OnTokensIn (reading_with wide true) query (λ ts. IsFragmentsInBothModes ts given text)
  both_modes_list text free none o =
      let b = on_both (reading_with wide true) query _ _ o free in
      let ts : List Token = b.0 in
      let f = b.2.0 in
      let looked : fragments_for given (names ts) ≡ Ok list = subst (λ us. fragments_for given (names us) ≡ Ok list) (one_reading (reading_with wide true) query p.0 ts p.1 b.1) p.2.given_to_places in
      let both : Ok f.expanded.fragments ≡ Ok list = sym f.expanded.given_to_places ∙ looked in
      let same : f.expanded.fragments ≡ list = cc in
      (ts, b.1, list_in_both_modes ts given text (hold_no_escapes ts 0 b.2.1) f (ap (first_unsteady_from 0) same ∙ sym none))
