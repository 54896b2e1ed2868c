-- The text that is bound to borrowed fragments, and why there is none.
use Rattle.std.specs.Prelude.{IsErrOf, Ok, Err, Option, Result, Some, None, option_map, alloc_error}
use Rattle.std.specs.List.{flat_map}
use Rattle.std.specs.Option.{option_or}
use Rattle.std.proofs.Common.{◌≡◌, ◌<◌, ℕ, true, List, [], ◌∷◌, length, map, arith, inl, inr, refl, sym, ap, subst}
use Rattle.mysql_named_params.specs.Tokens.{Token}
use Rattle.mysql_named_params.specs.Places.{names, HasName, HasMark}
use Rattle.mysql_named_params.specs.Reading.{OnTokensIn}
use Rattle.mysql_named_params.specs.declared.places.Reading.{Reading}
use Rattle.mysql_named_params.proofs.ReadingLemmas.{one_reading}
use Rattle.mysql_params_core.specs.declared.params.errors.ParamsConfusionError.TheVariants.{PositionalParamsForNamedQuery}
use Rattle.mysql_binding.specs.LiteralForm.{IsPlainLiteral, written_literal}
use Rattle.mysql_binding.specs.Pieces.{pieces, joined_text}
use Rattle.mysql_binding.specs.PushedLiteral.{AreKnownUnlessFloats}
use Rattle.mysql_binding.specs.Survey.{IsSurvey}
use Rattle.mysql_binding.specs.declared.binding.survey.Survey.{Survey}
use Rattle.mysql_binding.proofs.CauseLemmas.{or_none}
use Rattle.mysql_values.specs.Literal.{literal_of}
use Rattle.mysql_fragments.specs.BorrowedFragments.{AreSaid}
use Rattle.mysql_fragments.specs.BorrowedText.{borrowed_text, borrowed_values}
use Rattle.mysql_fragments.specs.Expanded.{IsBoundFragments}
use Rattle.mysql_fragments.specs.FilledText.{ArePlaced}
use Rattle.mysql_fragments.specs.FragmentErrors.{IsCauseElseMemory, cause_of, cause_of_places, first_cause, later_cause, mixed_cause, mixed_query, refused_fragments}
use Rattle.mysql_fragments.specs.FragmentsInRoom.{IsCauseOrTooLong, IsTooLong}
use Rattle.mysql_fragments.specs.GivenFragments.{confused, fragments_for, positional}
use Rattle.mysql_fragments.specs.declared.fragment.Fragment.{Fragment}
use Rattle.mysql_fragments.specs.declared.fragment_ref.FragmentRef.{FragmentRef}
use Rattle.mysql_fragments.specs.declared.fragments_error.FragmentsError.{FragmentsError}
use Rattle.mysql_fragments.specs.declared.fragments_error.FragmentsError.TheVariants.{Memory, Mixed}
use Rattle.mysql_fragments.proofs.CauseLemmas.{first_by, first_refused, mixed_none, mixed_some, some_cause, no_error}
use Rattle.mysql_fragments.proofs.FilledLemmas.{bound_on, filled_on}
use Rattle.mysql_fragments.proofs.SaidLemmas.{said_all_values, said_texts}

module _ (ts : List Token) (said : List Fragment) where
  pub first_is_later : length (names ts) ≡ 0 → option_map (λ x. Some x) (later_cause true ts said) ≡ option_map Some (first_cause true ts (positional said))
  first_is_later none =
      sym (ap (option_map Some) (first_by true ts (positional said) said (later_cause true ts said) (mixed_none ts (λ both. omega (arith, both.0, none))) (nameless (names ts) none) refl))
    where
      nameless : (ns : List (List ℕ)) → length ns ≡ 0 → fragments_for (positional said) ns ≡ Ok said
      nameless [] e = refl
      nameless (n ∷ ns) e = absurd (omega (arith, e))

  -- fragments that nothing refuses
  placed_by : None ≡ option_map (λ x. Some x) (first_cause true ts (positional said)) → ArePlaced true ts (positional said) said
  placed_by e =
      let p = or_none (mixed_cause ts) (cause_of_places true ts (fragments_for (positional said) (names ts))) (no_error _ e) in
      let q = by_names (names ts) p.1 in
      record { unmixed = p.0; given_to_places = q.0; no_later = q.1 }
    where
      by_names : (ns : List (List ℕ)) → cause_of_places true ts (fragments_for (positional said) ns) ≡ None →
          (fragments_for (positional said) ns ≡ Ok said) × (later_cause true ts said ≡ None)
      by_names [] e = (refl, e)
      by_names (n ∷ ns) e = cc

module _ (reading : Reading) (query : List ℕ) (survey : Survey) (o : OnTokensIn reading query (IsSurvey survey)) (fragments : List FragmentRef) (said : List Fragment) (s : AreSaid fragments said) where
  pub borrowed_refused : (error : FragmentsError) →
      ((ts : List Token) (said : List Fragment) → AreSaid fragments said → IsSurvey survey ts → Some (cause_of error) ≡ option_map Some (first_cause true ts (positional said))) →
      OnTokensIn reading query (λ ts. IsCauseElseMemory (first_cause true ts (positional said)) error)
  borrowed_refused error e = (o.0, o.1, inr (some_cause (cause_of error) (first_cause true o.0 (positional said)) (e o.0 said s o.2)))

  pub borrowed_memory : ((ts : List Token) (said : List Fragment) → AreSaid fragments said → IsSurvey survey ts → None ≡ option_map (λ x. Some x) (first_cause true ts (positional said))) →
      OnTokensIn reading query (λ ts. IsCauseElseMemory (first_cause true ts (positional said)) (Memory alloc_error))
  borrowed_memory none = (o.0, o.1, inl (no_error _ (none o.0 said s o.2), refl))

  pub borrowed_bound : (text : List ℕ) →
      ((ts : List Token) (said : List Fragment) → AreSaid fragments said → IsSurvey survey ts → None ≡ option_map (λ x. Some x) (first_cause true ts (positional said))) →
      OnTokensIn reading query (λ ts. joined_text (pieces ts) (map (borrowed_text (written_literal (literal_of reading.no_backslash_escape))) fragments) ≡ Some text) →
      AreKnownUnlessFloats (literal_of reading.no_backslash_escape) (IsPlainLiteral reading.no_backslash_escape) (flat_map borrowed_values fragments) →
      OnTokensIn reading query (λ ts. IsBoundFragments reading.no_backslash_escape ts (positional said) text)
  borrowed_bound text none joined known =
      bound_on reading query (positional said) text
      (filled_on (literal_of reading.no_backslash_escape) (IsPlainLiteral reading.no_backslash_escape) reading query (positional said) said text (o.0, o.1, placed_by o.0 said (none o.0 said s o.2))
      (subst (λ ls. OnTokensIn reading query (λ ts. joined_text (pieces ts) ls ≡ Some text)) (sym (said_texts (written_literal (literal_of reading.no_backslash_escape)) fragments said s)) joined)
      (subst (AreKnownUnlessFloats (literal_of reading.no_backslash_escape) (IsPlainLiteral reading.no_backslash_escape)) (sym (said_all_values fragments said s)) known))

  -- ---- in a room

  pub refused_in_room : (error : FragmentsError) →
      ((ts : List Token) (said : List Fragment) → AreSaid fragments said → IsSurvey survey ts → Some (cause_of error) ≡ option_map Some (first_cause true ts (positional said))) →
      OnTokensIn reading query (λ ts. IsCauseOrTooLong (first_cause true ts (positional said)) (IsTooLong (literal_of reading.no_backslash_escape) ts said) error)
  refused_in_room error e = (o.0, o.1, inr (some_cause (cause_of error) (first_cause true o.0 (positional said)) (e o.0 said s o.2)))

  module _ (none : (ts : List Token) (said : List Fragment) → AreSaid fragments said → IsSurvey survey ts → None ≡ option_map (λ x. Some x) (first_cause true ts (positional said))) where
    pub placed_on : OnTokensIn reading query (λ ts. ArePlaced true ts (positional said) said)
    placed_on = (o.0, o.1, placed_by o.0 said (none o.0 said s o.2))

    pub too_long_in_room : OnTokensIn reading query (λ ts. IsTooLong (literal_of reading.no_backslash_escape) ts said) →
        OnTokensIn reading query (λ ts. IsCauseOrTooLong (first_cause true ts (positional said)) (IsTooLong (literal_of reading.no_backslash_escape) ts said) (Memory alloc_error))
    too_long_in_room t =
        let same : t.0 ≡ o.0 = one_reading reading query t.0 o.0 t.1 o.1 in
        (o.0, o.1, inl (no_error _ (none o.0 said s o.2), subst (λ ts. IsTooLong (literal_of reading.no_backslash_escape) ts said) same t.2, refl))

-- ---- names and marks in one query

pub mixed_told : {A : Type 0} (reading : Reading) (query : List ℕ) (survey : Survey) → OnTokensIn reading query (IsSurvey survey) → (error : FragmentsError) →
    (0 < survey.names → 0 < survey.marks → Some error ≡ Some Mixed) →
    OnTokensIn reading query (λ ts. HasName ts × HasMark ts → IsErrOf {T = A} (Err error) Mixed)
mixed_told {A = A} reading query survey o error told = (o.0, o.1, λ both. same (told (omega (arith, both.0, o.2.0)) (omega (arith, both.1, o.2.1))))
  where
    same : Some error ≡ Some Mixed → IsErrOf {T = A} (Err error) Mixed
    same e =
        let it : error ≡ Mixed = cc in
        ap (λ x. Err x) it

-- a query without an error doesn't have both names and marks
pub never_mixed : {A : Type 0} (reading : Reading) (query : List ℕ) (survey : Survey) → OnTokensIn reading query (IsSurvey survey) → (r : Result A FragmentsError) →
    (0 < survey.names → 0 < survey.marks → None ≡ Some Mixed) →
    OnTokensIn reading query (λ ts. HasName ts × HasMark ts → IsErrOf r Mixed)
never_mixed reading query survey o r told = (o.0, o.1, λ both. never (told (omega (arith, both.0, o.2.0)) (omega (arith, both.1, o.2.1))))
  where
    never : {X : Type 0} → ◌≡◌ {A = Option FragmentsError} None (Some Mixed) → X
    never e = cc
