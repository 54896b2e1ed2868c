-- Queries with fragments, as the code writes them.
use Rattle.std.specs.Prelude.{Bool, Ok, option_map}
use Rattle.std.specs.Option.{option_or}
use Rattle.std.proofs.Common.{◌≡◌, ◌+◌, ◌++◌, ◌<◌, ◌≤◌, ℕ, All, true, false, List, [], ◌∷◌, length, map, take, drop, get_or, Some, None, arith, inl, inr, refl, sym, ap, ◌∙◌, subst, append_assoc, add-one, drop-cons, eq-eqb}
use Rattle.std.proofs.lemmas.List.{drop_all, length-map, get_or-map}
use Rattle.mysql_values.specs.declared.value.Value.{Value}
use Rattle.mysql_named_params.specs.Tokens.{Token, text_of}
use Rattle.mysql_named_params.specs.Places.{names, marks, place_count, HasName, HasMark}
use Rattle.mysql_named_params.specs.FirstPlace.{IsFirstPlace}
use Rattle.mysql_named_params.specs.Reading.{IsTokensIn, OnTokensIn}
use Rattle.mysql_named_params.specs.WideNames.{IsWideName}
use Rattle.mysql_named_params.specs.declared.places.FoundPlace.{FoundPlace}
use Rattle.mysql_named_params.specs.declared.places.Reading.{Reading}
use Rattle.mysql_named_params.proofs.FoundPlaceLemmas.{parted_in}
use Rattle.mysql_named_params.proofs.ReadingLemmas.{one_reading, reading_text}
use Rattle.mysql_named_params.proofs.TokenRowLemmas.{place_count-append}
use Rattle.mysql_params_core.specs.Given.{positional}
use Rattle.mysql_params_core.specs.Lookup.{lookup}
use Rattle.mysql_binding.specs.FirstCause as bound_cause
use Rattle.mysql_binding.specs.FirstCause.{mark_count_differs}
use Rattle.mysql_binding.specs.Pieces.{pieces, joined_text}
use Rattle.mysql_binding.specs.Replaced.{with_literal_tokens}
use Rattle.mysql_binding.specs.StandsAlone.{first_not_alone}
use Rattle.mysql_binding.specs.Survey.{IsSurvey}
use Rattle.mysql_binding.specs.declared.binding.survey.Survey.{Survey}
use Rattle.mysql_binding.proofs.BoundText.{bound}
use Rattle.mysql_binding.proofs.CauseLemmas as bound_lemmas
use Rattle.mysql_binding.proofs.PieceLemmas.{bound_none, joined_text-pieces_from, joined_text_count}
use Rattle.mysql_fragments.specs.Expanded.{IsExpanded, IsExpandedQuery}
use Rattle.mysql_fragments.specs.FilledText.{ArePlaced}
use Rattle.mysql_fragments.specs.FragmentErrors.{mixed_cause, later_cause, first_cause, literal_float, first_fault_from, cause_of, cause_of_places, IsCauseOrMemory, IsPlaceRefusal, refused_fragments, mixed_query}
use Rattle.mysql_fragments.specs.FragmentShape.{AreFragments}
use Rattle.mysql_fragments.specs.FragmentText.{all_values, fragment_text, mark_number}
use Rattle.mysql_fragments.specs.GivenFragments.{GivenFragments, fragments_for}
use Rattle.mysql_fragments.specs.declared.fragment.Fragment.{Fragment}
use Rattle.mysql_fragments.specs.declared.fragments_error.FragmentsError.{FragmentsError}
use Rattle.mysql_fragments.specs.declared.fragments_error.FragmentsError.TheVariants.{Mixed}
use Rattle.mysql_fragments.proofs.CauseLemmas.{mixed_none, mixed_some, no_later_parts, first_by, first_refused, fragment_each, no_first_float, some_cause, no_error}
use Rattle.mysql_fragments.proofs.ShapeLemmas.{fragment_shapes, mark_sum}
use Rattle.mysql_fragments.proofs.SplicedFragmentLemmas.{as_many, fragment_lists, fragments_isolated_in, fragments_nameless, fragments_marks, fragments_stand_alone}
use Rattle.mysql_binding.proofs.WrittenTextLemmas.{bound-place, place_count-place}

-- ---- the causes

module _ (as_literals : Bool) (reading : Reading) (query : List ℕ) (given : GivenFragments) (survey : Survey) (o : OnTokensIn reading query (IsSurvey survey)) where
  pub mixed_refused : 0 < survey.names → 0 < survey.marks →
      OnTokensIn reading query (λ ts. IsCauseOrMemory (first_cause as_literals ts given) Mixed)
  mixed_refused some more =
      let both : HasName o.0 × HasMark o.0 = (omega (arith, some, o.2.0), omega (arith, more, o.2.1)) in
      (o.0, o.1, inr (mixed_query, ap (λ x. option_or x (cause_of_places as_literals o.0 (fragments_for given (names o.0)))) (mixed_some o.0 both), refl))

  module _ (not_both : 0 < survey.names × 0 < survey.marks → ⊥) where
    not_both_on : HasName o.0 × HasMark o.0 → ⊥
    not_both_on both = not_both (omega (arith, both.0, o.2.0), omega (arith, both.1, o.2.1))

    pub unmixed_on : OnTokensIn reading query (λ ts. (survey.names ≡ length (names ts)) × (mixed_cause ts ≡ None))
    unmixed_on = (o.0, o.1, (o.2.0, mixed_none o.0 not_both_on))

    pub refused_places : (error : FragmentsError) →
        OnTokensIn reading query (λ ts. IsPlaceRefusal (fragments_for given (names ts)) error) →
        OnTokensIn reading query (λ ts. IsCauseOrMemory (first_cause as_literals ts given) error)
    refused_places error p =
        let r : IsPlaceRefusal (fragments_for given (names o.0)) error = subst (λ ts. IsPlaceRefusal (fragments_for given (names ts)) error) (one_reading reading query p.0 o.0 p.1 o.1) p.2 in (
          o.0,
          o.1,
          elim r [
            | inl e ↦ inl e
            | inr e ↦ inr (refused_fragments e.0, first_refused as_literals o.0 given e.0 (mixed_none o.0 not_both_on) e.1, e.2)
          ],
        )

    module _ (fragments : List Fragment) (f : OnTokensIn reading query (λ ts. fragments_for given (names ts) ≡ Ok fragments)) where
      looked : fragments_for given (names o.0) ≡ Ok fragments
      looked = subst (λ ts. fragments_for given (names ts) ≡ Ok fragments) (one_reading reading query f.0 o.0 f.1 o.1) f.2

      pub refused_later : (error : FragmentsError) →
          ((ts : List Token) → IsSurvey survey ts → Some (cause_of error) ≡ option_map Some (later_cause as_literals ts fragments)) →
          OnTokensIn reading query (λ ts. IsCauseOrMemory (first_cause as_literals ts given) error)
      refused_later error e =
          let s = some_cause (cause_of error) (later_cause as_literals o.0 fragments) (e o.0 o.2) in
          (o.0, o.1, inr (s.0, first_by as_literals o.0 given fragments (Some s.0) (mixed_none o.0 not_both_on) looked s.1, s.2))

      module _ (none : (ts : List Token) → IsSurvey survey ts → None ≡ option_map (λ x. Some x) (later_cause as_literals ts fragments)) where
        none_later : later_cause as_literals o.0 fragments ≡ None
        none_later = no_error _ (none o.0 o.2)

        pub placed_on : OnTokensIn reading query (λ ts. ArePlaced as_literals ts given fragments)
        placed_on = (o.0, o.1, record { unmixed = mixed_none o.0 not_both_on; given_to_places = looked; no_later = none_later })

-- ---- fragments that nothing refuses

not_both_of : (ts : List Token) → mixed_cause ts ≡ None → HasName ts × HasMark ts → ⊥
not_both_of ts e both = let bad : Some mixed_query ≡ None = sym (mixed_some ts both) ∙ e in cc

module _ (as_literals : Bool) (reading : Reading) (query : List ℕ) (ts : List Token) (given : GivenFragments) (fragments : List Fragment) (is : IsTokensIn reading query ts) (p : ArePlaced as_literals ts given fragments) where
  placed_each : length fragments ≡ place_count ts
  placed_each = fragment_each ts given fragments (not_both_of ts p.unmixed) p.given_to_places (no_later_parts as_literals ts fragments p.no_later).0

  -- the expanded query, if this is its text
  with_text : (text : List ℕ) → joined_text (pieces ts) (map fragment_text fragments) ≡ Some text →
      (x : IsExpanded as_literals reading.no_backslash_escape ts given text) × (x.fragments ≡ fragments)
  with_text text exact =
      let texts : List (List ℕ) = map fragment_text fragments in
      let parts = no_later_parts as_literals ts fragments p.no_later in
      let mode = reading.no_backslash_escape in
      let shapes = fragment_shapes mode 0 fragments parts.3 in
      let lists = fragment_lists mode (map mark_number fragments) texts shapes in (
        record {
          fragments = fragments;
          given_to_places = p.given_to_places;
          no_cause = first_by as_literals ts given fragments None p.unmixed p.given_to_places p.no_later;
          text_is = exact;
          lists = lists.0;
          tokens_of_fragments = lists.1;
          isolated = fragments_isolated_in reading query text ts (map mark_number fragments) texts lists.0 is parts.1 shapes lists.1 exact;
        },
        refl,
      )

  -- there is one
  pub is_expanded : (text : List ℕ) × (x : IsExpanded as_literals reading.no_backslash_escape ts given text) × (x.fragments ≡ fragments)
  is_expanded =
      let texts : List (List ℕ) = map fragment_text fragments in
      let x = with_text (bound ts texts) (joined_text-pieces_from [] ts texts (length-map fragments fragment_text ∙ placed_each)) in
      (bound ts texts, x.0, x.1)

module _ (as_literals : Bool) (reading : Reading) (query : List ℕ) (given : GivenFragments) (fragments : List Fragment) (p : OnTokensIn reading query (λ ts. ArePlaced as_literals ts given fragments)) where
  pub each_on : OnTokensIn reading query (λ ts. length fragments ≡ place_count ts)
  each_on = (p.0, p.1, placed_each as_literals reading query p.0 given fragments p.1 p.2)

  pub expanded_on : (text : List ℕ) (values : List Value) →
      OnTokensIn reading query (λ ts. joined_text (pieces ts) (map fragment_text fragments) ≡ Some text) →
      values ≡ all_values fragments → OnTokensIn reading query (λ ts. IsExpandedQuery as_literals reading.no_backslash_escape ts given text values)
  expanded_on text values j v =
      let exact : joined_text (pieces p.0) (map fragment_text fragments) ≡ Some text =
      subst (λ ts. joined_text (pieces ts) (map fragment_text fragments) ≡ Some text) (one_reading reading query j.0 p.0 j.1 p.1) j.2 in
      let x = with_text as_literals reading query p.0 given fragments p.1 p.2 text exact in
      (p.0, p.1, record { expanded = x.0; values_are = v ∙ ap all_values (sym x.1) })

-- ---- the query with fragments, written as far as a rest of it

-- (with this text of each fragment, which may be a borrowed one)
pub record SplicedSoFar {X : Type 0} (reading : Reading) (write : X → List ℕ) (query rest : List ℕ) (fragments : List X) (i : ℕ) (text : List ℕ) : Type 0 where
  pub all : List Token
  pub tokens : IsTokensIn reading query all
  pub left : List Token
  pub rest_tokens : IsTokensIn reading rest left
  pub places_left : i + place_count left ≡ length fragments
  pub room : length fragments ≡ place_count all
  pub text_is : text ++ bound left (drop i (map write fragments)) ≡ bound all (map write fragments)

pub spliced_none : {X : Type 0} (reading : Reading) (write : X → List ℕ) (query : List ℕ) (fragments : List X) (text : List ℕ) →
    OnTokensIn reading query (λ ts. length fragments ≡ place_count ts) → text ≡ [] →
    SplicedSoFar reading write query query fragments 0 text
spliced_none reading write query fragments text o nil = record {
  all = o.0;
  tokens = o.1;
  left = o.0;
  rest_tokens = o.1;
  places_left = omega (arith, o.2);
  room = o.2;
  text_is = ap (λ x. x ++ bound o.0 (map write fragments)) nil;
}

module _ {X : Type 0} (reading : Reading) (write : X → List ℕ) (query rest : List ℕ) (fragments : List X) (i : ℕ) (text : List ℕ) (s : SplicedSoFar reading write query rest fragments i text) where
  -- as long as fragments are left, a place is found
  pub place_left : i < length fragments → OnTokensIn reading rest (λ us. place_count us ≡ 0) → ⊥
  place_left below o =
      let same : o.0 ≡ s.left = one_reading reading rest o.0 s.left o.1 s.rest_tokens in
      omega (arith, below, s.places_left, ap place_count same, o.2)

  pub spliced_more : (run after text1 text2 : List ℕ) (fragment : X) (found : FoundPlace) →
      i < length fragments → fragment ≡ get_or fragments i fragment →
      OnTokensIn reading rest (λ us. IsFirstPlace us found) → run ≡ take found.before rest →
      after ≡ drop (found.before + found.len) rest → text1 ≡ text ++ run →
      text2 ≡ text1 ++ write fragment → SplicedSoFar reading write query after fragments (i + 1) text2
  spliced_more run after text1 text2 fragment found below fragment_is o run_is after_is more more' =
      let p = parted_in reading rest s.left found s.rest_tokens o in
      let after_rest : drop (found.before + found.len) rest ≡ after = sym after_is in
      let texts : List (List ℕ) = map write fragments in
      let below_texts : i < length texts = omega (arith, below, length-map fragments write) in
      let cut : drop i texts ≡ write fragment ∷ drop (i + 1) texts =
      rw add-one (drop-cons texts i (write fragment) below_texts) ∙ ap (λ x. x ∷ drop (i + 1) texts) (get_or-map write fragments i fragment (write fragment) below ∙ ap write (sym fragment_is)) in
      let run_text : text_of p.front ≡ run = p.front_text ∙ sym run_is in
      let places : place_count s.left ≡ place_count p.back + 1 = ap place_count p.tokens_are ∙ (place_count-append p.front (p.place ∷ p.back) ∙ omega (arith, p.no_place, place_count-place p.place found.kind p.back p.kind_is)) in
      record {
        all = s.all;
        tokens = s.tokens;
        left = p.back;
        rest_tokens = subst (λ x. IsTokensIn reading x p.back) after_rest p.rest_tokens;
        places_left = omega (arith, s.places_left, places);
        room = s.room;
        text_is =
            ap (λ x. x ++ bound p.back (drop (i + 1) texts)) (more' ∙ ap (λ x. x ++ write fragment) more)
            ∙ (append_assoc (text ++ run) (write fragment) (bound p.back (drop (i + 1) texts))
            ∙ (append_assoc text run (write fragment ++ bound p.back (drop (i + 1) texts))
            ∙ (ap (λ x. text ++ (x ++ (write fragment ++ bound p.back (drop (i + 1) texts)))) (sym run_text)
            ∙ (ap (λ x. text ++ x) (sym (ap (λ x. bound s.left x) cut ∙ (ap (λ x. bound x (write fragment ∷ drop (i + 1) texts)) p.tokens_are ∙ bound-place p.front p.place found.kind p.back (write fragment) (drop (i + 1) texts) p.no_place p.kind_is)))
            ∙ s.text_is))));
      }

  pub spliced_all : length fragments ≤ i → (text' : List ℕ) → text' ≡ text ++ rest →
      OnTokensIn reading query (λ ts. joined_text (pieces ts) (map write fragments) ≡ Some text')
  spliced_all done text' more =
      let none : place_count s.left ≡ 0 = omega (arith, s.places_left, done) in
      let no_texts : drop i (map write fragments) ≡ [] = drop_all i (map write fragments) (omega (arith, done, length-map fragments write)) in
      let rest_is : rest ≡ bound s.left (drop i (map write fragments)) = sym (reading_text reading rest s.left s.rest_tokens) ∙ (sym (bound_none s.left none) ∙ ap (bound s.left) (sym no_texts)) in
      let text_is : text' ≡ bound s.all (map write fragments) = more ∙ (ap (λ x. text ++ x) rest_is ∙ s.text_is) in
      (s.all, s.tokens, joined_text-pieces_from [] s.all (map write fragments) (length-map fragments write ∙ s.room) ∙ ap Some (sym text_is))

-- ---- the text that is bound to it

-- the facts about the fragments of an expanded query
module _ (as_literals mode : Bool) (ts : List Token) (given : GivenFragments) (text : List ℕ) (x : IsExpanded as_literals mode ts given text) where
  no_later_of : later_cause as_literals ts x.fragments ≡ None
  no_later_of =
      let p = bound_lemmas.or_none (mixed_cause ts) (cause_of_places as_literals ts (fragments_for given (names ts))) x.no_cause in
      ap (cause_of_places as_literals ts) (sym x.given_to_places) ∙ p.1

  -- its places stand alone
  pub expanded_alone : first_not_alone ts ≡ None
  expanded_alone = (no_later_parts as_literals ts x.fragments no_later_of).1

  pub expanded_parts : (length x.fragments ≡ place_count ts) × (literal_float as_literals x.fragments ≡ None)
      × (first_fault_from 0 x.fragments ≡ None)
  expanded_parts =
      let parts = no_later_parts as_literals ts x.fragments no_later_of in
      (sym (length-map x.fragments fragment_text) ∙ joined_text_count [] ts (map fragment_text x.fragments) text x.text_is, parts.2, parts.3)

  -- the text of each fragment has its shape
  shaped : AreFragments mode (map mark_number x.fragments) (map fragment_text x.fragments)
  shaped = fragment_shapes mode 0 x.fragments expanded_parts.2

  many_of : length x.lists ≡ place_count ts
  many_of = as_many mode text ts (map mark_number x.fragments) (map fragment_text x.fragments) x.lists expanded_alone shaped x.tokens_of_fragments x.text_is

  pub expanded_nameless : names (with_literal_tokens ts x.lists) ≡ []
  expanded_nameless = fragments_nameless mode ts (map mark_number x.fragments) (map fragment_text x.fragments) x.lists shaped x.tokens_of_fragments many_of

  pub expanded_marks : marks (with_literal_tokens ts x.lists) ≡ length (all_values x.fragments)
  expanded_marks =
      fragments_marks mode ts (map mark_number x.fragments) (map fragment_text x.fragments) x.lists shaped x.tokens_of_fragments many_of ∙ mark_sum x.fragments

  marks_alone : All IsWideName (names ts) → first_not_alone (with_literal_tokens ts x.lists) ≡ None
  marks_alone wide =
      fragments_stand_alone mode ts (map mark_number x.fragments) (map fragment_text x.fragments) x.lists wide shaped x.tokens_of_fragments many_of expanded_alone

pub expanded_shapes : {as_literals mode : Bool} {ts : List Token} {given : GivenFragments} {text : List ℕ} → (x : IsExpanded as_literals mode ts given text) →
    AreFragments mode (map mark_number x.fragments) (map fragment_text x.fragments)
expanded_shapes x = shaped _ _ _ _ _ x

-- there is no cause to refuse the values of an expanded query
pub no_cause_expanded : (mode : Bool) (ts : List Token) (given : GivenFragments) (text : List ℕ) → All IsWideName (names ts) →
    (x : IsExpanded true mode ts given text) →
    bound_cause.first_cause (with_literal_tokens ts x.lists) (positional (all_values x.fragments)) ≡ None
no_cause_expanded mode ts given text wide x =
    let us : List Token = with_literal_tokens ts x.lists in
    let values : List Value = all_values x.fragments in
    let none : names us ≡ [] = expanded_nameless true mode ts given text x in
    bound_lemmas.first_by us (positional values) values None
    (bound_lemmas.mixed_none us (λ both. absurd (omega (arith, both.0, ap length none)))) (ap (lookup (positional values)) none)
    (no_later us values none (expanded_marks true mode ts given text x) (marks_alone true mode ts given text x wide) (no_first_float x.fragments (expanded_parts true mode ts given text x).1))
  where
    no_later : (us : List Token) (values : List Value) → names us ≡ [] → marks us ≡ length values → first_not_alone us ≡ None →
        bound_cause.first_float values ≡ None → bound_cause.later_cause us values ≡ None
    no_later us values none same alone floats =
        let count : mark_count_differs (length (names us)) (marks us) (length values) ≡ false =
        ap (λ ns. mark_count_differs (length ns) (marks us) (length values)) none ∙ counts_same (marks us) (length values) same in
        rw (count, alone, floats) refl
      where
        counts_same : (k v : ℕ) → k ≡ v → mark_count_differs 0 k v ≡ false
        counts_same k v e = rw (eq-eqb k v e) refl
