-- The fragments of a form for the places of a query.
use Rattle.std.specs.Prelude.{Bool, Ok, Err, Result, Option, Some, None, option_map, IfOk, IfErr}
use Rattle.std.specs.Borrow.{Bor}
use Rattle.std.specs.FinMap.{get}
use Rattle.std.proofs.Common.{◌≡◌, ◌+◌, ◌<◌, ℕ, zero, suc, List, [], ◌∷◌, ◌++◌, map, length, take, get_or, arith, refl, sym, ap, ◌∙◌, subst, true, false, if◌then◌else◌}
use Rattle.mysql_named_params.specs.Tokens.{Token}
use Rattle.mysql_named_params.specs.Places.{has_both, names}
use Rattle.mysql_named_params.specs.Reading.{OnTokensIn}
use Rattle.mysql_named_params.specs.declared.places.Reading.{Reading}
use Rattle.mysql_named_params.proofs.ReadingLemmas.{one_reading}
use Rattle.std.proofs.lemmas.List.{map-append}
use Rattle.mysql_fragments.specs.BorrowedFragments.{AreSaid, Says}
use Rattle.mysql_binding.specs.FirstCause as bound_cause
use Rattle.mysql_binding.specs.Survey.{IsSurvey}
use Rattle.mysql_binding.specs.declared.binding.survey.Survey.{Survey}
use Rattle.mysql_fragments.specs.declared.fragments_error.FragmentsError.{FragmentsError}
use Rattle.mysql_fragments.specs.FilledText.{ArePlaced}
use Rattle.mysql_fragments.proofs.CauseLemmas.{no_error}
use Rattle.mysql_fragments.proofs.ExpandedLemmas.{refused_places}
use Rattle.mysql_fragments.proofs.RoomLemmas.{placed_count}
use Rattle.mysql_fragments.specs.FragmentErrors.{IsCauseOrMemory, IsPlaceRefusal, first_cause, later_cause, mixed_cause, mixed_query}
use Rattle.mysql_fragments.specs.GivenFragments.{FragmentMap, GivenFragments, PlaceRefusal, fragments_at, fragments_for, missing, named, with_first}
use Rattle.mysql_fragments.specs.declared.fragment.Fragment.{Fragment}
use Rattle.mysql_fragments.specs.declared.fragment_ref.FragmentRef.{FragmentRef}
use Rattle.mysql_flat_params.specs.FormInPlace.{AreGivenTo, AreKeptAs, IsFoundAs, IsKeptAs, IsMapKeptAs, kept_at}
use Rattle.mysql_flat_params.specs.declared.fragment_in_place.FragmentInPlace.{FragmentInPlace}
use Rattle.mysql_fragments.proofs.PlaceLemmas.{named_some}

-- the names so far have these fragments, and one after them has none
pub missing_after : (m : FragmentMap) (ns : List (List ℕ)) (n : List ℕ) (more : List (List ℕ)) (fs : List Fragment) →
    map (get m) ns ≡ map (λ x. Some x) fs → get m n ≡ None → fragments_at m (ns ++ n ∷ more) ≡ Err (missing n)
missing_after m [] n more fs e none = ap (λ o. with_first n o (fragments_at m more)) none
missing_after m (k ∷ ns) n more [] e none = cc
missing_after m (k ∷ ns) n more (f ∷ fs) e none =
    let here : get m k ≡ Some f = cc in
    let later : map (get m) ns ≡ map (λ x. Some x) fs = cc in
    ap (λ o. with_first k o (fragments_at m (ns ++ n ∷ more))) here ∙ ap (with_first k (Some f)) (missing_after m ns n more fs later none)

-- one more fragment of the same content
pub said_more : (list : List FragmentRef) (said : List Fragment) (r : FragmentRef) (f : Fragment) → AreSaid list said → Says r f →
    AreSaid (list ++ r ∷ []) (said ++ f ∷ [])
said_more [] [] r f all h = (h, tt)
said_more [] (s ∷ said) r f all h = absurd all
said_more (x ∷ list) [] r f all h = absurd all
said_more (x ∷ list) (s ∷ said) r f all h = (all.0, said_more list said r f all.1 h)

-- the names so far have fragments in the map, and these say them
abbrev pub IsFoundSoFar : List (Bor (List ℕ) × FragmentInPlace) → List (List ℕ) → List FragmentRef → Type 0
IsFoundSoFar entries names list = (fragments : FragmentMap) → IsMapKeptAs entries fragments →
    (said : List Fragment) × (map (get fragments) names ≡ map (λ x. Some x) said) × AreSaid list said

pub none_found : (entries : List (Bor (List ℕ) × FragmentInPlace)) (list : List FragmentRef) → list ≡ [] → IsFoundSoFar entries [] list
none_found entries list none fragments all = ([], refl, subst (λ l. AreSaid l []) (sym none) tt)

found_here : (o : Option FragmentInPlace) (g : Option Fragment) (kept : FragmentInPlace) → IsFoundAs o g → Some kept ≡ o →
    (said : Fragment) × (g ≡ Some said) × IsKeptAs kept said
found_here None g kept h e = cc
found_here (Some f) None kept h e = absurd h
found_here (Some f) (Some said) kept h e = (let same : f ≡ kept = cc in (said, refl, subst (λ k. IsKeptAs k said) same h))

missing_here : (o : Option FragmentInPlace) (g : Option Fragment) → IsFoundAs o g → None ≡ o → g ≡ None
missing_here None None h e = refl
missing_here None (Some said) h e = absurd h
missing_here (Some f) g h e = cc

module _ (entries : List (Bor (List ℕ) × FragmentInPlace)) (names : List (List ℕ)) (list : List FragmentRef) (name : List ℕ) (so_far : IsFoundSoFar entries names list) where
  -- one more
  pub found_more : (kept : FragmentInPlace) (lent : FragmentRef) (new : List FragmentRef) → Some kept ≡ kept_at entries name →
      ((said : Fragment) → IsKeptAs kept said → Says lent said) → new ≡ list ++ lent ∷ [] → IsFoundSoFar entries (names ++ name ∷ []) new
  found_more kept lent new is says pushed fragments all =
      let (said, found, are) = so_far fragments all in
      let (one, here, kept_as) = found_here (kept_at entries name) (get fragments name) kept (all name) is in (
        said ++ one ∷ [],
        map-append (get fragments) names (name ∷ [])
            ∙ (ap (λ os. os ++ get fragments name ∷ []) found
            ∙ (ap (λ o. map (λ x. Some x) said ++ o ∷ []) here ∙ sym (map-append (λ x. Some x) said (one ∷ [])))),
        subst (λ l. AreSaid l (said ++ one ∷ [])) (sym pushed) (said_more list said lent one are (says one kept_as)),
      )

  -- or none, and the name is missing
  pub not_found : (fragments : FragmentMap) (more : List (List ℕ)) → None ≡ kept_at entries name → IsMapKeptAs entries fragments →
      fragments_at fragments (names ++ name ∷ more) ≡ Err (missing name)
  not_found fragments more is all =
      let (said, found, are) = so_far fragments all in
      missing_after fragments names name more said found (missing_here (kept_at entries name) (get fragments name) (all name) is)

-- ---- by position

-- the kept fragment at an index, and the fragment there
pub kept_at_index : (list : List FragmentInPlace) (said : List Fragment) (i : ℕ) (d : FragmentInPlace) → AreKeptAs list said → i < length list →
    (one : Fragment) × (take (suc i) said ≡ take i said ++ one ∷ []) × IsKeptAs (get_or list i d) one
kept_at_index [] said i d all below = absurd (omega (arith, below))
kept_at_index (f ∷ list) [] i d all below = absurd all
kept_at_index (f ∷ list) (s ∷ said) zero d all below = (s, refl, all.0)
kept_at_index (f ∷ list) (s ∷ said) (suc i) d all below =
    let (one, more, kept) = kept_at_index list said i d all.1 (omega (arith, below)) in
    (one, ap (λ l. s ∷ l) more, kept)

pub kept_count : (list : List FragmentInPlace) (said : List Fragment) → AreKeptAs list said → length said ≡ length list
kept_count [] [] all = refl
kept_count [] (s ∷ said) all = absurd all
kept_count (f ∷ list) [] all = absurd all
kept_count (f ∷ list) (s ∷ said) all = ap suc (kept_count list said all.1)

-- ---- by name, on the tokens of a query

-- binding calls the same queries mixed
pub unmixed_too : (ts : List Token) → mixed_cause ts ≡ None → bound_cause.mixed_cause ts ≡ None
unmixed_too ts none = by (has_both ts) none
  where
    by : (b : Bool) → (if b then Some mixed_query else None) ≡ None → (if b then Some bound_cause.mixed_query else None) ≡ None
    by true e = cc
    by false e = refl

module _ (reading : Reading) (query : List ℕ) (given : GivenFragments) (m : FragmentMap) (is : given ≡ named m) (count : ℕ) (some : count ≡ 0 → ⊥)
    (o : OnTokensIn reading query (λ ts. (count ≡ length (names ts)) × (mixed_cause ts ≡ None))) where
  same_for : (ts : List Token) → o.0 ≡ ts → fragments_for given (names ts) ≡ fragments_at m (names ts)
  same_for ts same = named_some given m (names ts) is (λ none. some (o.2.0 ∙ (ap (λ us. length (names us)) same ∙ none)))

  pub named_placed : {A E : Type 0} (items : A → List FragmentRef) (r : Result A E) →
      OnTokensIn reading query (λ ts. IfOk r (λ list. (said : List Fragment) × (fragments_at m (names ts) ≡ Ok said) × AreSaid (items list) said)) →
      OnTokensIn reading query (λ ts. IfOk r (λ list. (mixed_cause ts ≡ None) × (said : List Fragment) × (fragments_for given (names ts) ≡ Ok said) × AreSaid (items list) said))
  named_placed items (Ok list) p =
      let same : o.0 ≡ p.0 = one_reading reading query o.0 p.0 o.1 p.1 in
      (p.0, p.1, (subst (λ ts. mixed_cause ts ≡ None) same o.2.1, p.2.0, same_for p.0 same ∙ p.2.1, p.2.2))
  named_placed items (Err error) p = (p.0, p.1, tt)

  pub named_refusal : {A E : Type 0} (IsRefused : Result (List Fragment) PlaceRefusal → E → Type 0) (r : Result A E) →
      OnTokensIn reading query (λ ts. IfErr r (IsRefused (fragments_at m (names ts)))) → OnTokensIn reading query (λ ts. IfErr r (IsRefused (fragments_for given (names ts))))
  named_refusal IsRefused (Ok list) p = (p.0, p.1, tt)
  named_refusal IsRefused (Err error) p =
      (p.0, p.1, subst (λ x. IsRefused x error) (sym (same_for p.0 (one_reading reading query o.0 p.0 o.1 p.1))) p.2)

-- the refusal is the first cause
pub cause_refusal : {A : Type 0} (r : Result A FragmentsError) (reading : Reading) (query : List ℕ) (given : GivenFragments) (survey : Survey) →
    OnTokensIn reading query (IsSurvey survey) → (0 < survey.names × 0 < survey.marks → ⊥) →
    OnTokensIn reading query (λ ts. IfErr r (IsPlaceRefusal (fragments_for given (names ts)))) →
    OnTokensIn reading query (λ ts. IfErr r (IsCauseOrMemory (first_cause true ts given)))
cause_refusal (Ok list) reading query given survey o apart p = (o.0, o.1, tt)
cause_refusal (Err error) reading query given survey o apart p = refused_places true reading query given survey o apart error p

-- ---- the causes after the fragments for the places are known, and the text

-- the fragments for the places of a query are given to it, and these borrowed ones say them
abbrev pub ArePlacedAs : (reading : Reading) (query : List ℕ) → GivenFragments → List FragmentRef → Type 0
ArePlacedAs reading query given list = OnTokensIn reading query (AreGivenTo given list)

-- no later cause is no error of it
pub later_none : (list : List FragmentRef) (survey : Survey) → ((ts : List Token) (said : List Fragment) → AreSaid list said → IsSurvey survey ts → later_cause true ts said ≡ None) →
    (ts : List Token) (said : List Fragment) → AreSaid list said → IsSurvey survey ts → None ≡ option_map (λ x. Some x) (later_cause true ts said)
later_none list survey none ts said are on = sym (ap (option_map (λ x. Some x)) (none ts said are on))

module _ (reading : Reading) (query : List ℕ) (survey : Survey) (o : OnTokensIn reading query (IsSurvey survey)) (given : GivenFragments) (list : List FragmentRef)
    (p : ArePlacedAs reading query given list) where
  survey_on : IsSurvey survey p.0
  survey_on = subst (IsSurvey survey) (one_reading reading query o.0 p.0 o.1 p.1) o.2

  module _ (none : (ts : List Token) (said : List Fragment) → AreSaid list said → IsSurvey survey ts → None ≡ option_map (λ x. Some x) (later_cause true ts said)) where
    pub none_later : OnTokensIn reading query (λ ts. ArePlaced true ts given p.2.1)
    none_later =
        let (ts, is, (unmixed, said, looked, are)) = p in
        (ts, is, record { unmixed = unmixed; given_to_places = looked; no_later = no_error (later_cause true ts said) (none ts said are survey_on) })

    pub as_many_placed : survey.names + survey.marks ≡ length list
    as_many_placed = placed_count reading query survey given list p.2.1 p.2.3 o none_later
