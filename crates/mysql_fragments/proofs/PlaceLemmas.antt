-- The fragments of names.
use Rattle.std.proofs.Common.{◌≡◌, ◌<◌, ◌+◌, ℕ, List, [], ◌∷◌, ◌++◌, map, length, take, get_or, cond, refl, sym, ap, ◌∙◌, subst, arith, zero, suc}
use Rattle.std.specs.Prelude.{Some, None, Ok, Err, Result, IfErr, IfOk, nat_eq}
use Rattle.std.proofs.Common.{inl, inr}
use Rattle.mysql_named_params.specs.Places.{names}
use Rattle.mysql_params_core.specs.declared.params.errors.ParamsConfusionError.TheVariants.{NamedParamsForPositionalQuery, PositionalParamsForNamedQuery}
use Rattle.mysql_fragments.specs.FragmentErrors.{IsMissingOrMemory, IsPlaceRefusal}
use Rattle.mysql_fragments.specs.declared.fragments_error.FragmentsError.{FragmentsError}
use Rattle.std.specs.Borrow.{Bor}
use Rattle.std.specs.Global.{Vec}
use Rattle.std.specs.FinMap.{find, get, get-from_entries}
use Rattle.std.specs.Map.{lookup}
use Rattle.std.specs.Ordering.{nat_cmp}
use Rattle.std.specs.Cmp.{unsigned_ties}
use Rattle.std.specs.Cmp.Lexicographic.{slice_cmp, pointwise, lists_ties, nat_list_cmp_total}
use Rattle.std.proofs.lemmas.List.{get_or-map, length-map, map-append, take_all}
use Rattle.mysql_named_params.specs.Reading.{OnTokensIn}
use Rattle.mysql_named_params.specs.declared.places.Reading.{Reading}
use Rattle.mysql_named_params.proofs.ReadingLemmas.{one_reading}
use Rattle.mysql_params_core.specs.Referents.{referents}
use Rattle.mysql_params_core.proofs.BorrowedLemmas.{take-referents, referents-push}
use Rattle.mysql_fragments.specs.declared.fragment.Fragment.{Fragment}
use Rattle.mysql_fragments.specs.GivenFragments.{FragmentMap, GivenFragments, by_bytes, fragment_map, fragments_at, fragments_for, missing, confused, named, positional, with_first}

-- a search by the names' order finds the same as a search by their bytes
find-lookup : (es : List (Vec ℕ × Fragment)) (q : List ℕ) → find (slice_cmp nat_cmp) q (map by_bytes es) ≡ lookup (λ k. pointwise nat_eq q k.items) es
find-lookup [] q = refl
find-lookup (e ∷ es) q =
    ap (λ b. cond b (Some e.1) (find (slice_cmp nat_cmp) q (map by_bytes es))) (sym (lists_ties nat_cmp unsigned_ties q e.0.items))
    ∙ ap (cond (pointwise nat_eq q e.0.items) (Some e.1)) (find-lookup es q)

-- the entry of the map at a name
pub get-fragment_map : (es : List (Vec ℕ × Fragment)) (q : List ℕ) → get (fragment_map es) q ≡ lookup (λ k. pointwise nat_eq q k.items) es
get-fragment_map es q = get-from_entries nat_list_cmp_total _ q ∙ find-lookup es q

-- the fragments so far are those of the names so far
abbrev pub AreFound : FragmentMap → List (List ℕ) → List (Bor Fragment) → Type 0
AreFound m ns fs = map (get m) ns ≡ map (λ x. Some x) (referents fs)

pub at_found : (m : FragmentMap) (ns : List (List ℕ)) (fs : List Fragment) → map (get m) ns ≡ map (λ x. Some x) fs →
    fragments_at m ns ≡ Ok fs
at_found m [] [] e = refl
at_found m [] (f ∷ fs) e = cc
at_found m (n ∷ ns) [] e = cc
at_found m (n ∷ ns) (f ∷ fs) e =
    let here : get m n ≡ Some f = cc in
    let later : map (get m) ns ≡ map (λ x. Some x) fs = cc in
    ap (λ o. with_first n o (fragments_at m ns)) here ∙ ap (with_first n (Some f)) (at_found m ns fs later)

at_missing : (m : FragmentMap) (ns : List (List ℕ)) (i : ℕ) (d : List ℕ) (fs : List Fragment) → i < length ns →
    map (get m) (take i ns) ≡ map (λ x. Some x) fs → get m (get_or ns i d) ≡ None →
    fragments_at m ns ≡ Err (missing (get_or ns i d))
at_missing m [] i d fs below e none = absurd (omega arith)
at_missing m (n ∷ ns) zero d fs below e none = ap (λ o. with_first n o (fragments_at m ns)) none
at_missing m (n ∷ ns) (suc i) d [] below e none = cc
at_missing m (n ∷ ns) (suc i) d (f ∷ fs) below e none =
    let here : get m n ≡ Some f = cc in
    let later : map (get m) (take i ns) ≡ map (λ x. Some x) fs = cc in
    ap (λ o. with_first n o (fragments_at m ns)) here ∙ ap (with_first n (Some f)) (at_missing m ns i d fs (omega arith) later none)

module _ (m : FragmentMap) (ns : List (Bor (List ℕ))) (i : ℕ) (d : Bor (List ℕ)) (below : i < length ns) (fs : List (Bor Fragment)) (found : AreFound m (take i (referents ns)) fs) where
  -- one fragment more
  pub found_more : (f : Bor Fragment) (fs' : List (Bor Fragment)) → get m (get_or ns i d).now ≡ Some f.now →
      fs' ≡ fs ++ f ∷ [] → AreFound m (take (i + 1) (referents ns)) fs'
  found_more f fs' e pushed =
      ap (map (get m)) (take-referents ns i d below)
      ∙ map-append (get m) (take i (referents ns)) ((get_or ns i d).now ∷ [])
      ∙ ap (λ os. os ++ get m (get_or ns i d).now ∷ []) found
      ∙ ap (λ o. map (λ x. Some x) (referents fs) ++ o ∷ []) e
      ∙ sym (map-append (λ x. Some x) (referents fs) (f.now ∷ []))
      ∙ ap (map (λ x. Some x)) (sym (ap referents pushed ∙ referents-push fs f))

  -- a name without a fragment is the first
  pub first_missing : get m (get_or ns i d).now ≡ None → fragments_at m (referents ns) ≡ Err (missing (get_or ns i d).now)
  first_missing none =
      let at : get_or (referents ns) i [] ≡ (get_or ns i d).now = get_or-map (λ x. x.now) ns i d [] below in
      at_missing m (referents ns) i [] (referents fs) (omega (arith, length-map ns (λ x. x.now), below)) found (ap (get m) at ∙ none)
      ∙ ap (λ n. Err (missing n)) at

  pub missing_refused : (error : FragmentsError) → get m (get_or ns i d).now ≡ None →
      IsMissingOrMemory (get_or ns i d).now error → IsPlaceRefusal (fragments_at m (referents ns)) error
  missing_refused error none e = elim e [ inl f ↦ inl f | inr f ↦ inr (missing (get_or ns i d).now, first_missing none, f) ]

-- if all names have a fragment
pub found_all : (m : FragmentMap) (ns : List (Bor (List ℕ))) (fs : List (Bor Fragment)) (i : ℕ) → length ns ≡ i →
    AreFound m (take i (referents ns)) fs → fragments_at m (referents ns) ≡ Ok (referents fs)
found_all m ns fs i e found =
    at_found m (referents ns) (referents fs) (ap (map (get m)) (sym (take_all i (referents ns) (omega (arith, length-map ns (λ x. x.now), e)))) ∙ found)

-- ---- both kinds

pub positional_refused : (given : GivenFragments) (fragments : List Fragment) (ns : List (List ℕ)) → given ≡ positional fragments →
    (length ns ≡ 0 → ⊥) → fragments_for given ns ≡ Err (confused PositionalParamsForNamedQuery)
positional_refused given fragments [] e some = absurd (some refl)
positional_refused given fragments (n ∷ ns) e some = ap (λ g. fragments_for g (n ∷ ns)) e

pub named_refused : (given : GivenFragments) (m : FragmentMap) (ns : List (List ℕ)) → given ≡ named m → length ns ≡ 0 →
    fragments_for given ns ≡ Err (confused NamedParamsForPositionalQuery)
named_refused given m [] e none = ap (λ g. fragments_for g []) e
named_refused given m (n ∷ ns) e none = absurd (omega arith)

pub named_some : (given : GivenFragments) (m : FragmentMap) (ns : List (List ℕ)) → given ≡ named m → (length ns ≡ 0 → ⊥) →
    fragments_for given ns ≡ fragments_at m ns
named_some given m [] e some = absurd (some refl)
named_some given m (n ∷ ns) e some = ap (λ g. fragments_for g (n ∷ ns)) e

module _ {A E : Type 0} (fragments : A → List Fragment) (reading : Reading) (query : List ℕ) (given : GivenFragments) (m : FragmentMap) (e : given ≡ named m) (count : ℕ) (some : count ≡ 0 → ⊥) where
  pub named_on : (r : Result A E) → OnTokensIn reading query (λ ts. count ≡ length (names ts)) →
      IfOk r (λ list. OnTokensIn reading query (λ ts. fragments_at m (names ts) ≡ Ok (fragments list))) →
      IfOk r (λ list. OnTokensIn reading query (λ ts. fragments_for given (names ts) ≡ Ok (fragments list)))
  named_on (Ok list) c o =
      let same : length (names o.0) ≡ count = ap (λ ts. length (names ts)) (one_reading reading query o.0 c.0 o.1 c.1) ∙ sym c.2 in
      (o.0, o.1, named_some given m (names o.0) e (λ z. some (sym same ∙ z)) ∙ o.2)
  named_on (Err error) c o = tt

-- an error of the fragments by name is one of the given fragments
pub named_told : {A : Type 0} (reading : Reading) (query : List ℕ) (given : GivenFragments) (m : FragmentMap) → given ≡ named m →
    (count : ℕ) → (count ≡ 0 → ⊥) → OnTokensIn reading query (λ ts. count ≡ length (names ts)) → (r : Result A FragmentsError) →
    IfErr r (λ error. OnTokensIn reading query (λ ts. IsPlaceRefusal (fragments_at m (names ts)) error)) →
    IfErr r (λ error. OnTokensIn reading query (λ ts. IsPlaceRefusal (fragments_for given (names ts)) error))
named_told reading query given m e count some c (Ok list) o = tt
named_told reading query given m e count some c (Err error) o =
    let same : length (names o.0) ≡ count = ap (λ ts. length (names ts)) (one_reading reading query o.0 c.0 o.1 c.1) ∙ sym c.2 in
    (o.0, o.1, subst (λ x. IsPlaceRefusal x error) (sym (named_some given m (names o.0) e (λ z. some (sym same ∙ z)))) o.2)

-- an error of listed names is one of the names of the query
pub listed_told : {A : Type 0} (reading : Reading) (query : List ℕ) (m : FragmentMap) (ns : List (List ℕ)) →
    OnTokensIn reading query (λ ts. ns ≡ names ts) → (r : Result A FragmentsError) →
    IfErr r (IsPlaceRefusal (fragments_at m ns)) →
    IfErr r (λ error. OnTokensIn reading query (λ ts. IsPlaceRefusal (fragments_at m (names ts)) error))
listed_told reading query m ns o (Ok list) h = tt
listed_told reading query m ns o (Err error) h = (o.0, o.1, subst (λ x. IsPlaceRefusal (fragments_at m x) error) o.2 h)
