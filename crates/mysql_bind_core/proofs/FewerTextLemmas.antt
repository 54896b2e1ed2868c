-- With fewer rows a text is no longer, and what refuses it refuses the text with more rows too.
use Rattle.std.specs.Prelude.{unwrap_or}
use Rattle.std.specs.List.{list_all}
use Rattle.std.proofs.Common.{◌≡◌, ◌∙◌, ◌+◌, ◌++◌, ◌≤◌, ℕ, true, false, List, [], ◌∷◌, length, map, None, Some, Ok, Err, inl, inr, refl, sym, ap, subst, append-nil, arith, length-append, true≢false, if◌then◌else◌}
use Rattle.std.proofs.lemmas.Bool.{cases_Bool}
use Rattle.std.proofs.lemmas.List.{nil_from_length}
use Rattle.mysql_values.specs.declared.value.Value.{Value}
use Rattle.mysql_named_params.specs.Places.{marks, names}
use Rattle.mysql_named_params.specs.Tokens.{Mark, Name, Token, bytes_of}
use Rattle.mysql_portable.specs.Steady.{is_steady}
use Rattle.mysql_portable.proofs.OtherModeLemmas.{all_parts}
use Rattle.mysql_binding.specs.FirstCause.{mark_count_differs}
use Rattle.mysql_binding.specs.LiteralForm.{Literals as LiteralsOf, written_literal}
use Rattle.mysql_binding.proofs.BoundText.{bound}
use Rattle.mysql_binding.proofs.CauseLemmas.{map_none, or_none}
use Rattle.mysql_binding.proofs.PieceLemmas.{joined_text_is}
use Rattle.mysql_fragments.specs.FragmentErrors.{IsCauseOrMemory, cause_of_places, count_cause, first_cause, first_fault_from, first_float_from, later_cause, mark_count, refused_fragments}
use Rattle.mysql_fragments.specs.FragmentErrors as fragments
use Rattle.mysql_fragments.specs.FragmentFaults.{fault_of}
use Rattle.mysql_fragments.specs.FragmentText.{filled_text, fragment_text, mark}
use Rattle.mysql_fragments.specs.GivenFragments.{FragmentMap, GivenFragments, PlaceFragments, fragments_for, named}
use Rattle.mysql_fragments.specs.SteadyFragments.{first_unsteady_from, unsteady_place}
use Rattle.mysql_fragments.specs.declared.fragment.Fragment.{Fragment}
use Rattle.mysql_fragments.specs.declared.fragments_error.FragmentsError.{FragmentsError}
use Rattle.mysql_fragments.specs.declared.steady_fragments_error.SteadyFragmentsError.{SteadyFragmentsError}
use Rattle.mysql_fragments.specs.declared.steady_fragments_error.SteadyFragmentsError.TheVariants as steady
use Rattle.mysql_fragments.proofs.CauseLemmas.{no_later_parts}
use Rattle.mysql_fragments.proofs.TextOfFragmentsLemmas.{fragments_steady}
use Rattle.mysql_bind_core.specs.Entries.{IsAskedText, asked_literal}
use Rattle.mysql_bind_core.specs.Refusals.{IsFragmentsRefusal}
use Rattle.mysql_bind_core.specs.RowsBound.{is_of_memory}
use Rattle.mysql_bind_core.specs.declared.failure.Failure.{Failure}
use Rattle.mysql_bind_core.specs.declared.failure.Failure.TheVariants as failure
use Rattle.mysql_bind_core.specs.declared.request.Literals.{Literals}
use Rattle.mysql_bind_core.specs.declared.request.Literals.TheVariants as literals
use Rattle.mysql_bind_core.proofs.FewerEntryLemmas.{AreLessByName, AreLessFragments, AreLessPlaces, less_places}
use Rattle.mysql_bind_core.proofs.FewerRowLemmas.{IsLess, less_fault, less_float, less_text}

-- ---- the fragments of places

less_steady : (f g : Fragment) → IsLess f g → list_all is_steady (fragment_text g) ≡ true → list_all is_steady (fragment_text f) ≡ true
less_steady f g h e =
    let m = less_text f g h mark in
    (all_parts is_steady (fragment_text f) m.0 (ap (list_all is_steady) (sym m.1) ∙ e)).0

as_many : (fs gs : List Fragment) → AreLessFragments fs gs → length fs ≡ length gs
unfolding AreLessFragments
as_many [] [] h = refl
as_many [] (g ∷ gs) h = absurd h
as_many (f ∷ fs) [] h = absurd h
as_many (f ∷ fs) (g ∷ gs) h = omega (arith, as_many fs gs h.1)

none_float : (place : ℕ) (fs gs : List Fragment) → AreLessFragments fs gs → first_float_from place gs ≡ None → first_float_from place fs ≡ None
unfolding AreLessFragments
none_float place [] [] h e = refl
none_float place [] (g ∷ gs) h e = absurd h
none_float place (f ∷ fs) [] h e = absurd h
none_float place (f ∷ fs) (g ∷ gs) h e =
    elim (cases_Bool (fragments.has_float g)) [
      | inl b ↦ let bad : Some place ≡ None = rw b at e in cc
      | inr b ↦ rw (less_float f g h.0 b) (none_float (place + 1) fs gs h.1 (rw b at e))
    ]

none_fault : (place : ℕ) (fs gs : List Fragment) → AreLessFragments fs gs → first_fault_from place gs ≡ None → first_fault_from place fs ≡ None
unfolding AreLessFragments
none_fault place [] [] h e = refl
none_fault place [] (g ∷ gs) h e = absurd h
none_fault place (f ∷ fs) [] h e = absurd h
none_fault place (f ∷ fs) (g ∷ gs) h e =
    let p = or_none _ (first_fault_from (place + 1) gs) e in
    rw (less_fault f g h.0 (map_none _ (fault_of g) p.0)) (none_fault (place + 1) fs gs h.1 p.1)

all_steady : (place : ℕ) (fs gs : List Fragment) → AreLessFragments fs gs → first_unsteady_from place gs ≡ None → first_unsteady_from place fs ≡ None
unfolding AreLessFragments
all_steady place [] [] h e = refl
all_steady place [] (g ∷ gs) h e = absurd h
all_steady place (f ∷ fs) [] h e = absurd h
all_steady place (f ∷ fs) (g ∷ gs) h e =
    elim (cases_Bool (list_all is_steady (fragment_text g))) [
      | inl b ↦ rw (less_steady f g h.0 b) (all_steady (place + 1) fs gs h.1 (rw b at e))
      | inr b ↦ let bad : Some place ≡ None = rw b at e in cc
    ]

-- ---- causes

module _ (ts : List Token) where
  less_later : (fs gs : List Fragment) → AreLessFragments fs gs → later_cause true ts gs ≡ None → later_cause true ts fs ≡ None
  less_later fs gs h e =
      let p = no_later_parts true ts gs e in
      let count : count_cause ts fs ≡ None =
      ap (λ k. if mark_count_differs (length (names ts)) (marks ts) k then Some (mark_count (marks ts) k) else None) (as_many fs gs h) ∙ p.0 in
      rw (count, p.1, none_float 0 fs gs h p.2, none_fault 0 fs gs h p.3) refl

  less_places_cause : (x y : PlaceFragments) → AreLessPlaces x y → cause_of_places true ts y ≡ None → cause_of_places true ts x ≡ None
  unfolding AreLessPlaces
  less_places_cause (Ok fs) (Ok gs) h e = less_later fs gs h e
  less_places_cause (Ok fs) (Err b) h e = absurd h
  less_places_cause (Err a) (Ok gs) h e = absurd h
  less_places_cause (Err a) (Err b) h e = ap (λ w. Some (refused_fragments w)) h ∙ e

  less_cause : (m n : FragmentMap) → AreLessByName m n → first_cause true ts (named n) ≡ None → first_cause true ts (named m) ≡ None
  less_cause m n h e =
      let p = or_none (fragments.mixed_cause ts) _ e in
      rw p.0 (less_places_cause (fragments_for (named m) (names ts)) (fragments_for (named n) (names ts)) (less_places m n h (names ts)) p.1)

  less_unsteady : (x y : PlaceFragments) → AreLessPlaces x y → unsteady_place y ≡ None → unsteady_place x ≡ None
  unfolding AreLessPlaces
  less_unsteady (Ok fs) (Ok gs) h e = all_steady 0 fs gs h e
  less_unsteady (Ok fs) (Err b) h e = absurd h
  less_unsteady (Err a) y h e = refl

-- ---- the text

module _ (literal : LiteralsOf) where
  pub written_all : (vs : List Value) (ls : List (List ℕ)) → map literal vs ≡ map Some ls → map (written_literal literal) vs ≡ ls
  written_all [] [] e = refl
  written_all [] (l ∷ ls) e = cc
  written_all (v ∷ vs) [] e = cc
  written_all (v ∷ vs) (l ∷ ls) e =
      let first : literal v ≡ Some l = cc in
      let later : map literal vs ≡ map Some ls = cc in
      let here = ap (λ o. unwrap_or o []) first in
      let more = written_all vs ls later in
      λ i. here i ∷ more i

-- a text is that of the fragments for its places
pub record IsFilled (asked : Literals) (ts : List Token) (given : GivenFragments) (text : List ℕ) : Type 0 where
  pub fragments : List Fragment
  pub given_to_places : fragments_for given (names ts) ≡ Ok fragments
  pub no_cause : first_cause true ts given ≡ None
  pub text_is : text ≡ bound ts (map (filled_text (asked_literal asked)) fragments)

pub is_filled_for : (asked : Literals) (ts : List Token) (given : GivenFragments) (text : List ℕ) → IsAskedText asked ts given text →
    IsFilled asked ts given text
is_filled_for asked ts given text b =
    let x = b.placed in
    record {
      fragments = x.fragments;
      given_to_places = x.given_to_places;
      no_cause = x.no_cause;
      text_is = joined_text_is ts (map (filled_text (asked_literal asked)) x.fragments) text x.text_is;
    }

placed_length : (write : Value → List ℕ) (ts : List Token) (f g : Fragment) (fs gs : List Fragment) → IsLess f g →
    length (bound ts (map (filled_text write) fs)) ≤ length (bound ts (map (filled_text write) gs)) →
    length (filled_text write f ++ bound ts (map (filled_text write) fs)) ≤ length (filled_text write g ++ bound ts (map (filled_text write) gs))
placed_length write ts f g fs gs h more =
    let m = less_text f g h write in
    omega (
      arith,
      more,
      ap length m.1,
      length-append (filled_text write f) m.0,
      length-append (filled_text write f) (bound ts (map (filled_text write) fs)),
      length-append (filled_text write g) (bound ts (map (filled_text write) gs)),
    )

less_length : (write : Value → List ℕ) (ts : List Token) (fs gs : List Fragment) → AreLessFragments fs gs →
    length (bound ts (map (filled_text write) fs)) ≤ length (bound ts (map (filled_text write) gs))
unfolding AreLessFragments
less_length write [] fs gs h = omega arith
less_length write (Name q ∷ ts) [] [] h = omega (arith)
less_length write (Name q ∷ ts) [] (g ∷ gs) h = absurd h
less_length write (Name q ∷ ts) (f ∷ fs) [] h = absurd h
less_length write (Name q ∷ ts) (f ∷ fs) (g ∷ gs) h = placed_length write ts f g fs gs h.0 (less_length write ts fs gs h.1)
less_length write (Mark ∷ ts) [] [] h = omega (arith)
less_length write (Mark ∷ ts) [] (g ∷ gs) h = absurd h
less_length write (Mark ∷ ts) (f ∷ fs) [] h = absurd h
less_length write (Mark ∷ ts) (f ∷ fs) (g ∷ gs) h = placed_length write ts f g fs gs h.0 (less_length write ts fs gs h.1)
less_length write (t ∷ ts) fs gs h =
    omega (
      arith,
      less_length write ts fs gs h,
      length-append (bytes_of t) (bound ts (map (filled_text write) fs)),
      length-append (bytes_of t) (bound ts (map (filled_text write) gs)),
    )

pub both_found : (fs gs : List Fragment) (x y : PlaceFragments) → x ≡ Ok fs → y ≡ Ok gs → AreLessPlaces x y → AreLessFragments fs gs
unfolding AreLessPlaces
both_found fs gs x y a b h = subst (λ z. AreLessPlaces (Ok fs) z) b (subst (λ z. AreLessPlaces z y) a h)

-- the text with fewer rows is no longer
pub fewer_length : (asked : Literals) (ts : List Token) (m n : FragmentMap) (text other : List ℕ) → AreLessByName m n →
    IsFilled asked ts (named m) text → IsFilled asked ts (named n) other → length text ≤ length other
fewer_length asked ts m n text other h x y =
    let less = both_found x.fragments y.fragments (fragments_for (named m) (names ts)) (fragments_for (named n) (names ts)) x.given_to_places y.given_to_places (less_places m n h (names ts)) in
    omega (arith, less_length (asked_literal asked) ts x.fragments y.fragments less, ap length x.text_is, ap length y.text_is)

-- texts of the same content are the same
same_written : (write : Value → List ℕ) (fs gs : List Fragment) → AreLessFragments fs gs → AreLessFragments gs fs →
    map (filled_text write) fs ≡ map (filled_text write) gs
unfolding AreLessFragments
same_written write [] [] h k = refl
same_written write [] (g ∷ gs) h k = absurd h
same_written write (f ∷ fs) [] h k = absurd h
same_written write (f ∷ fs) (g ∷ gs) h k =
    let a = less_text f g h.0 write in
    let b = less_text g f k.0 write in
    let none : a.0 ≡ [] = nil_from_length a.0 (omega (
      arith,
      ap length a.1,
      ap length b.1,
      length-append (filled_text write f) a.0,
      length-append (filled_text write g) b.0,
    )) in
    let here : filled_text write f ≡ filled_text write g = sym (append-nil (filled_text write f)) ∙ (ap (λ z. filled_text write f ++ z) (sym none) ∙ sym a.1) in
    let more = same_written write fs gs h.1 k.1 in
    λ i. here i ∷ more i

pub same_filled : (asked : Literals) (ts : List Token) (m n : FragmentMap) (text other : List ℕ) → AreLessByName m n → AreLessByName n m →
    IsFilled asked ts (named m) text → IsFilled asked ts (named n) other → text ≡ other
same_filled asked ts m n text other h k x y =
    let less = both_found x.fragments y.fragments (fragments_for (named m) (names ts)) (fragments_for (named n) (names ts)) x.given_to_places y.given_to_places (less_places m n h (names ts)) in
    let more = both_found y.fragments x.fragments (fragments_for (named n) (names ts)) (fragments_for (named m) (names ts)) y.given_to_places x.given_to_places (less_places n m k (names ts)) in
    x.text_is ∙ (ap (bound ts) (same_written (asked_literal asked) x.fragments y.fragments less more) ∙ sym y.text_is)

-- ---- refusals

module _ (ts : List Token) (m n : FragmentMap) (h : AreLessByName m n) (none : first_cause true ts (named n) ≡ None) where
  some_none : {A : Type 0} {x : A} → Some x ≡ None → ⊥
  some_none e = cc

  not_refused : (error : FragmentsError) → is_of_memory (failure.Fragments error) ≡ false → IsCauseOrMemory (first_cause true ts (named m)) error → ⊥
  not_refused error other (inl e) = true≢false (sym (ap (λ x. is_of_memory (failure.Fragments x)) e) ∙ other)
  not_refused error other (inr e) = some_none (sym e.1 ∙ less_cause ts m n h none)

  not_refused_steady : (error : SteadyFragmentsError) → is_of_memory (failure.SteadyFragments error) ≡ false →
      unsteady_place (fragments_for (named n) (names ts)) ≡ None →
      IsFragmentsRefusal literals.Steady ts (named m) (failure.SteadyFragments error) → ⊥
  not_refused_steady (steady.Unsteady at) other u e = absurd e
  not_refused_steady (steady.Unportable found) other u e = absurd e
  not_refused_steady (steady.Fragments error) other u e = not_refused error other e
  not_refused_steady (steady.UnsteadyFragment place) other u e =
      some_none (sym e.1 ∙ less_unsteady ts (fragments_for (named m) (names ts)) (fragments_for (named n) (names ts)) (less_places m n h (names ts)) u)

-- nothing refuses the text with fewer rows
pub none_refused : (asked : Literals) (ts : List Token) (m n : FragmentMap) (text : List ℕ) (why : Failure) → AreLessByName m n →
    IsAskedText asked ts (named n) text → is_of_memory why ≡ false → IsFragmentsRefusal asked ts (named m) why → ⊥
none_refused (literals.Plain mode) ts m n text (failure.Fragments error) h b other r =
    not_refused ts m n h b.placed.no_cause error other r
none_refused literals.Steady ts m n text (failure.SteadyFragments error) h b other r =
    not_refused_steady ts m n h b.placed.no_cause error other
    (ap unsteady_place b.placed.given_to_places ∙ fragments_steady ts (named n) text b.placed (b.steady refl)) r
none_refused asked ts m n text why h b other r = absurd r
