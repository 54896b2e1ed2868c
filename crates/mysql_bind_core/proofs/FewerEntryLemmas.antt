-- The fragments of the same assignments and of fewer rows, by name, and those for the places of a query:
-- in each place is the same content, or some of its rows.
use Rattle.std.specs.Prelude.{Bool, Option, fold, is_some, ⊤}
use Rattle.std.specs.FinMap.{contains_key, get, get-empty, get-insert, insert}
use Rattle.std.specs.FinMap as finite
use Rattle.std.specs.Global.{Vec}
use Rattle.std.specs.Ordering.{eq_by_cmp, nat_cmp}
use Rattle.std.specs.Cmp.Lexicographic.{nat_list_cmp_total, slice_cmp}
use Rattle.std.proofs.Common.{◌≡◌, ◌∙◌, ◌++◌, ◌<◌, ℕ, true, false, cond, List, [], ◌∷◌, length, map, None, Some, Ok, Err, refl, sym, ap, subst, true≢false, if◌then◌else◌}
use Rattle.mysql_fragments.specs.GivenFragments.{FragmentMap, PlaceFragments, fragments_at, fragments_for, named, with_first}
use Rattle.mysql_fragments.specs.declared.fragment.Item.{Item}
use Rattle.mysql_fragments.specs.declared.fragment.Fragment.{Fragment}
use Rattle.mysql_fragments.specs.declared.fragment.Fragment.TheVariants as one
use Rattle.mysql_bind_core.specs.Contents.{contents_of}
use Rattle.mysql_bind_core.specs.Entries.{Entries, entries_of, pair_said, with_fragment}
use Rattle.mysql_bind_core.specs.RowItems.{RowsSaid, rows_said}
use Rattle.mysql_bind_core.specs.RowsBound.{AreEntriesOf, row_name}
use Rattle.mysql_bind_core.specs.declared.assignment.Assignment.{Assignment}
use Rattle.mysql_bind_core.proofs.FewerRowLemmas.{IsLess, fewer_rows, less_same}
use Rattle.mysql_bind_core.proofs.SameContentLemmas.{AllKnown, all_known, same_fragment}

-- ---- two maps

pub AreLessAt : Option Fragment → Option Fragment → Type 0
AreLessAt None None = ⊤
AreLessAt None (Some g) = ⊥
AreLessAt (Some f) None = ⊥
AreLessAt (Some f) (Some g) = IsLess f g

-- so it is for each name
pub AreLessByName : FragmentMap → FragmentMap → Type 0
AreLessByName m n = (q : List ℕ) → AreLessAt (get m q) (get n q)

both_some : (f g : Option Fragment) → AreLessAt f g → is_some f ≡ is_some g
unfolding AreLessAt
both_some None None h = refl
both_some None (Some g) h = absurd h
both_some (Some f) None h = absurd h
both_some (Some f) (Some g) h = refl

less_if : (b : Bool) (f g : Fragment) (x y : Option Fragment) → IsLess f g → AreLessAt x y → AreLessAt (cond b (Some f) x) (cond b (Some g) y)
unfolding AreLessAt
less_if true f g x y h k = h
less_if false f g x y h k = k

less_with : (m n : FragmentMap) (k : List ℕ) (f g : Fragment) → AreLessByName m n → IsLess f g → AreLessByName (insert m k f) (insert n k g)
unfolding AreLessByName
less_with m n k f g h one q =
    subst (λ o. AreLessAt o (get (insert n k g) q)) (sym (get-insert nat_list_cmp_total m k f q))
    (subst (λ o. AreLessAt (cond (eq_by_cmp (slice_cmp nat_cmp) q k) (Some f) (get m q)) o) (sym (get-insert nat_list_cmp_total n k g q))
    (less_if (eq_by_cmp (slice_cmp nat_cmp) q k) f g (get m q) (get n q) one (h q)))

-- ---- the entries of pairs

-- both are refused for the same name, or both are made
pub AreLessEntries : Entries → Entries → Type 0
AreLessEntries (Ok m) (Ok n) = AreLessByName m n
AreLessEntries (Ok m) (Err b) = ⊥
AreLessEntries (Err a) (Ok n) = ⊥
AreLessEntries (Err a) (Err b) = a ≡ b

less_at : (m n : FragmentMap) → AreLessByName m n → (q : List ℕ) → AreLessAt (get m q) (get n q)
unfolding AreLessByName
less_at m n h = h

less_step : (r s : Entries) (name : List ℕ) (f g : Fragment) → AreLessEntries r s → IsLess f g → AreLessEntries (with_fragment r (name, f)) (with_fragment s (name, g))
unfolding AreLessEntries
less_step (Err a) (Err b) name f g h one = h
less_step (Err a) (Ok n) name f g h one = absurd h
less_step (Ok m) (Err b) name f g h one = absurd h
less_step (Ok m) (Ok n) name f g h one =
    by (contains_key m name) (contains_key n name) (both_some (get m name) (get n name) (less_at m n h name))
  where
    by : (b d : Bool) → b ≡ d → AreLessEntries (if b then Err name else Ok (insert m name f)) (if d then Err name else Ok (insert n name g))
    by true true e = refl
    by true false e = absurd (true≢false e)
    by false true e = absurd (true≢false (sym e))
    by false false e = less_with m n name f g h one

-- pairs that say the same, in their order
AreAlike : List (List ℕ × Fragment) → List (List ℕ × Fragment) → Type 0
AreAlike [] [] = ⊤
AreAlike [] (q ∷ qs) = ⊥
AreAlike (p ∷ ps) [] = ⊥
AreAlike (p ∷ ps) (q ∷ qs) = (p.0 ≡ q.0) × IsLess p.1 q.1 × AreAlike ps qs

less_fold : (r s : Entries) (ps qs : List (List ℕ × Fragment)) → AreLessEntries r s → AreAlike ps qs → AreLessEntries (fold with_fragment r ps) (fold with_fragment s qs)
unfolding AreAlike
less_fold r s [] [] h a = h
less_fold r s [] (q ∷ qs) h a = absurd a
less_fold r s (p ∷ ps) [] h a = absurd a
less_fold r s (p ∷ ps) (q ∷ qs) h a =
    less_fold (with_fragment r p) (with_fragment s q) ps qs
    (subst (λ k. AreLessEntries (with_fragment r p) (with_fragment s (k, q.1))) a.0 (less_step r s p.0 p.1 q.1 h a.1)) a.2

none_at_all : AreLessEntries (Ok finite.empty) (Ok finite.empty)
unfolding AreLessEntries AreLessByName AreLessAt
none_at_all q =
    let nothing : FragmentMap = finite.empty in
    let none : get nothing q ≡ None = get-empty (slice_cmp nat_cmp) q in
    subst (λ (o : Option Fragment). AreLessAt o (get nothing q)) (sym none) (subst (λ (o : Option Fragment). AreLessAt None o) (sym none) tt)

-- ---- the entries of the same assignments, and of fewer rows

alike_pairs : (ps qs : List (List ℕ × Fragment)) → AllKnown (map pair_said ps) → map pair_said ps ≡ map pair_said qs → AreAlike ps qs
unfolding AllKnown AreAlike
alike_pairs [] [] k e = tt
alike_pairs [] (q ∷ qs) k e = cc
alike_pairs (p ∷ ps) [] k e = cc
alike_pairs (p ∷ ps) (q ∷ qs) k e =
    let one_pair : pair_said p ≡ pair_said q = cc in
    let more : map pair_said ps ≡ map pair_said qs = cc in
    (ap (λ z. z.0) one_pair, less_same p.1 q.1 (same_fragment p.1 q.1 k.0 (ap (λ z. z.1) one_pair)), alike_pairs ps qs k.1 more)

pub pairs_less : (fixed : List Assignment) (ps qs : List (List ℕ × Fragment)) → contents_of fixed ≡ Some (map pair_said ps) →
    contents_of fixed ≡ Some (map pair_said qs) → AreLessEntries (entries_of ps) (entries_of qs)
pairs_less fixed ps qs a b =
    let both : Some (map pair_said ps) ≡ Some (map pair_said qs) = sym a ∙ b in
    less_fold (Ok finite.empty) (Ok finite.empty) ps qs none_at_all (alike_pairs ps qs (all_known fixed (map pair_said ps) a) cc)

pub both_made : (m n : FragmentMap) (x y : Entries) → x ≡ Ok m → y ≡ Ok n → AreLessEntries x y → AreLessByName m n
unfolding AreLessEntries
both_made m n x y a b h = subst (λ s. AreLessEntries (Ok m) s) b (subst (λ r. AreLessEntries r y) a h)

module _ (fixed : List Assignment) (rs more : RowsSaid) (some : 0 < length rs) where
  made_less : (ps qs : List (List ℕ × Fragment)) (xs ys : Vec (Vec Item)) → contents_of fixed ≡ Some (map pair_said ps) → contents_of fixed ≡ Some (map pair_said qs) →
      rows_said xs.items ≡ rs → rows_said ys.items ≡ rs ++ more →
      AreLessEntries (with_fragment (entries_of ps) (row_name, one.Rows xs)) (with_fragment (entries_of qs) (row_name, one.Rows ys))
  made_less ps qs xs ys a b c d = less_step (entries_of ps) (entries_of qs) row_name (one.Rows xs) (one.Rows ys) (pairs_less fixed ps qs a b) (fewer_rows xs ys rs more some c d)

  module _ (n : FragmentMap) (y : AreEntriesOf fixed (rs ++ more) n) where
    pub entries_less : (m : FragmentMap) → AreEntriesOf fixed rs m → AreLessByName m n
    entries_less m x =
        both_made m n (with_fragment (entries_of x.pairs) (row_name, one.Rows x.items)) (with_fragment (entries_of y.pairs) (row_name, one.Rows y.items))
        x.entries_are y.entries_are (made_less x.pairs y.pairs x.items y.items x.contents_are y.contents_are x.rows_are y.rows_are)

    -- no name comes twice with fewer rows
    pub none_twice : (ps : List (List ℕ × Fragment)) (xs : Vec (Vec Item)) (name : List ℕ) → contents_of fixed ≡ Some (map pair_said ps) →
        rows_said xs.items ≡ rs → with_fragment (entries_of ps) (row_name, one.Rows xs) ≡ Err name → ⊥
    unfolding AreLessEntries
    none_twice ps xs name a c e =
        subst (λ s. AreLessEntries (Err name) s) y.entries_are (subst (λ r. AreLessEntries r (with_fragment (entries_of y.pairs) (row_name, one.Rows y.items))) e
        (made_less ps y.pairs xs y.items a y.contents_are c y.rows_are))

    pub none_twice_assigned : (ps : List (List ℕ × Fragment)) (name : List ℕ) → contents_of fixed ≡ Some (map pair_said ps) → entries_of ps ≡ Err name → ⊥
    unfolding AreLessEntries
    none_twice_assigned ps name a e = go (entries_of y.pairs) (subst (λ r. AreLessEntries r (entries_of y.pairs)) e (pairs_less fixed ps y.pairs a y.contents_are)) y.entries_are
      where
        go : (made : Entries) → AreLessEntries (Err name) made → with_fragment made (row_name, one.Rows y.items) ≡ Ok n → ⊥
        go (Ok m) h k = h
        go (Err other) h k = cc

-- ---- the fragments for places

unfoldable pub AreLessFragments : List Fragment → List Fragment → Type 0
AreLessFragments [] [] = ⊤
AreLessFragments [] (g ∷ gs) = ⊥
AreLessFragments (f ∷ fs) [] = ⊥
AreLessFragments (f ∷ fs) (g ∷ gs) = IsLess f g × AreLessFragments fs gs

unfoldable pub AreLessPlaces : PlaceFragments → PlaceFragments → Type 0
AreLessPlaces (Ok fs) (Ok gs) = AreLessFragments fs gs
AreLessPlaces (Ok fs) (Err b) = ⊥
AreLessPlaces (Err a) (Ok gs) = ⊥
AreLessPlaces (Err a) (Err b) = a ≡ b

less_first : (name : List ℕ) (f g : Option Fragment) (fs gs : PlaceFragments) → AreLessAt f g → AreLessPlaces fs gs → AreLessPlaces (with_first name f fs) (with_first name g gs)
unfolding AreLessAt AreLessPlaces AreLessFragments
less_first name None None fs gs h k = refl
less_first name None (Some g) fs gs h k = absurd h
less_first name (Some f) None fs gs h k = absurd h
less_first name (Some f) (Some g) (Err a) (Err b) h k = k
less_first name (Some f) (Some g) (Err a) (Ok gs) h k = absurd k
less_first name (Some f) (Some g) (Ok fs) (Err b) h k = absurd k
less_first name (Some f) (Some g) (Ok fs) (Ok gs) h k = (h, k)

less_found : (m n : FragmentMap) → AreLessByName m n → (ns : List (List ℕ)) → AreLessPlaces (fragments_at m ns) (fragments_at n ns)
unfolding AreLessPlaces AreLessFragments
less_found m n h [] = tt
less_found m n h (q ∷ ns) = less_first q (get m q) (get n q) (fragments_at m ns) (fragments_at n ns) (less_at m n h q) (less_found m n h ns)

pub less_places : (m n : FragmentMap) → AreLessByName m n → (ns : List (List ℕ)) → AreLessPlaces (fragments_for (named m) ns) (fragments_for (named n) ns)
unfolding AreLessPlaces
less_places m n h [] = refl
less_places m n h (q ∷ ns) = less_found m n h (q ∷ ns)
