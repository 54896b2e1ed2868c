-- Borrowed pairs in a sorted map: the result of a search in it, and that an insertion into it is an
-- insertion into the finite map that it represents.
use Rattle.std.proofs.Common.{◌≡◌, ◌<◌, ◌≤◌, ◌+◌, ℕ, Bool, true, false, cond, List, [], ◌∷◌, length, map, take, drop, get_or, refl, sym, ap, ◌∙◌}
use Rattle.std.specs.Prelude.{Some, None, Ok, Option, fold, is_some}
use Rattle.std.specs.Option.{option_map}
use Rattle.std.specs.Borrow.{Bor}
use Rattle.std.specs.Ordering.{nat_cmp, is_eq}
use Rattle.std.specs.Cmp.{unsigned_ties}
use Rattle.std.specs.Cmp.Lexicographic.{slice_cmp, bytes_decides, lists_ties, nat_list_cmp_total, nat_list_eq_equiv}
use Rattle.std.specs.FinMap.{get, insert, empty, contains_key, get-empty, get-insert, same_map, slice_cmp-IsAntisymmetric, nat_cmp-IsAntisymmetric}
use Rattle.std.specs.Map.{lookup, KeepsOthers}
use Rattle.std.proofs.lemmas.List.{at_drop_more, at_drop_all}
use Rattle.mysql_value_core.specs.declared.value.ValueRef.{ValueRef}
use Rattle.mysql_values.specs.BorrowedValue.{owned}
use Rattle.mysql_params_core.specs.Given.{ValueMap}
use Rattle.mysql_params_core.specs.GivenBorrowed.{pair_map}
use Rattle.mysql_params_core.specs.Made.{with_pair, seen_pair, IsFirstRedefined}
use Rattle.mysql_params_core.proofs.PairLemmas.{made_more, made_no_more, pair_map_more}

owned_cond : (b : Bool) (value : ValueRef) (other : Option ValueRef)
    → option_map owned (cond b (Some value) other) ≡ cond b (Some (owned value)) (option_map owned other)
owned_cond true value other = refl
owned_cond false value other = refl

-- the result of a search by the order of the names
pub get-sorted_pairs : (pairs : List (Bor (List ℕ) × ValueRef)) (q : List ℕ)
    → get (pair_map pairs) q ≡ option_map owned (lookup (λ k. is_eq (slice_cmp nat_cmp q k.now)) pairs)
get-sorted_pairs [] q = get-empty (slice_cmp nat_cmp) q
get-sorted_pairs (pair ∷ pairs) q =
    get-insert nat_list_cmp_total (pair_map pairs) pair.0.now (owned pair.1) q
    ∙ ap (cond (is_eq (slice_cmp nat_cmp q pair.0.now)) (Some (owned pair.1))) (get-sorted_pairs pairs q)
    ∙ sym (owned_cond (is_eq (slice_cmp nat_cmp q pair.0.now)) pair.1 (lookup (λ k. is_eq (slice_cmp nat_cmp q k.now)) pairs))

-- two names are equal if their order says so
abbrev pub tied : List ℕ → Bor (List ℕ) → Bool
tied q x = is_eq (slice_cmp nat_cmp q x.now)

abbrev pub by_order : Bor (List ℕ) → Bor (List ℕ) → Bool
by_order x y = is_eq (slice_cmp nat_cmp x.now y.now)

module _ {X : Type 0} (es fs : List (Bor (List ℕ) × X)) (k : Bor (List ℕ)) (v : X)
    (keeps : KeepsOthers by_order (by_order k) es fs) (inserted : lookup (by_order k) fs ≡ Some v) where
  lookup-other : (q : List ℕ) → tied q k ≡ false → lookup (tied q) fs ≡ lookup (tied q) es
  unfolding KeepsOthers
  lookup-other q apart =
      keeps (tied q)
      (λ x y t. sym (lists_ties nat_cmp unsigned_ties q y.now)
      ∙ nat_list_eq_equiv.congr q x.now y.now (lists_ties nat_cmp unsigned_ties q x.now ∙ t)
      ∙ lists_ties nat_cmp unsigned_ties x.now y.now)
      (λ x t. ap (λ bs. is_eq (slice_cmp nat_cmp q bs))
      (sym ((bytes_decides k.now x.now).0 (lists_ties nat_cmp unsigned_ties k.now x.now ∙ t))) ∙ apart)

  pub lookup-either : (q : List ℕ) (b : Bool) → tied q k ≡ b
      → lookup (tied q) fs ≡ cond b (Some v) (lookup (tied q) es)
  lookup-either q true e =
      ap (λ bs. lookup (λ (x : Bor (List ℕ)). is_eq (slice_cmp nat_cmp bs x.now)) fs)
      ((bytes_decides q k.now).0 (lists_ties nat_cmp unsigned_ties q k.now ∙ e)) ∙ inserted
  lookup-either q false e = lookup-other q e

module _ (es fs : List (Bor (List ℕ) × ValueRef)) (k : Bor (List ℕ)) (v : ValueRef)
    (keeps : KeepsOthers by_order (by_order k) es fs) (inserted : lookup (by_order k) fs ≡ Some v) where
  owned_either : (b : Bool) (o : Option ValueRef)
      → option_map owned (cond b (Some v) o) ≡ cond b (Some (owned v)) (option_map owned o)
  owned_either true o = refl
  owned_either false o = refl

  pub pair_map-insert : pair_map fs ≡ insert (pair_map es) k.now (owned v)
  pair_map-insert = same_map nat_list_cmp_total (slice_cmp-IsAntisymmetric nat_cmp-IsAntisymmetric) _ _ (λ q.
      get-sorted_pairs fs q
      ∙ ap (option_map owned) (lookup-either es fs k v keeps inserted q (tied q k) refl)
      ∙ owned_either (tied q k) (lookup (tied q) es)
      ∙ ap (cond (tied q k) (Some (owned v))) (sym (get-sorted_pairs es q))
      ∙ sym (get-insert nat_list_cmp_total (pair_map es) k.now (owned v) q))

-- the value that an insert replaces, if it has one, is that of the name
some_owned : (o : Option ValueRef) → is_some (option_map owned o) ≡ is_some o
some_owned (Some value) = refl
some_owned None = refl

pub asked_of_insert : (entries : List (Bor (List ℕ) × ValueRef)) (name : Bor (List ℕ)) (old : Option ValueRef)
    → old ≡ lookup (by_order name) entries → contains_key (pair_map entries) name.now ≡ is_some old
asked_of_insert entries name old is =
    ap is_some (get-sorted_pairs entries name.now) ∙ some_owned (lookup (by_order name) entries) ∙ ap is_some (sym is)

-- ---- a walk that inserts each pair

-- the map of the pairs so far, all of which have different names
abbrev pub IsDistinctSoFar : List (Bor (List ℕ) × ValueRef) → ℕ → List (Bor (List ℕ) × ValueRef) → Type 0
IsDistinctSoFar pairs i entries =
    (fold with_pair (Ok empty) (take i (map seen_pair pairs)) ≡ Ok (pair_map (take i pairs)))
    × (pair_map entries ≡ pair_map (take i pairs))

module _ (pairs : List (Bor (List ℕ) × ValueRef)) (i : ℕ) (d : Bor (List ℕ) × ValueRef)
    (below : i < length pairs) (entries : List (Bor (List ℕ) × ValueRef))
    (so_far : IsDistinctSoFar pairs i entries) where
  asked_of : (b : Bool) → contains_key (pair_map entries) (get_or pairs i d).0.now ≡ b
      → contains_key (pair_map (take i pairs)) (get_or pairs i d).0.now ≡ b
  asked_of b e = ap (λ m. contains_key m (get_or pairs i d).0.now) (sym so_far.1) ∙ e

  pub redefined_here : contains_key (pair_map entries) (get_or pairs i d).0.now ≡ true → IsFirstRedefined pairs i
  redefined_here old = made_no_more pairs i d below so_far.0 (asked_of true old)

  pub distinct_more : contains_key (pair_map entries) (get_or pairs i d).0.now ≡ false
      → (after : List (Bor (List ℕ) × ValueRef))
      → pair_map after ≡ insert (pair_map entries) (get_or pairs i d).0.now (owned (get_or pairs i d).1)
      → IsDistinctSoFar pairs (i + 1) after
  distinct_more new after inserted = (
    made_more pairs i d below so_far.0 (asked_of false new),
    inserted
        ∙ ap (λ m. insert m (get_or pairs i d).0.now (owned (get_or pairs i d).1)) so_far.1
        ∙ pair_map_more pairs i d below so_far.0 (asked_of false new),
  )

-- the pairs from an index on, inserted after those behind them
pub inserted_before : (pairs : List (Bor (List ℕ) × ValueRef)) (i : ℕ) (d : Bor (List ℕ) × ValueRef)
    → i < length pairs → (m n : ValueMap) → m ≡ pair_map (drop (i + 1) pairs)
    → n ≡ insert m (get_or pairs i d).0.now (owned (get_or pairs i d).1) → n ≡ pair_map (drop i pairs)
inserted_before pairs i d below m n so_far inserted =
    inserted
    ∙ ap (λ x. insert x (get_or pairs i d).0.now (owned (get_or pairs i d).1)) so_far
    ∙ sym (at_drop_more (λ ps. pair_map ps) pairs i d below)

-- no pairs are inserted yet
pub inserted_none : (pairs : List (Bor (List ℕ) × ValueRef)) (i : ℕ) → length pairs ≤ i
    → pair_map [] ≡ pair_map (drop i pairs)
inserted_none pairs i done = sym (at_drop_all (λ ps. pair_map ps) pairs i done)
