-- Borrowed pairs: the result of a search in them, and that distinct pairs make the map that they
-- represent.
use Rattle.std.proofs.Common.{◌≡◌, ◌<◌, ◌≤◌, ◌+◌, ◌++◌, ℕ, true, false, List, [], ◌∷◌, length, map, take, drop, get_or, cond, refl, sym, ap, ◌∙◌}
use Rattle.std.specs.Prelude.{Some, None, Ok, Err, Option, is_some, nat_eq, fold}
use Rattle.std.specs.Borrow.{Bor}
use Rattle.std.specs.Ordering.{nat_cmp}
use Rattle.std.specs.Cmp.{unsigned_ties}
use Rattle.std.specs.Cmp.Lexicographic.{slice_cmp, pointwise, lists_ties, nat_list_cmp_total}
use Rattle.std.specs.FinMap as finite
use Rattle.std.specs.FinMap.{get, contains_key, get-empty, get-insert, get-from_entries, from_entries, from_entries_push, slice_cmp-IsAntisymmetric, nat_cmp-IsAntisymmetric}
use Rattle.std.proofs.lemmas.List.{at_drop_more, at_drop_all, take_more, map-append, get_or_default, get_or-map}
use Rattle.std.proofs.lemmas.Option.{slice_get-get_or}
use Rattle.mysql_value_core.specs.declared.value.Value.TheVariants.{NULL}
use Rattle.mysql_value_core.specs.declared.value.ValueRef.{ValueRef}
use Rattle.mysql_values.specs.BorrowedValue.{owned}
use Rattle.mysql_params_core.specs.Given.{named}
use Rattle.mysql_params_core.specs.GivenBorrowed.{by_borrowed, pair_map, pair_value}
use Rattle.mysql_params_core.specs.Made.{with_pair, by_name, seen_pair, redefined, IsFirstRedefined}
use Rattle.mysql_params_core.proofs.MakingLemmas.{fold-take-next, fold-refused_at}

-- the value of a name in the first pair and those after it
get-pair : (pair : Bor (List ℕ) × ValueRef) (pairs : List (Bor (List ℕ) × ValueRef)) (q : List ℕ)
    → get (pair_map (pair ∷ pairs)) q
    ≡ cond (pointwise nat_eq q pair.0.now) (Some (owned pair.1)) (get (pair_map pairs) q)
get-pair pair pairs q =
    get-insert nat_list_cmp_total (pair_map pairs) pair.0.now (owned pair.1) q
    ∙ ap (λ b. cond b (Some (owned pair.1)) (get (pair_map pairs) q))
    (sym (lists_ties nat_cmp unsigned_ties q pair.0.now))

-- the value of a name in the pairs from an index on
module _ (pairs : List (Bor (List ℕ) × ValueRef)) (i : ℕ) (d : Bor (List ℕ) × ValueRef) (q : List ℕ)
    (below : i < length pairs) where
  get-pairs_from : get (pair_map (drop i pairs)) q
      ≡ cond (pointwise nat_eq q (get_or pairs i d).0.now) (Some (owned (get_or pairs i d).1))
      (get (pair_map (drop (i + 1) pairs)) q)
  get-pairs_from =
      at_drop_more (λ ps. get (pair_map ps) q) pairs i d below
      ∙ get-pair (get_or pairs i d) (drop (i + 1) pairs) q

  -- the value of the pair at the index, if it has this name
  pub get-pair_at : pointwise nat_eq q (get_or pairs i d).0.now ≡ true
      → get (pair_map (drop i pairs)) q ≡ Some (owned (get_or pairs i d).1)
  get-pair_at same =
      get-pairs_from
      ∙ ap (λ b. cond b (Some (owned (get_or pairs i d).1)) (get (pair_map (drop (i + 1) pairs)) q)) same

  -- the value of a name in those after it, otherwise
  pub get-pairs_after : pointwise nat_eq q (get_or pairs i d).0.now ≡ false
      → get (pair_map (drop i pairs)) q ≡ get (pair_map (drop (i + 1) pairs)) q
  get-pairs_after other =
      get-pairs_from
      ∙ ap (λ b. cond b (Some (owned (get_or pairs i d).1)) (get (pair_map (drop (i + 1) pairs)) q)) other

-- the value of the pair at an index
pub value_at : (pairs : List (Bor (List ℕ) × ValueRef)) (i : ℕ) (d : Bor (List ℕ) × ValueRef) → i < length pairs
    → pair_value pairs i ≡ owned (get_or pairs i d).1
value_at pairs i d below = get_or-map (λ pair. owned pair.1) pairs i d NULL below

-- no pairs have nothing
pub get-no_pairs : (pairs : List (Bor (List ℕ) × ValueRef)) (i : ℕ) (q : List ℕ) → length pairs ≤ i
    → get (pair_map (drop i pairs)) q ≡ None
get-no_pairs pairs i q done =
    at_drop_all (λ ps. get (pair_map ps) q) pairs i done ∙ get-empty (slice_cmp nat_cmp) q

-- ---- the map that pairs make

none_of : {A : Type 0} (o : Option A) → is_some o ≡ false → o ≡ None
none_of None h = refl
none_of (Some a) h = cc

-- a pair with a new name goes to the end
pub pair_map-push : (pairs : List (Bor (List ℕ) × ValueRef)) (pair : Bor (List ℕ) × ValueRef)
    → contains_key (pair_map pairs) pair.0.now ≡ false
    → pair_map (pairs ++ pair ∷ []) ≡ finite.insert (pair_map pairs) pair.0.now (owned pair.1)
pair_map-push pairs pair new =
    ap from_entries (map-append by_borrowed pairs (pair ∷ []))
    ∙ from_entries_push nat_list_cmp_total (slice_cmp-IsAntisymmetric nat_cmp-IsAntisymmetric)
    (map by_borrowed pairs) pair.0.now (owned pair.1)
    (sym (get-from_entries nat_list_cmp_total (map by_borrowed pairs) pair.0.now) ∙ none_of _ new)

module _ (pairs : List (Bor (List ℕ) × ValueRef)) (i : ℕ) (d : Bor (List ℕ) × ValueRef)
    (below : i < length pairs)
    (before : fold with_pair (Ok finite.empty) (take i (map seen_pair pairs)) ≡ Ok (pair_map (take i pairs))) where
  pair : Bor (List ℕ) × ValueRef
  pair = get_or pairs i d

  is : pair ≡ get_or pairs i pair
  unfolding pair
  is = get_or_default pairs i d (get_or pairs i d) below

  -- the map with a pair whose name is new
  pub pair_map_more : contains_key (pair_map (take i pairs)) (get_or pairs i d).0.now ≡ false
      → finite.insert (pair_map (take i pairs)) (get_or pairs i d).0.now (owned (get_or pairs i d).1)
      ≡ pair_map (take (i + 1) pairs)
  unfolding pair
  pair_map_more new =
      sym (ap pair_map (take_more pairs i d below) ∙ pair_map-push (take i pairs) pair new)

  -- a pair whose name is new
  pub made_more : contains_key (pair_map (take i pairs)) (get_or pairs i d).0.now ≡ false
      → fold with_pair (Ok finite.empty) (take (i + 1) (map seen_pair pairs))
      ≡ Ok (pair_map (take (i + 1) pairs))
  unfolding pair is
  made_more new =
      let here : with_pair (Ok (pair_map (take i pairs))) (seen_pair pair)
      ≡ Ok (finite.insert (pair_map (take i pairs)) pair.0.now (owned pair.1)) = rw new refl in
      fold-take-next with_pair (λ _ _. refl) (Ok finite.empty) seen_pair pairs i pair below is
      (Ok (pair_map (take i pairs))) before
      ∙ here
      ∙ ap (λ m. Ok m) (pair_map_more new)

  -- a pair whose name is not new
  pub made_no_more : contains_key (pair_map (take i pairs)) (get_or pairs i d).0.now ≡ true
      → IsFirstRedefined pairs i
  unfolding pair is
  made_no_more old =
      let here : with_pair (Ok (pair_map (take i pairs))) (seen_pair pair)
      ≡ Err (redefined pair.0.now) = rw old refl in record {
        pair = pair;
        stands = slice_get-get_or pairs i d below;
        earlier = named (pair_map (take i pairs));
        made = ap by_name before;
        with_it = ap by_name (fold-take-next with_pair (λ _ _. refl) (Ok finite.empty) seen_pair pairs i pair below is
            (Ok (pair_map (take i pairs))) before ∙ here);
        refused = ap by_name (fold-refused_at with_pair (λ _ _. refl) (Ok finite.empty) seen_pair pairs i pair below is
            (Ok (pair_map (take i pairs))) (redefined pair.0.now) before here);
      }
