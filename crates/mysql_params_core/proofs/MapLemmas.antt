-- A finite map that stands for a hash map's entries.
use Rattle.std.proofs.Common.{◌≡◌, ℕ, List, [], ◌∷◌, map, cond, refl, sym, ap, ◌∙◌}
use Rattle.std.specs.Prelude.{None, Option, Some, is_some, nat_eq, option_copied, vec_len}
use Rattle.std.specs.Borrow.{Bor}
use Rattle.std.specs.List.{AllZip, each_same}
use Rattle.std.specs.Global.{Vec}
use Rattle.std.specs.Ordering.{nat_cmp}
use Rattle.std.specs.Cmp.{unsigned_ties}
use Rattle.std.specs.Cmp.Lexicographic.{slice_cmp, pointwise, lists_ties, nat_list_cmp_total}
use Rattle.std.specs.FinMap.{find, get, from_entries, get-from_entries}
use Rattle.std.specs.Map.{lookup}
use Rattle.mysql_value_core.specs.declared.value.Value.{Value}
use Rattle.mysql_params_core.specs.Given.{by_bytes, value_map}

-- a search by the order of the names has the same result as a search by their bytes
find-lookup : (es : List (Vec ℕ × Value)) (q : List ℕ) → find (slice_cmp nat_cmp) q (map by_bytes es) ≡ lookup (λ k. pointwise nat_eq q k.items) es
find-lookup [] q = refl
find-lookup (e ∷ es) q =
    ap (λ b. cond b (Some e.1) (find (slice_cmp nat_cmp) q (map by_bytes es))) (sym (lists_ties nat_cmp unsigned_ties q e.0.items))
    ∙ ap (cond (pointwise nat_eq q e.0.items) (Some e.1)) (find-lookup es q)

-- the value of a name in the map
pub get-value_map : (es : List (Vec ℕ × Value)) (q : List ℕ) → get (value_map es) q ≡ lookup (λ k. pointwise nat_eq q k.items) es
get-value_map es q = get-from_entries nat_list_cmp_total _ q ∙ find-lookup es q

-- the clone of a hash map stands for the same finite map
pub value_map-clone : (es fs : List (Vec ℕ × Value)) → AllZip (λ p q. (AllZip (λ x y. y ≡ x) p.0.items q.0.items × (vec_len q.0 ≡ vec_len p.0)) × (q.1 ≡ p.1)) es fs → value_map fs ≡ value_map es
value_map-clone es fs h = ap from_entries (same es fs h)
  where
    same : (es fs : List (Vec ℕ × Value)) → AllZip (λ p q. (AllZip (λ x y. y ≡ x) p.0.items q.0.items × (vec_len q.0 ≡ vec_len p.0)) × (q.1 ≡ p.1)) es fs
        → map by_bytes fs ≡ map by_bytes es
    same [] [] h = refl
    same [] (f ∷ fs) h = absurd h
    same (e ∷ es) [] h = absurd h
    same (e ∷ es) (f ∷ fs) h = λ i. (each_same e.0.items f.0.items h.0.0.0 i, h.0.1 i) ∷ same es fs h.1 i

-- a value behind a reference is there if its copy is
pub is_some-copied : {X : Type 0} (o : Option (Bor X)) → is_some o ≡ is_some (option_copied o)
is_some-copied None = refl
is_some-copied (Some x) = refl
