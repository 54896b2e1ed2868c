-- A sorted map stands for the same finite map as a hash map with its entries.
use Rattle.std.proofs.Common.{◌≡◌, ℕ, Bool, List, sym, subst, ◌∙◌}
use Rattle.std.specs.Prelude.{Some}
use Rattle.std.specs.Global.{Vec}
use Rattle.std.specs.Ordering.{nat_cmp, is_eq}
use Rattle.std.specs.Cmp.{unsigned_ties}
use Rattle.std.specs.Cmp.Lexicographic.{slice_cmp, lists_ties}
use Rattle.std.specs.FinMap.{get, insert}
use Rattle.std.specs.Map.{lookup, KeepsOthers}
use Rattle.mysql_value_core.specs.declared.value.Value.{Value}
use Rattle.mysql_params_core.specs.Given.{value_map}
use Rattle.mysql_params_core.proofs.EqualityLemmas.{key_eq}
use Rattle.mysql_params_core.proofs.InsertLemmas.{value_map-insert}
use Rattle.mysql_params_core.proofs.MapLemmas.{get-value_map}

-- the value of a name in the map
pub get-sorted : (es : List (Vec ℕ × Value)) (q : List ℕ) → get (value_map es) q ≡ lookup (λ k. is_eq (slice_cmp nat_cmp q k.items)) es
get-sorted es q = get-value_map es q ∙ (λ i. lookup (λ k. lists_ties nat_cmp unsigned_ties q k.items i) es)

-- two names are equal if their order says so
tied : Vec ℕ → Vec ℕ → Bool
tied x y = is_eq (slice_cmp nat_cmp x.items y.items)

tied-key_eq : tied ≡ key_eq
unfolding tied
tied-key_eq = λ i x y. sym (lists_ties nat_cmp unsigned_ties x.items y.items) i

-- to insert into it is to insert into the finite map
pub sorted-insert : (es fs : List (Vec ℕ × Value)) (k : Vec ℕ) (v : Value) →
    KeepsOthers (λ x y. is_eq (slice_cmp nat_cmp x.items y.items)) (λ y. is_eq (slice_cmp nat_cmp k.items y.items)) es fs →
    lookup (λ y. is_eq (slice_cmp nat_cmp k.items y.items)) fs ≡ Some v →
    value_map fs ≡ insert (value_map es) k.items v
unfolding tied
sorted-insert es fs k v keeps inserted =
    value_map-insert es fs k v
    (subst (λ (E : Vec ℕ → Vec ℕ → Bool). KeepsOthers E (E k) es fs) tied-key_eq keeps)
    (subst (λ (E : Vec ℕ → Vec ℕ → Bool). lookup (E k) fs ≡ Some v) tied-key_eq inserted)
