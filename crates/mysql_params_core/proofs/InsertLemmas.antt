-- An insertion into a hash map is an insertion into the finite map that it represents: the result
-- of a search by a name after it, and that of values.
use Rattle.std.proofs.Common.{◌≡◌, ℕ, Bool, true, false, cond, List, refl, sym, ap, ◌∙◌}
use Rattle.std.specs.Prelude.{Some, nat_eq}
use Rattle.std.specs.Global.{Vec}
use Rattle.std.specs.Ordering.{nat_cmp, eq_by_cmp}
use Rattle.std.specs.Cmp.{unsigned_ties}
use Rattle.std.specs.Cmp.Lexicographic.{slice_cmp, pointwise, bytes_decides, lists_ties, nat_list_cmp_total, nat_list_eq_equiv}
use Rattle.std.specs.FinMap.{insert, get-insert, same_map, slice_cmp-IsAntisymmetric, nat_cmp-IsAntisymmetric}
use Rattle.std.specs.Map.{lookup, KeepsOthers}
use Rattle.mysql_value_core.specs.declared.value.Value.{Value}
use Rattle.mysql_params_core.specs.Given.{value_map}
use Rattle.mysql_params_core.proofs.MapLemmas.{get-value_map}
use Rattle.mysql_params_core.proofs.EqualityLemmas.{has_bytes, key_eq}

module _ {X : Type 0} (es fs : List (Vec ℕ × X)) (k : Vec ℕ) (v : X) (keeps : KeepsOthers key_eq (key_eq k) es fs) (inserted : lookup (key_eq k) fs ≡ Some v) where
  lookup-other : (q : List ℕ) → has_bytes q k ≡ false → lookup (has_bytes q) fs ≡ lookup (has_bytes q) es
  unfolding KeepsOthers
  lookup-other q apart =
      keeps (has_bytes q) (λ x y t. nat_list_eq_equiv.congr q x.items y.items t)
      (λ x t. ap (pointwise nat_eq q) (sym ((bytes_decides k.items x.items).0 t)) ∙ apart)

  pub lookup-bytes : (q : List ℕ) (b : Bool) → has_bytes q k ≡ b → lookup (has_bytes q) fs ≡ cond b (Some v) (lookup (has_bytes q) es)
  lookup-bytes q true e = ap (λ bs. lookup (λ (x : Vec ℕ). pointwise nat_eq bs x.items) fs) ((bytes_decides q k.items).0 e) ∙ inserted
  lookup-bytes q false e = lookup-other q e

module _ (es fs : List (Vec ℕ × Value)) (k : Vec ℕ) (v : Value) (keeps : KeepsOthers key_eq (key_eq k) es fs) (inserted : lookup (key_eq k) fs ≡ Some v) where
  pub value_map-insert : value_map fs ≡ insert (value_map es) k.items v
  value_map-insert = same_map nat_list_cmp_total (slice_cmp-IsAntisymmetric nat_cmp-IsAntisymmetric) _ _ (λ q.
      get-value_map fs q ∙ lookup-bytes es fs k v keeps inserted q (has_bytes q k) refl
      ∙ ap (λ b. cond b (Some v) (lookup (has_bytes q) es)) (lists_ties nat_cmp unsigned_ties q k.items)
      ∙ ap (cond (eq_by_cmp (slice_cmp nat_cmp) q k.items) (Some v)) (sym (get-value_map es q))
      ∙ sym (get-insert nat_list_cmp_total (value_map es) k.items v q))
