-- An insertion into a hash map of fragments is an insertion into its finite map.
use Rattle.std.proofs.Common.{◌≡◌, ℕ, cond, List, refl, sym, ap, ◌∙◌}
use Rattle.std.specs.Prelude.{Some}
use Rattle.std.specs.Global.{Vec}
use Rattle.std.specs.Ordering.{nat_cmp, eq_by_cmp}
use Rattle.std.specs.Cmp.{unsigned_ties}
use Rattle.std.specs.Cmp.Lexicographic.{slice_cmp, lists_ties, nat_list_cmp_total}
use Rattle.std.specs.FinMap.{insert, get-insert, same_map, slice_cmp-IsAntisymmetric, nat_cmp-IsAntisymmetric}
use Rattle.std.specs.Map.{lookup, KeepsOthers}
use Rattle.mysql_params_core.proofs.EqualityLemmas.{has_bytes, key_eq}
use Rattle.mysql_fragments.specs.declared.fragment.Fragment.{Fragment}
use Rattle.mysql_fragments.specs.GivenFragments.{fragment_map}
use Rattle.mysql_fragments.proofs.PlaceLemmas.{get-fragment_map}
use Rattle.mysql_params_core.proofs.InsertLemmas.{lookup-bytes}

module _ (es fs : List (Vec ℕ × Fragment)) (k : Vec ℕ) (v : Fragment) (keeps : KeepsOthers key_eq (key_eq k) es fs) (inserted : lookup (key_eq k) fs ≡ Some v) where
  pub fragment_map-insert : fragment_map fs ≡ insert (fragment_map es) k.items v
  fragment_map-insert = same_map nat_list_cmp_total (slice_cmp-IsAntisymmetric nat_cmp-IsAntisymmetric) _ _ (λ q.
      get-fragment_map fs q ∙ lookup-bytes es fs k v keeps inserted q (has_bytes q k) refl
      ∙ ap (λ b. cond b (Some v) (lookup (has_bytes q) es)) (lists_ties nat_cmp unsigned_ties q k.items)
      ∙ ap (cond (eq_by_cmp (slice_cmp nat_cmp) q k.items) (Some v)) (sym (get-fragment_map es q))
      ∙ sym (get-insert nat_list_cmp_total (fragment_map es) k.items v q))
