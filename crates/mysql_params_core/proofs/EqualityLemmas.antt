-- Parameters are equal if and only if the values that they give are equal.
use Rattle.std.proofs.Common.{◌≡◌, ℕ, Bool, true, List, refl, sym, ap, subst, ◌∙◌, rules}
use Rattle.std.specs.Prelude.{Option, Some, None, nat_eq}
use Rattle.std.specs.Bool.{Decides}
use Rattle.std.specs.Global.{Vec}
use Rattle.std.specs.Cmp.Lexicographic.{pointwise, pointwise_decides, bytes_decides, nat_list_cmp_total, nat_list_eq_equiv}
use Rattle.std.specs.FinMap.{get, same_map, slice_cmp-IsAntisymmetric, nat_cmp-IsAntisymmetric}
use Rattle.std.specs.HashMap.{HashMap, hash_map_eq}
use Rattle.std.specs.HashMap as hash
use Rattle.std.specs.Map.{lookup}
use Rattle.std.proofs.lemmas.Cmp.{on_equiv}
use Rattle.std.proofs.lemmas.Map.Entries.{place_from_lookup}
use Rattle.std.proofs.lemmas.Map.Lookups.{hash_map_eq-Decides}
use Rattle.mysql_value_core.specs.declared.value.Value.{Value}
use Rattle.mysql_value_core.specs.contracts.value.ValuePartialEq.TheImpl as value_impl
use Rattle.mysql_params_core.specs.Given.{value_map, given, named, positional}
use Rattle.mysql_params_core.specs.declared.params.Params.{Params}
use Rattle.mysql_params_core.specs.declared.params.Params.TheVariants.{Empty, Named, Positional}
use Rattle.mysql_params_core.specs.contracts.params.ParamsPartialEq.TheImpl as params_impl
use Rattle.mysql_params_core.proofs.MapLemmas.{get-value_map}

-- `==` of two values
abbrev pub value_eq : Value → Value → Bool
value_eq = (value_impl.ghosts).eq

pub value_eq-Decides : (a b : Value) → Decides (value_eq a b) (a ≡ b)
value_eq-Decides a b = search rules

pub values_eq-Decides : (vs ws : List Value) → Decides (pointwise value_eq vs ws) (vs ≡ ws)
values_eq-Decides vs ws = pointwise_decides value_eq-Decides vs ws

-- the key has these bytes
abbrev pub has_bytes : List ℕ → Vec ℕ → Bool
has_bytes q k = pointwise nat_eq q k.items

-- `==` of two keys
abbrev pub key_eq : Vec ℕ → Vec ℕ → Bool
key_eq x y = pointwise nat_eq x.items y.items

module _ (es fs : List (Vec ℕ × Value)) where
  -- maps that agree at each key agree at all bytes
  module _ (h : (k : Vec ℕ) → lookup (key_eq k) es ≡ lookup (key_eq k) fs) where
    from_key : (q : List ℕ) (k : Vec ℕ) → has_bytes q k ≡ true
        → lookup (has_bytes q) es ≡ lookup (has_bytes q) fs
    from_key q k t =
        subst (λ (bs : List ℕ). lookup (has_bytes bs) es ≡ lookup (has_bytes bs) fs)
        (sym ((bytes_decides q k.items).0 t)) (h k)

    at_bytes : (q : List ℕ) (a b : Option Value) → lookup (has_bytes q) es ≡ a
        → lookup (has_bytes q) fs ≡ b → lookup (has_bytes q) es ≡ lookup (has_bytes q) fs
    at_bytes q None None e f = e ∙ sym f
    at_bytes q (Some v) b e f = let p = place_from_lookup (has_bytes q) es v e in from_key q p.1 p.3
    at_bytes q None (Some w) e f = let p = place_from_lookup (has_bytes q) fs w f in from_key q p.1 p.3

    same_value_map : value_map es ≡ value_map fs
    same_value_map =
        same_map nat_list_cmp_total (slice_cmp-IsAntisymmetric nat_cmp-IsAntisymmetric) _ _
        (λ q. get-value_map es q
        ∙ at_bytes q (lookup (has_bytes q) es) (lookup (has_bytes q) fs) refl refl
        ∙ sym (get-value_map fs q))

  same_lookups : value_map es ≡ value_map fs → (k : Vec ℕ) → lookup (key_eq k) es ≡ lookup (key_eq k) fs
  same_lookups e k =
      sym (get-value_map es k.items) ∙ ap (λ m. get m k.items) e ∙ get-value_map fs k.items

pub hash_maps_eq-Decides : {S : Type 0} (m n : HashMap (Vec ℕ) Value S)
    → Decides (hash_map_eq key_eq value_eq m n) (value_map m.entries ≡ value_map n.entries)
hash_maps_eq-Decides m n =
    let by_key : Decides (hash_map_eq key_eq value_eq m n) ((k : Vec ℕ) → hash.get key_eq m k ≡ hash.get key_eq n k) =
    hash_map_eq-Decides (on_equiv (λ x. x.items) nat_list_eq_equiv) value_eq-Decides m n (hash_map_eq key_eq value_eq m n) refl in (
      λ t. same_value_map m.entries n.entries (by_key.0 t),
      λ s. by_key.1 (same_lookups m.entries n.entries s),
    )

-- `==` of parameters
abbrev pub params_eq : Params → Params → Bool
params_eq = (params_impl.ghosts).eq

pub params_eq-Decides : (a b : Params) → Decides (params_eq a b) (given a ≡ given b)
params_eq-Decides Empty Empty = (λ t. refl, λ e. refl)
params_eq-Decides Empty (Named n) = (λ t. cc, λ e. cc)
params_eq-Decides Empty (Positional ws) = (λ t. cc, λ e. cc)
params_eq-Decides (Named m) Empty = (λ t. cc, λ e. cc)
params_eq-Decides (Named m) (Named n) =
    let maps = hash_maps_eq-Decides m n in
    (λ t. ap named (maps.0 t), λ e. let same : value_map m.entries ≡ value_map n.entries = cc in maps.1 same)
params_eq-Decides (Named m) (Positional ws) = (λ t. cc, λ e. cc)
params_eq-Decides (Positional vs) Empty = (λ t. cc, λ e. cc)
params_eq-Decides (Positional vs) (Named n) = (λ t. cc, λ e. cc)
params_eq-Decides (Positional vs) (Positional ws) =
    let lists = values_eq-Decides vs.items ws.items in
    (λ t. ap positional (lists.0 t), λ e. let same : vs.items ≡ ws.items = cc in lists.1 same)
