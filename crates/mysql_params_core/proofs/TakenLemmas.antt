-- The walk that takes values out of a map: each is still in the map, or in the list, at the index that
-- is kept for its name.
use Rattle.std.proofs.Common.{◌≡◌, ◌<◌, ◌+◌, ℕ, zero, suc, Bool, true, false, cond, List, [], ◌∷◌, ◌++◌, length, map, take, get_or, refl, sym, ap, ◌∙◌, arith, length-append}
use Rattle.std.specs.Prelude.{Option, Some, None, nat_eq, slice_get}
use Rattle.std.specs.Global.{Vec}
use Rattle.std.specs.Cmp.Lexicographic.{pointwise, bytes_decides}
use Rattle.std.specs.Map.{lookup}
use Rattle.std.specs.FinMap.{get}
use Rattle.std.proofs.lemmas.Option.{slice_get-get_or}
use Rattle.mysql_value_core.specs.declared.value.Value.{Value}
use Rattle.mysql_params_core.specs.Given.{value_map}
use Rattle.mysql_params_core.specs.Names.{names_of}
use Rattle.mysql_params_core.proofs.EqualityLemmas.{has_bytes, key_eq}
use Rattle.mysql_params_core.proofs.MapLemmas.{get-value_map}
use Rattle.mysql_params_core.proofs.WalkLemmas.{values_step}

-- the value that the map had at a name is still in it, or in the list, at the index of the name
abbrev pub IsTaken : Option Value → Option Value → Option ℕ → List Value → Type 0
IsTaken had left None values = left ≡ had
IsTaken had left (Some index) values =
    (left ≡ None) × (index < length values) × (slice_get values index ≡ had)

-- this holds for each name
abbrev pub AreTaken : List (Vec ℕ × Value) → List (Vec ℕ × Value) → List (Vec ℕ × ℕ) → List Value → Type 0
AreTaken had left indices values = (name : Vec ℕ) →
    IsTaken (lookup (key_eq name) had) (lookup (key_eq name) left) (lookup (key_eq name) indices) values

slice_get-append-below : {X : Type 0} (xs : List X) (i : ℕ) (x : X) → i < length xs → slice_get (xs ++ x ∷ []) i ≡ slice_get xs i
slice_get-append-below [] i x h = absurd (omega arith)
slice_get-append-below (y ∷ xs) zero x h = refl
slice_get-append-below (y ∷ xs) (suc i) x h = slice_get-append-below xs i x (omega arith)

slice_get-append-length : {X : Type 0} (xs : List X) (x : X) → slice_get (xs ++ x ∷ []) (length xs) ≡ Some x
slice_get-append-length [] x = refl
slice_get-append-length (y ∷ xs) x = slice_get-append-length xs x

-- one more value at the end changes no index
IsTaken-push : (had left : Option Value) (index : Option ℕ) (vs : List Value) (v : Value)
    → IsTaken had left index vs → IsTaken had left index (vs ++ v ∷ [])
IsTaken-push had left None vs v taken = taken
IsTaken-push had left (Some p) vs v (gone, below, stands) =
    (gone, omega (arith, length-append vs (v ∷ []), below), slice_get-append-below vs p v below ∙ stands)

module _ (had left : List (Vec ℕ × Value)) (indices : List (Vec ℕ × ℕ)) (vs : List Value) (taken : AreTaken had left indices vs) where
  pub AreTaken-push : (v : Value) → AreTaken had left indices (vs ++ v ∷ [])
  AreTaken-push v q = IsTaken-push _ _ (lookup (key_eq q) indices) vs v (taken q)

  module _ (n : Vec ℕ) where
    -- a value that is still in the map is the one that the map had
    pub was_left : (v : Value) → lookup (key_eq n) left ≡ Some v → lookup (key_eq n) had ≡ Some v
    was_left v there = by_index (lookup (key_eq n) indices) (taken n)
      where
        by_index : (index : Option ℕ) → IsTaken (lookup (key_eq n) had) (lookup (key_eq n) left) index vs → lookup (key_eq n) had ≡ Some v
        by_index None same = sym same ∙ there
        by_index (Some p) (gone, below, stands) = cc

    module _ (p : ℕ) (at : lookup (key_eq n) indices ≡ Some p) where
      stands_at : IsTaken (lookup (key_eq n) had) (lookup (key_eq n) left) (Some p) vs
      stands_at = rw at at (taken n)

      pub index_below : p < length vs
      index_below = stands_at.1

      -- a value at an index is the one that the map had
      pub was_placed : (d : Value) → lookup (key_eq n) had ≡ Some (get_or vs p d)
      was_placed d = sym stands_at.2 ∙ slice_get-get_or vs p d index_below

    -- a name that is neither in the map nor has an index was never in it
    pub was_nowhere : lookup (key_eq n) left ≡ None → lookup (key_eq n) indices ≡ None → lookup (key_eq n) had ≡ None
    was_nowhere gone no_index = by_index (lookup (key_eq n) indices) no_index (taken n)
      where
        by_index : (index : Option ℕ) → index ≡ None → IsTaken (lookup (key_eq n) had) (lookup (key_eq n) left) index vs → lookup (key_eq n) had ≡ None
        by_index None e same = sym same ∙ gone
        by_index (Some p) e same = cc

    -- the value is taken out, and its name gets the next index
    module _ (key : Vec ℕ) (v : Value) (same : key_eq n key ≡ true) (there : lookup (key_eq n) left ≡ Some v)
        (left' : List (Vec ℕ × Value)) (indices' : List (Vec ℕ × ℕ))
        (removed : (q : Vec ℕ) → lookup (key_eq q) left' ≡ cond (key_eq n q) None (lookup (key_eq q) left))
        (inserted : (q : Vec ℕ) → lookup (key_eq q) indices' ≡ cond (key_eq key q) (Some (length vs)) (lookup (key_eq q) indices)) where
      same_bytes : n.items ≡ key.items
      same_bytes = (bytes_decides n.items key.items).0 same

      inserted_at : (q : Vec ℕ) → lookup (key_eq q) indices' ≡ cond (key_eq n q) (Some (length vs)) (lookup (key_eq q) indices)
      inserted_at q = inserted q ∙ ap (λ bs. cond (pointwise nat_eq bs q.items) (Some (length vs)) (lookup (key_eq q) indices)) (sym same_bytes)

      had_at : (q : Vec ℕ) → key_eq n q ≡ true → lookup (key_eq q) had ≡ Some v
      had_at q e = ap (λ bs. lookup (has_bytes bs) had) (sym ((bytes_decides n.items q.items).0 e)) ∙ was_left v there

      pub taken_out : AreTaken had left' indices' (vs ++ v ∷ [])
      taken_out q = by_key (key_eq n q) refl (removed q) (inserted_at q)
        where
          by_key : (b : Bool) → key_eq n q ≡ b → lookup (key_eq q) left' ≡ cond b None (lookup (key_eq q) left)
              → lookup (key_eq q) indices' ≡ cond b (Some (length vs)) (lookup (key_eq q) indices)
              → IsTaken (lookup (key_eq q) had) (lookup (key_eq q) left') (lookup (key_eq q) indices') (vs ++ v ∷ [])
          by_key true e gone placed = rw placed (gone, omega (arith, length-append vs (v ∷ [])), slice_get-append-length vs v ∙ sym (had_at q e))
          by_key false e kept placed = rw (placed, kept) (IsTaken-push _ _ (lookup (key_eq q) indices) vs v (taken q))

-- the walk so far: the values of the names, and the index of each
pub record IsWalked (had left : List (Vec ℕ × Value)) (indices : List (Vec ℕ × ℕ)) (vs : List Value) (ns : List (Vec ℕ)) (i : ℕ) : Type 0 where
  pub so_far : map (get (value_map had)) (take i (names_of ns)) ≡ map (λ x. Some x) vs
  pub taken : AreTaken had left indices vs

module _ (had left : List (Vec ℕ × Value)) (indices : List (Vec ℕ × ℕ)) (vs : List Value)
    (ns : List (Vec ℕ)) (i : ℕ) (n : Vec ℕ) (below : i < length ns) (is : n ≡ get_or ns i n)
    (so_far : map (get (value_map had)) (take i (names_of ns)) ≡ map (λ x. Some x) vs)
    (taken : AreTaken had left indices vs) where
  -- a name at its first index
  pub taken_step : (key : Vec ℕ) (v : Value) → key_eq n key ≡ true → lookup (key_eq n) left ≡ Some v
      → (left' : List (Vec ℕ × Value)) (indices' : List (Vec ℕ × ℕ)) (count : ℕ) → count ≡ length vs
      → ((q : Vec ℕ) → lookup (key_eq q) left' ≡ cond (key_eq n q) None (lookup (key_eq q) left))
      → ((q : Vec ℕ) → lookup (key_eq q) indices' ≡ cond (key_eq key q) (Some count) (lookup (key_eq q) indices))
      → (vs' : List Value) → vs' ≡ vs ++ v ∷ [] → IsWalked had left' indices' vs' ns (i + 1)
  taken_step key v same there left' indices' count counted removed inserted vs' pushed =
      rw pushed (record {
        so_far = values_step (value_map had) ns i n vs v below is
            (get-value_map had n.items ∙ was_left had left indices vs taken n v there) so_far;
        taken = taken_out had left indices vs taken n key v same there left' indices' removed
            (λ q. inserted q ∙ ap (λ k. cond (key_eq key q) (Some k) (lookup (key_eq q) indices)) counted);
      })

  -- a name at a later index
  pub copied_step : (p : ℕ) → lookup (key_eq n) indices ≡ Some p → (v d : Value) → v ≡ get_or vs p d
      → (left' : List (Vec ℕ × Value)) → left' ≡ left
      → (vs' : List Value) → vs' ≡ vs ++ v ∷ [] → IsWalked had left' indices vs' ns (i + 1)
  copied_step p at v d copied left' kept vs' pushed =
      rw (pushed, kept) (record {
        so_far = values_step (value_map had) ns i n vs v below is
            (get-value_map had n.items ∙ was_placed had left indices vs taken n p at d ∙ ap (λ x. Some x) (sym copied)) so_far;
        taken = AreTaken-push had left indices vs taken v;
      })
