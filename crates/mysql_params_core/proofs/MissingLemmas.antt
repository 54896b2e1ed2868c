-- Which name is missing, by the index of the first that is not in the map.
use Rattle.std.proofs.Common.{◌≡◌, ◌⊎◌, inl, inr, subst, ◌<◌, ◌-◌, ◌+◌, ◌||◌, ℕ, zero, suc, Bool, true, false, not, cond, List, [], ◌∷◌, map, length, take, drop, get_or, refl, sym, ap, ◌∙◌, arith, add-one}
use Rattle.std.specs.Prelude.{Option, Some, None, unwrap_or, find, slice_index_or, is_some, Err, ⊤}
use Rattle.std.specs.Option.{option_map, option_and_then, ok_or}
use Rattle.std.specs.Cmp.{first_so, second_so}
use Rattle.std.specs.Global.{Vec}
use Rattle.std.specs.List.{list_all, list_any}
use Rattle.std.specs.FinMap.{contains_key, get}
use Rattle.std.proofs.lemmas.List.{get_or-map, length-map, drop-map, take_all, length-drop}
use Rattle.mysql_wire_part.specs.Answer.{IsExpectedRefusal}
use Rattle.mysql_value_core.specs.declared.value.Value.{Value}
use Rattle.mysql_params_core.specs.Names.{names_of, is_prefix, missing_name, first_missing, last_name}
use Rattle.mysql_params_core.specs.FirstAbsent.{IsFirstAbsent}
use Rattle.mysql_params_core.specs.Given.{ValueMap, named}
use Rattle.mysql_params_core.specs.Lookup.{LookupRefusal, values_at, lookup, missing}
use Rattle.mysql_params_core.proofs.WalkLemmas.{name_at}

module _ {X : Type 0} (p : X → Bool) where
  pub list_any-map : {Y : Type 0} (f : Y → X) (ys : List Y) → list_any p (map f ys) ≡ list_any (λ y. p (f y)) ys
  list_any-map f [] = refl
  list_any-map f (y ∷ ys) = ap (λ b. p (f y) || b) (list_any-map f ys)

  -- whether the elements that pass are a prefix, if the first that fails is at i
  pub is_prefix-at : (xs : List X) (i : ℕ) (d : X) → i < length xs → list_all p (take i xs) ≡ true
      → p (get_or xs i d) ≡ false → is_prefix p xs ≡ not (list_any p (drop (suc i) xs))
  is_prefix-at [] i d h all fails = absurd (omega arith)
  is_prefix-at (x ∷ xs) zero d h all fails =
      ap (λ b. cond b (is_prefix p xs) (not (list_any p xs))) fails
  is_prefix-at (x ∷ xs) (suc i) d h all fails =
      ap (λ b. cond b (is_prefix p xs) (not (list_any p xs))) (first_so (p x) (list_all p (take i xs)) all)
      ∙ is_prefix-at xs i d (omega arith) (second_so (p x) (list_all p (take i xs)) all) fails

  -- the first element that fails
  pub find-at : (xs : List X) (i : ℕ) (d : X) → i < length xs → list_all p (take i xs) ≡ true
      → p (get_or xs i d) ≡ false → find (λ x. not (p x)) xs ≡ Some (get_or xs i d)
  find-at [] i d h all fails = absurd (omega arith)
  find-at (x ∷ xs) zero d h all fails = ap (λ b. cond (not b) (Some x) (find (λ y. not (p y)) xs)) fails
  find-at (x ∷ xs) (suc i) d h all fails =
      ap (λ b. cond (not b) (Some x) (find (λ y. not (p y)) xs)) (first_so (p x) (list_all p (take i xs)) all)
      ∙ find-at xs i d (omega arith) (second_so (p x) (list_all p (take i xs)) all) fails

-- if a name has no value, there are no values
pub values_at-none : (m : ValueMap) (ns : List (List ℕ)) (i : ℕ) → i < length ns
    → contains_key m (slice_index_or ns i []) ≡ false → values_at m ns ≡ None
values_at-none m [] i h absent = absurd (omega arith)
values_at-none m (n ∷ ns) zero h absent = ap (option_and_then _) (no_value (get m n) absent)
  where
    no_value : (o : Option Value) → is_some o ≡ false → o ≡ None
    no_value None e = refl
    no_value (Some v) e = cc
values_at-none m (n ∷ ns) (suc i) h absent =
    by_value (get m n) (values_at-none m ns i (omega arith) absent)
  where
    by_value : (o : Option Value) → values_at m ns ≡ None
        → option_and_then (λ value. option_map (λ rest. value ∷ rest) (values_at m ns)) o ≡ None
    by_value None e = refl
    by_value (Some v) e = ap (option_map (λ rest. v ∷ rest)) e

module _ (m : ValueMap) (ns : List (List ℕ)) (i : ℕ) (at : IsFirstAbsent m ns (Some i)) where
  pub first_missing-at : first_missing m ns ≡ slice_index_or ns i []
  first_missing-at = ap (λ o. unwrap_or o []) (find-at (contains_key m) ns i [] at.0 at.1 at.2)

  pub no_values : values_at m ns ≡ None
  no_values = values_at-none m ns i at.0 at.2

  -- a later name is in the map
  pub missing_name-then : list_any (contains_key m) (drop (suc i) ns) ≡ true → missing_name m ns ≡ slice_index_or ns i []
  missing_name-then later =
      ap (λ b. cond b (last_name ns) (first_missing m ns)) (is_prefix-at (contains_key m) ns i [] at.0 at.1 at.2 ∙ ap not later)
      ∙ first_missing-at

  -- no later name is in the map
  pub missing_name-else : list_any (contains_key m) (drop (suc i) ns) ≡ false → missing_name m ns ≡ last_name ns
  missing_name-else later =
      ap (λ b. cond b (last_name ns) (first_missing m ns))
      (is_prefix-at (contains_key m) ns i [] at.0 at.1 at.2 ∙ ap not later)

-- the same for names of any type, as the code reads them
module _ {T : Type 0} (f : T → List ℕ) (m : ValueMap) (ns : List T) (i : ℕ) (at : IsFirstAbsent m (map f ns) (Some i)) where
  later_names : (b : Bool) → b ≡ list_any (λ n. contains_key m (f n)) (take (length ns - (i + 1)) (drop (i + 1) ns))
      → list_any (contains_key m) (drop (suc i) (map f ns)) ≡ b
  later_names b e =
      ap (list_any (contains_key m)) (drop-map f (suc i) ns)
      ∙ list_any-map (contains_key m) f (drop (suc i) ns)
      ∙ ap (λ k. list_any (λ n. contains_key m (f n)) (drop k ns)) (sym (add-one i))
      ∙ ap (list_any (λ n. contains_key m (f n))) (sym (take_all _ (drop (i + 1) ns) (omega (arith, length-drop (i + 1) ns))))
      ∙ sym e

  pub in_list : i < length ns
  in_list = omega (arith, length-map ns f, at.0)

  pub reported_first : (b : Bool) (d : T)
      → b ≡ list_any (λ n. contains_key m (f n)) (take (length ns - (i + 1)) (drop (i + 1) ns)) → b ≡ true
      → f (slice_index_or ns i d) ≡ missing_name m (map f ns)
  reported_first b d e met =
      sym (missing_name-then m (map f ns) i at (later_names b e ∙ met) ∙ get_or-map f ns i d [] in_list)

  pub reported_last : (b : Bool) (d : T)
      → b ≡ list_any (λ n. contains_key m (f n)) (take (length ns - (i + 1)) (drop (i + 1) ns)) → b ≡ false
      → f (slice_index_or ns (length ns - 1) d) ≡ missing_name m (map f ns)
  reported_last b d e unmet =
      sym (missing_name-else m (map f ns) i at (later_names b e ∙ unmet)
      ∙ ap (λ k. slice_index_or (map f ns) (k - 1) []) (length-map ns f)
      ∙ get_or-map f ns (length ns - 1) d [] (omega (arith, in_list)))

-- the first name that is not in the map, as bytes
pub first_is_first_missing : (m : ValueMap) (ns : List (Vec ℕ)) (i : ℕ) → IsFirstAbsent m (names_of ns) (Some i)
    → (n : Vec ℕ) → n ≡ get_or ns i n → n.items ≡ first_missing m (names_of ns)
first_is_first_missing m ns i at n is =
    sym (name_at ns i n (in_list (λ x. x.items) m ns i at) is) ∙ sym (first_missing-at m (names_of ns) i at)

-- a lookup of a list with names, as one equation
pub lookup-listed : (m : ValueMap) (ns : List (List ℕ)) → 0 < length ns
    → lookup (named m) ns ≡ ok_or (values_at m ns) (missing (missing_name m ns))
lookup-listed m [] h = absurd (omega arith)
lookup-listed m (n ∷ ns) h = refl

-- the refusal that reports a name that is missing
pub refused_as_missing : (m : ValueMap) (ns : List (List ℕ)) (i : ℕ) → IsFirstAbsent m ns (Some i)
    → (name : List ℕ) → name ≡ missing_name m ns
    → (refusal : Option LookupRefusal) → (refusal ≡ None) ⊎ (refusal ≡ Some (missing name))
    → IsExpectedRefusal (lookup (named m) ns) ⊤ refusal
refused_as_missing m ns i at name is_name refusal (inl e) =
    subst (λ r. IsExpectedRefusal (lookup (named m) ns) ⊤ r) (sym e) tt
refused_as_missing m ns i at name is_name refusal (inr e) =
    let refused : lookup (named m) ns ≡ Err (missing name) =
    lookup-listed m ns (omega (arith, at.0))
    ∙ ap (λ o. ok_or o (missing (missing_name m ns))) (no_values m ns i at)
    ∙ ap (λ n. Err (missing n)) (sym is_name) in
    subst (λ r. IsExpectedRefusal (lookup (named m) ns) ⊤ r) (sym e) refused

-- a lookup of a list with names, as one equation
pub lookup-named : (m : ValueMap) (ns : List (Vec ℕ)) → 0 < length ns
    → lookup (named m) (names_of ns) ≡ ok_or (values_at m (names_of ns)) (missing (missing_name m (names_of ns)))
lookup-named m [] h = absurd (omega arith)
lookup-named m (n ∷ ns) h = refl
