-- One more name of a list, in a walk over it.
use Rattle.std.proofs.Common.{◌≡◌, ◌<◌, ◌+◌, ℕ, true, false, ◌&&◌, List, [], ◌∷◌, ◌++◌, map, length, take, get_or, sym, ap, ◌∙◌, arith, refl}
use Rattle.std.specs.Prelude.{Some, None, is_some}
use Rattle.std.specs.Option.{option_map, option_and_then}
use Rattle.std.specs.Global.{Vec}
use Rattle.std.specs.List.{list_all}
use Rattle.std.specs.FinMap.{contains_key, get}
use Rattle.std.proofs.lemmas.List.{take_more, get_or-map, length-map, map-append}
use Rattle.std.proofs.lemmas.List.Folds.{list_all-append, list_all_at}
use Rattle.mysql_value_core.specs.declared.value.Value.{Value}
use Rattle.mysql_params_core.specs.Names.{names_of}
use Rattle.mysql_params_core.specs.Given.{ValueMap}
use Rattle.mysql_params_core.specs.Lookup.{values_at}

-- the names up to an index, and the name at that index
pub take_names : (ns : List (Vec ℕ)) (i : ℕ) (n : Vec ℕ) → i < length ns → n ≡ get_or ns i n
    → take (i + 1) (names_of ns) ≡ take i (names_of ns) ++ n.items ∷ []
take_names ns i n h e =
    take_more (names_of ns) i n.items (omega (arith, length-map ns (λ x. x.items), h))
    ∙ ap (λ x. take i (names_of ns) ++ x ∷ []) (get_or-map (λ x. x.items) ns i n n.items h ∙ ap (λ x. x.items) (sym e))

pub all_step : (m : ValueMap) (ns : List (Vec ℕ)) (i : ℕ) (n : Vec ℕ) → i < length ns → n ≡ get_or ns i n
    → contains_key m n.items ≡ true → list_all (contains_key m) (take i (names_of ns)) ≡ true
    → list_all (contains_key m) (take (i + 1) (names_of ns)) ≡ true
all_step m ns i n h e found before =
    ap (list_all (contains_key m)) (take_names ns i n h e)
    ∙ list_all-append (contains_key m) (take i (names_of ns)) (n.items ∷ [])
    ∙ ap (λ b. b && (contains_key m n.items && true)) before
    ∙ ap (λ b. b && true) found

-- the values so far, and one more
pub values_step : (m : ValueMap) (ns : List (Vec ℕ)) (i : ℕ) (n : Vec ℕ) (vs : List Value) (v : Value)
    → i < length ns → n ≡ get_or ns i n → get m n.items ≡ Some v
    → map (get m) (take i (names_of ns)) ≡ map (λ x. Some x) vs
    → map (get m) (take (i + 1) (names_of ns)) ≡ map (λ x. Some x) (vs ++ v ∷ [])
values_step m ns i n vs v h e found before =
    ap (map (get m)) (take_names ns i n h e)
    ∙ map-append (get m) (take i (names_of ns)) (n.items ∷ [])
    ∙ ap (λ os. os ++ get m n.items ∷ []) before
    ∙ ap (λ o. map (λ x. Some x) vs ++ o ∷ []) found
    ∙ sym (map-append (λ x. Some x) vs (v ∷ []))

pub values_at-from : (m : ValueMap) (ns : List (List ℕ)) (vs : List Value)
    → map (get m) ns ≡ map (λ x. Some x) vs → values_at m ns ≡ Some vs
values_at-from m [] [] e = refl
values_at-from m [] (v ∷ vs) e = cc
values_at-from m (n ∷ ns) [] e = cc
values_at-from m (n ∷ ns) (v ∷ vs) e =
    let here : get m n ≡ Some v = cc in
    let later : map (get m) ns ≡ map (λ x. Some x) vs = cc in
    ap (option_and_then (λ value. option_map (λ rest. value ∷ rest) (values_at m ns))) here
    ∙ ap (option_map (λ rest. v ∷ rest)) (values_at-from m ns vs later)

-- the name at an index, as bytes
pub name_at : (ns : List (Vec ℕ)) (i : ℕ) (n : Vec ℕ) → i < length ns → n ≡ get_or ns i n
    → get_or (names_of ns) i [] ≡ n.items
name_at ns i n h e = get_or-map (λ x. x.items) ns i n [] h ∙ ap (λ x. x.items) (sym e)

-- if all names are in the map, none of them is missing
pub none_missing : (m : ValueMap) (ns : List (Vec ℕ)) (i : ℕ) (n : Vec ℕ) → i < length ns → n ≡ get_or ns i n
    → list_all (contains_key m) (names_of ns) ≡ true → get m n.items ≡ None → ⊥
none_missing m ns i n h e all none =
    let fails : list_all (contains_key m) (names_of ns) ≡ false =
    list_all_at (contains_key m) (names_of ns) i [] (omega (arith, length-map ns (λ x. x.items), h))
    (ap (contains_key m) (name_at ns i n h e) ∙ ap is_some none) in
    cc
