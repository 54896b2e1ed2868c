-- Values that are looked up name by name are those of a lookup of all the names.
use Rattle.std.proofs.Common.{◌≡◌, ◌<◌, ℕ, List, [], ◌∷◌, ◌++◌, length, map, refl, sym, ap, ◌∙◌, arith}
use Rattle.std.specs.Prelude.{Option, Ok, Some, None, ok_or}
use Rattle.std.specs.Option.{option_map, option_and_then}
use Rattle.std.specs.FinMap.{get}
use Rattle.std.proofs.lemmas.List.{length-map, map-append}
use Rattle.mysql_value_core.specs.declared.value.Value.{Value}
use Rattle.mysql_params_core.specs.Given.{Given, ValueMap, empty, named, positional}
use Rattle.mysql_params_core.specs.Lookup.{LookupRefusal, lookup, missing}
use Rattle.mysql_params_core.specs.Names.{missing_name}
use Rattle.mysql_params_core.proofs.WalkLemmas.{values_at-from}

-- a lookup of each name by itself gives its value
abbrev pub AreLookedUp : Given → List (List ℕ) → List Value → Type 0
AreLookedUp given ns vs = map (λ n. lookup given (n ∷ [])) ns ≡ map (λ v. Ok (v ∷ [])) vs

found_value : (found : Option Value) (v : Value) (why : LookupRefusal) →
    ok_or (option_and_then (λ value. option_map (λ rest. value ∷ rest) (Some [])) found) why ≡ Ok (v ∷ []) → found ≡ Some v
found_value None v why e = cc
found_value (Some w) v why e = cc

-- a name by itself has the value that the map gives
value_in_map : (m : ValueMap) (n : List ℕ) (v : Value) → lookup (named m) (n ∷ []) ≡ Ok (v ∷ []) → get m n ≡ Some v
value_in_map m n v e = found_value (get m n) v _ e

-- the value that a map gives for one name
pub looked_up_in_map : (m : ValueMap) (n : List ℕ) (v : Value) → Some v ≡ get m n → lookup (named m) (n ∷ []) ≡ Ok (v ∷ [])
looked_up_in_map m n v e = rw (sym e) refl

values_in_map : (m : ValueMap) (ns : List (List ℕ)) (vs : List Value) → AreLookedUp (named m) ns vs → map (get m) ns ≡ map (λ x. Some x) vs
values_in_map m [] [] e = refl
values_in_map m [] (v ∷ vs) e = cc
values_in_map m (n ∷ ns) [] e = cc
values_in_map m (n ∷ ns) (v ∷ vs) e =
    let here : lookup (named m) (n ∷ []) ≡ Ok (v ∷ []) = cc in
    let later : AreLookedUp (named m) ns vs = cc in
    ap (λ o. o ∷ map (get m) ns) (value_in_map m n v here) ∙ ap (λ os. Some v ∷ os) (values_in_map m ns vs later)

-- so all of them are
pub looked_up_all : (given : Given) (ns : List (List ℕ)) (vs : List Value) → 0 < length ns → AreLookedUp given ns vs → lookup given ns ≡ Ok vs
looked_up_all given [] vs some e = absurd (omega (arith, some))
looked_up_all empty (n ∷ ns) [] some e = cc
looked_up_all empty (n ∷ ns) (v ∷ vs) some e = cc
looked_up_all (positional values) (n ∷ ns) [] some e = cc
looked_up_all (positional values) (n ∷ ns) (v ∷ vs) some e = cc
looked_up_all (named m) (n ∷ ns) vs some e =
    ap (λ o. ok_or o (missing (missing_name m (n ∷ ns)))) (values_at-from m (n ∷ ns) vs (values_in_map m (n ∷ ns) vs e))

-- ---- what is kept of each value

module _ {K : Type 0} (value : K → Value) (given : Given) where
  pub looked_up_none : (kept : List K) → kept ≡ [] → AreLookedUp given [] (map value kept)
  looked_up_none kept nil = ap (λ x. map (λ v. Ok (v ∷ [])) (map value x)) (sym nil)

  -- one name more
  pub looked_up_more : (ns : List (List ℕ)) (n : List ℕ) (kept kept' : List K) (k : K) →
      AreLookedUp given ns (map value kept) → lookup given (n ∷ []) ≡ Ok (value k ∷ []) →
      kept' ≡ kept ++ k ∷ [] → AreLookedUp given (ns ++ n ∷ []) (map value kept')
  looked_up_more ns n kept kept' k before e pushed =
      let f = λ (n : List ℕ). lookup given (n ∷ []) in
      let g = λ (x : Value). Ok (x ∷ []) in
      map-append f ns (n ∷ [])
      ∙ ap (λ os. os ++ f n ∷ []) before
      ∙ ap (λ o. map g (map value kept) ++ o ∷ []) e
      ∙ sym (map-append g (map value kept) (value k ∷ []))
      ∙ ap (map g) (sym (ap (map value) pushed ∙ map-append value kept (k ∷ [])))

  -- as many names as values
  pub looked_up_length : (ns : List (List ℕ)) (kept : List K) → AreLookedUp given ns (map value kept) → length ns ≡ length kept
  looked_up_length ns kept e =
      sym (length-map ns (λ n. lookup given (n ∷ []))) ∙ (ap length e ∙ (length-map (map value kept) _ ∙ length-map kept value))
