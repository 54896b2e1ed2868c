-- What is found of one element after another, and the list of a JSON array.
use Rattle.std.proofs.Common.{◌≡◌, ◌∙◌, ℕ, ◌+◌, ◌<◌, List, [], ◌∷◌, ◌++◌, length, map, drop, get_or, refl, sym, ap, append_assoc, arith, rules, Vec, Option, None, Some}
use Rattle.std.specs.Prelude.{option_map, option_and_then}
use Rattle.std.proofs.lemmas.List.{get_or-map, length-map}
use Rattle.json.specs.Json.{Json, array}
use Rattle.json.specs.Value.{items_of, value_view}
use Rattle.json.specs.declared.value.Value.{Value, Array, the_lemmas}
use Rattle.mysql_bind_core.specs.Contents.{all_of, item_of, list_content, list_of, list_of_json}
use Rattle.mysql_query_core.proofs.WordLemmas.{drop_index}

-- what is found before what is left to find
abbrev pub before : {Y : Type 0} → List Y → Option (List Y) → Option (List Y)
before front back = option_map (λ rest. front ++ rest) back

before-push : {Y : Type 0} (front : List Y) (y : Y) (back : Option (List Y))
    → before front (option_map (λ rest. y ∷ rest) back) ≡ before (front ++ y ∷ []) back
before-push front y None = refl
before-push front y (Some rest) = ap Some (sym (append_assoc front (y ∷ []) rest))

-- x is the element at i of the list xs
module _ {X Y : Type 0} (f : X → Option Y) (xs : List X) (i : ℕ) (x : X) (front : List Y)
    (below : i < length xs) (at : x ≡ get_or xs i x)
    (so_far : all_of f xs ≡ before front (all_of f (drop i xs))) where
  one_at : all_of f xs ≡ before front (all_of f (x ∷ drop (i + 1) xs))
  one_at =
      so_far
      ∙ ap (λ ys. before front (all_of f ys)) (drop_index xs i x below)
      ∙ ap (λ y. before front (all_of f (y ∷ drop (i + 1) xs))) (sym at)

  pub one_more : (y : Y) → f x ≡ Some y → all_of f xs ≡ before (front ++ y ∷ []) (all_of f (drop (i + 1) xs))
  one_more y found =
      one_at
      ∙ ap (λ o. before front (option_and_then (λ z. option_map (λ zs. z ∷ zs) (all_of f (drop (i + 1) xs))) o)) found
      ∙ before-push front y (all_of f (drop (i + 1) xs))

  pub one_none : f x ≡ None → all_of f xs ≡ None
  one_none none =
      one_at ∙ ap (λ o. before front (option_and_then (λ z. option_map (λ zs. z ∷ zs) (all_of f (drop (i + 1) xs))) o)) none

-- the same for a list that another is made of
module _ {W X Y : Type 0} (g : W → X) (f : X → Option Y) (ws : List W) (i : ℕ) (w : W) (front : List Y)
    (below : i < length ws) (at : w ≡ get_or ws i w)
    (so_far : all_of f (map g ws) ≡ before front (all_of f (drop i (map g ws)))) where
  within : i < length (map g ws)
  within = omega (arith, length-map ws g, below)

  at_map : g w ≡ get_or (map g ws) i (g w)
  at_map = ap g at ∙ sym (get_or-map g ws i w (g w) below)

  pub one_more_of : (y : Y) → f (g w) ≡ Some y
      → all_of f (map g ws) ≡ before (front ++ y ∷ []) (all_of f (drop (i + 1) (map g ws)))
  one_more_of y found = one_more f (map g ws) i (g w) front within at_map so_far y found

  pub one_none_of : f (g w) ≡ None → all_of f (map g ws) ≡ None
  one_none_of none = one_none f (map g ws) i (g w) front within at_map so_far none

pub list_of-items_of : (js : List Json) → list_of (items_of js) ≡ js
list_of-items_of [] = refl
list_of-items_of (j ∷ js) = ap (λ ks. j ∷ ks) (list_of-items_of js)

-- the list of an array of some values
pub list_of_array : (js : List Json) → 0 < length js → list_of_json (Some (array (items_of js))) ≡ option_map list_content (all_of item_of js)
list_of_array [] some = absurd (omega arith)
list_of_array (j ∷ js) some = ap (λ ks. option_map list_content (all_of item_of (j ∷ ks))) (list_of-items_of js)

-- the view of an array
pub view_of_array : {A : Type 0} → (v : Vec (Value A) A) → value_view (Array v) ≡ array (items_of (map value_view v.items))
view_of_array v = search (rules, the_lemmas)
