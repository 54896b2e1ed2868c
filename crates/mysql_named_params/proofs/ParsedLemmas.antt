-- A parsed query and its fields.
use Rattle.std.proofs.Common.{◌≡◌, ℕ, ◌&&◌, nat_eq, List, [], ◌∷◌, map, refl, ap}
use Rattle.std.specs.Cow.{cow_slice_items}
use Rattle.std.specs.declared.borrow.CowSlice.{CowSlice}
use Rattle.std.specs.Cmp.Lexicographic.{pointwise}
use Rattle.mysql_named_params.specs.Parsed.{Parsed}

-- names that compare alike are compared by their bytes
pub names_compare : {Z : Type 0} (xs ys : List (CowSlice ℕ Z)) →
    pointwise (λ x y. pointwise nat_eq (cow_slice_items x) (cow_slice_items y)) xs ys ≡ pointwise (pointwise nat_eq) (map cow_slice_items xs) (map cow_slice_items ys)
names_compare [] [] = refl
names_compare [] (y ∷ ys) = refl
names_compare (x ∷ xs) [] = refl
names_compare (x ∷ xs) (y ∷ ys) = ap (λ b. pointwise nat_eq (cow_slice_items x) (cow_slice_items y) && b) (names_compare xs ys)

pub parsed_is : (p : Parsed) (query : List ℕ) (params : List (List ℕ)) → query ≡ p.query →
    params ≡ p.params → ◌≡◌ {A = Parsed} (record { query = query; params = params }) p
parsed_is p query params a b =
    let e : ◌≡◌ {A = Parsed} (record { query = query; params = params }) (record { query = p.query; params = p.params }) = cc in
    e
