-- Vectors of items exist, and so do the fragments that borrowed ones say.
use denote.RawPtr.{null_ptr}
use Rattle.std.specs.Global.{Global, Vec}
use Rattle.std.specs.Simd.{first_chunks}
use Rattle.std.proofs.Common.{◌≡◌, ◌*◌, ◌^◌, ◌<◌, ◌≤◌, ℕ, zero, suc, List, [], ◌∷◌, length, map, take, drop, arith, refl, ap}
use Rattle.std.proofs.lemmas.List.{length-drop, length-map}
use Rattle.mysql_value_core.specs.declared.value.ValueRef.{ValueRef}
use Rattle.mysql_values.specs.BorrowedValue.{owned}
use Rattle.mysql_fragments.specs.BorrowedFragments.{AreSaid, HasFewCells, HaveFewCells, Says, cell_item}
use Rattle.mysql_fragments.specs.declared.fragment.Item.{Item}
use Rattle.mysql_fragments.specs.declared.fragment.Fragment.{Fragment}
use Rattle.mysql_fragments.specs.declared.fragment.Fragment.TheVariants as one
use Rattle.mysql_fragments.specs.declared.fragment_ref.FragmentRef.{FragmentRef}
use Rattle.mysql_fragments.specs.declared.fragment_ref.FragmentRef.TheVariants as borrowed

length_take : {X : Type 0} (n : ℕ) (xs : List X) → length (take n xs) ≤ length xs
length_take zero xs = omega arith
length_take (suc n) [] = omega arith
length_take (suc n) (x ∷ xs) = omega (arith, length_take n xs)

few_rows : (count width : ℕ) → 0 < width → count ≤ count * width
few_rows count zero some = absurd (omega (arith, some))
few_rows count (suc width) some = omega arith

module _ (alloc : Global) where
  -- a vector of these elements
  abbrev vector_of : {X : Type 0} (xs : List X) → length xs < 2 ^ 63 → Vec X
  vector_of xs few = record {
    ptr = null_ptr;
    len = length xs;
    cap = length xs;
    alloc = alloc;
    items = xs;
    ok = (refl, omega arith);
    small = few;
  }

  abbrev row_vectors : (width count : ℕ) (cells : List ValueRef) → length cells < 2 ^ 63 → List (Vec Item)
  row_vectors width zero cells few = []
  row_vectors width (suc count) cells few =
      vector_of (map cell_item (take width cells)) (omega (arith, few, length-map (take width cells) cell_item, length_take width cells))
      ∷ row_vectors width count (drop width cells) (omega (arith, few, length-drop width cells))

  rows_of_vectors : (width count : ℕ) (cells : List ValueRef) (few : length cells < 2 ^ 63) →
      map (λ row. row.items) (row_vectors width count cells few) ≡ map (map cell_item) (first_chunks width count cells)
  rows_of_vectors width zero cells few = refl
  rows_of_vectors width (suc count) cells few = ap (λ rs. map cell_item (take width cells) ∷ rs) (rows_of_vectors width count (drop width cells) _)

  count_of_vectors : (width count : ℕ) (cells : List ValueRef) (few : length cells < 2 ^ 63) → length (row_vectors width count cells few) ≡ count
  count_of_vectors width zero cells few = refl
  count_of_vectors width (suc count) cells few = ap suc (count_of_vectors width count (drop width cells) _)

  pub one_said : (fragment : FragmentRef) → HasFewCells fragment → (said : Fragment) × Says fragment said
  one_said (borrowed.Owned fragment) few = (fragment.now, refl)
  one_said (borrowed.Value value) few = (one.Value (owned value), refl)
  one_said (borrowed.List cells) few =
      let items = vector_of (map cell_item cells.now) (omega (arith, few, length-map cells.now cell_item)) in
      (one.List items, (items, refl, refl))
  one_said (borrowed.Rows rows) few =
      let vectors = row_vectors rows.width rows.count rows.cells.now few in
      let all =
      vector_of vectors
      (omega (arith, few, count_of_vectors rows.width rows.count rows.cells.now few, rows.shape.0, few_rows rows.count rows.width rows.shape.2)) in
      (one.Rows all, (all, refl, rows_of_vectors rows.width rows.count rows.cells.now few))

  pub all_said : (fragments : List FragmentRef) → HaveFewCells fragments → (said : List Fragment) × AreSaid fragments said
  all_said [] few = ([], tt)
  all_said (fragment ∷ fragments) few =
      let (said, says) = one_said fragment few.0 in
      let (more, are) = all_said fragments few.1 in
      (said ∷ more, (says, are))
