-- Cells of rows, one after another.
use Rattle.std.proofs.Common.{◌≡◌, ◌+◌, ◌*◌, ◌<◌, ◌≤◌, ℕ, zero, suc, Bool, true, false, List, ◌∷◌, length, map, take, drop, get_or, arith, refl, sym, ap, ◌∙◌, add-one, drop-cons}
use Rattle.std.specs.List.{list_any}
use Rattle.std.specs.Simd.{first_chunks}
use Rattle.std.proofs.lemmas.List.{drop-drop, drop_all, get_or_default, get_or-map}
use Rattle.mysql_value_core.specs.declared.value.ValueRef.{ValueRef}
use Rattle.mysql_fragments.specs.BorrowedFragments.{cell_item}

-- the item of the cell that is read at an index
pub cell_is : (cells : List ValueRef) (i : ℕ) (d : ValueRef) → i < length cells →
    cell_item (get_or cells i d) ≡ get_or (map cell_item cells) i (cell_item (get_or cells i d))
cell_is cells i d below = sym (get_or-map cell_item cells i d (cell_item (get_or cells i d)) below)

-- an element that is read at an index
pub element_is : {X : Type 0} (xs : List X) (i : ℕ) (d : X) → i < length xs → get_or xs i d ≡ get_or xs i (get_or xs i d)
element_is xs i d below = get_or_default xs i d (get_or xs i d) below

-- ---- rows

pub row_count : {X : Type 0} (width count : ℕ) (xs : List X) → length (first_chunks width count xs) ≡ count
row_count width zero xs = refl
row_count width (suc count) xs = ap suc (row_count width count (drop width xs))

pub row_at : {X : Type 0} (width count : ℕ) (xs : List X) (r : ℕ) (d : List X) → r < count →
    get_or (first_chunks width count xs) r d ≡ take width (drop (r * width) xs)
row_at width zero xs r d below = absurd (omega (arith, below))
row_at width (suc count) xs zero d below =
    let none : 0 ≡ zero * width = omega arith in
    ap (λ m. take width (drop m xs)) none
row_at width (suc count) xs (suc r) d below =
    let next : width + r * width ≡ suc r * width = omega arith in
    row_at width count (drop width xs) r d (omega (arith, below)) ∙ ap (take width) (drop-drop (r * width) width xs ∙ ap (λ m. drop m xs) next)

-- the row that is read
pub row_is : {X : Type 0} (width count : ℕ) (xs row : List X) (r : ℕ) → r < count → row ≡ take width (drop (r * width) xs) →
    row ≡ get_or (first_chunks width count xs) r row
row_is width count xs row r below is = is ∙ sym (row_at width count xs r row below)

-- ---- a test of one after another

cut_at : {X : Type 0} (xs : List X) (i : ℕ) (x : X) → i < length xs → x ≡ get_or xs i x → drop i xs ≡ x ∷ drop (i + 1) xs
cut_at xs i x below x_is = rw add-one (drop-cons xs i x below) ∙ ap (λ y. y ∷ drop (i + 1) xs) (sym x_is)

any_true : {X : Type 0} (p : X → Bool) (x : X) (xs : List X) → p x ≡ true → list_any p (x ∷ xs) ≡ true
any_true p x xs e = rw e refl

any_false : {X : Type 0} (p : X → Bool) (x : X) (xs : List X) → p x ≡ false → list_any p (x ∷ xs) ≡ list_any p xs
any_false p x xs e = rw e refl

pub any_found : {X : Type 0} (p : X → Bool) (xs : List X) (i : ℕ) (x : X) → i < length xs → x ≡ get_or xs i x →
    list_any p (drop i xs) ≡ list_any p xs → p x ≡ true → list_any p xs ≡ true
any_found p xs i x below x_is so_far e = sym so_far ∙ (ap (list_any p) (cut_at xs i x below x_is) ∙ any_true p x (drop (i + 1) xs) e)

pub any_next : {X : Type 0} (p : X → Bool) (xs : List X) (i : ℕ) (x : X) → i < length xs → x ≡ get_or xs i x →
    list_any p (drop i xs) ≡ list_any p xs → p x ≡ false → list_any p (drop (i + 1) xs) ≡ list_any p xs
any_next p xs i x below x_is so_far e = sym (any_false p x (drop (i + 1) xs) e) ∙ (ap (list_any p) (sym (cut_at xs i x below x_is)) ∙ so_far)

pub any_none : {X : Type 0} (p : X → Bool) (xs : List X) (i : ℕ) → length xs ≤ i →
    list_any p (drop i xs) ≡ list_any p xs → list_any p xs ≡ false
any_none p xs i done so_far = sym so_far ∙ ap (list_any p) (drop_all i xs done)
