-- A fragment that is kept in the form's own bytes has the content of a fragment, and the fragment
-- that is read has the same.
use Rattle.std.specs.Prelude.{IfSome, Ok, Option, Some, None, ⊤}
use Rattle.std.specs.Borrow.{Bor}
use Rattle.std.specs.Global.{Vec}
use Rattle.std.specs.Simd.{first_chunks}
use Rattle.std.proofs.Common.{◌≡◌, ◌≢◌, ◌⊎◌, inl, inr, ℕ, zero, suc, ◌+◌, ◌*◌, ◌<◌, ◌≤◌, List, [], ◌∷◌, ◌++◌, map, ◌-◌, get_or, length, subst, take, drop, refl, sym, ap, ◌∙◌, arith, ne_eqb}
use Rattle.std.proofs.lemmas.List.{length-drop}
use Rattle.std.proofs.lemmas.Nat.{same_from_place}
use Rattle.std.proofs.lemmas.Simd.{map-map}
use Rattle.mysql_wire_part.specs.Answer.{IsExpectedRefusal}
use Rattle.mysql_wire_part.proofs.AnswerLemmas.{refusal_expected_too}
use Rattle.mysql_value_core.specs.declared.value.ValueRef.{ValueRef}
use Rattle.mysql_flat_params.specs.ColumnNumbers.{column_type, is_unsigned_parameter}
use Rattle.mysql_flat_params.specs.FlatForm.{FormRefusal, read_of_type}
use Rattle.mysql_fragments.specs.BorrowedFragments.{cell_item, cell_rows}
use Rattle.mysql_fragments.specs.declared.rows_ref.RowsRef.{RowsRef}
use Rattle.mysql_fragments.specs.declared.fragment.Item.{Item}
use Rattle.mysql_fragments.specs.declared.fragment.Fragment.{Fragment}
use Rattle.mysql_fragments.specs.declared.fragment_ref.FragmentRef.TheVariants as borrowed
use Rattle.mysql_fragments.proofs.SaidExistLemmas.{one_said}
use Rattle.mysql_flat_params.specs.FiniteDouble.{fragment_of_value}
use Rattle.mysql_flat_params.specs.FlatFragments.{layout_type, map_form, read_all, read_fragment, read_fragment_of, read_items}
use Rattle.mysql_flat_params.specs.FormInPlace.{IsKeptAs, cell_content, rows_content}
use Rattle.mysql_flat_params.specs.FragmentContent.{content_of, item_content, items_content, list, rows}
use Rattle.mysql_flat_params.specs.declared.fragment_in_place.FragmentInPlace.{FragmentInPlace}
use Rattle.mysql_flat_params.specs.declared.fragment_in_place.FragmentInPlace.TheVariants as kept
use Rattle.mysql_flat_params.specs.declared.rows_in_place.RowsInPlace.{RowsInPlace}
use Rattle.mysql_flat_params.proofs.FragmentsFormLemmas.{fragment_typed}

lent : {X : Type 0} → List X → Bor (List X)
lent items = record { ref_ptr = (0, 0); now = items }

-- ---- the fragment that is kept

-- of cells there is a list
pub list_kept : (cells : Vec ValueRef) → (said : Fragment) × IsKeptAs (kept.List cells) said
unfolding lent
list_kept cells = one_said cells.alloc (borrowed.List (lent cells.items)) (omega (arith, cells.ok.0, cells.ok.1, cells.small))

pub list_says : (cells : Vec ValueRef) (said : Fragment) → IsKeptAs (kept.List cells) said → list (map cell_content cells.items) ≡ content_of said
list_says cells said h =
    sym (ap content_of h.1 ∙ ap (λ items. list (items_content items)) h.2 ∙ ap list (map-map item_content cell_item cells.items))

-- of rows of cells there are rows
pub rows_kept : (r : RowsInPlace) → (said : Fragment) × IsKeptAs (kept.Rows r) said
unfolding lent
rows_kept r =
    one_said r.cells.alloc (borrowed.Rows (record { cells = lent r.cells.items; width = r.width; count = r.count; shape = r.shape }))
    (omega (arith, r.cells.ok.0, r.cells.ok.1, r.cells.small))

-- the content of each row
contents_of_rows : (said : List (Vec Item)) (cells : List (List ValueRef)) → map (λ row. row.items) said ≡ map (map cell_item) cells →
    map (λ row. items_content row.items) said ≡ map (map cell_content) cells
contents_of_rows said cells e =
    sym (map-map items_content (λ row. row.items) said)
    ∙ (ap (map items_content) e ∙ (map-map items_content (map cell_item) cells ∙ each cells))
  where
    each : (xs : List (List ValueRef)) → map (λ row. items_content (map cell_item row)) xs ≡ map (map cell_content) xs
    each [] = refl
    each (x ∷ xs) = ap (λ y. y ∷ map (λ row. items_content (map cell_item row)) xs) (map-map item_content cell_item x) ∙ ap (λ ys. map cell_content x ∷ ys) (each xs)

pub rows_say : (r : RowsInPlace) (said : Fragment) → IsKeptAs (kept.Rows r) said → rows (rows_content r) ≡ content_of said
rows_say r said h =
    sym (ap content_of h.1 ∙ ap rows (contents_of_rows h.0.items (first_chunks r.width r.count r.cells.items) h.2))

-- ---- rows that are read one after another

pub one_chunk_more : {X : Type 0} (width count : ℕ) (xs more : List X) → length xs ≡ count * width → length more ≡ width →
    first_chunks width (suc count) (xs ++ more) ≡ first_chunks width count xs ++ more ∷ []
one_chunk_more width zero [] more e w = ap (λ row. row ∷ []) (take_whole width more w)
  where
    take_whole : {X : Type 0} (n : ℕ) (ys : List X) → length ys ≡ n → take n ys ≡ ys
    take_whole zero [] e = refl
    take_whole zero (y ∷ ys) e = absurd (omega (arith, e))
    take_whole (suc n) [] e = absurd (omega (arith, e))
    take_whole (suc n) (y ∷ ys) e = ap (λ zs. y ∷ zs) (take_whole n ys (omega (arith, e)))
one_chunk_more width zero (x ∷ xs) more e w = absurd (omega (arith, e))
one_chunk_more width (suc count) xs more e w =
    let all : suc count * width ≡ width + count * width = omega arith in
    let enough : width ≤ length xs = omega (arith, e, all) in
    ap (λ row. row ∷ first_chunks width (suc count) (drop width (xs ++ more))) (take_left width xs more enough)
    ∙ (ap (λ ys. take width xs ∷ first_chunks width (suc count) ys) (drop_left width xs more enough)
    ∙ ap (λ rs. take width xs ∷ rs) (one_chunk_more width count (drop width xs) more (omega (arith, length-drop width xs, e, all)) w))
  where
    take_left : {X : Type 0} (n : ℕ) (ys zs : List X) → n ≤ length ys → take n (ys ++ zs) ≡ take n ys
    take_left zero ys zs le = refl
    take_left (suc n) [] zs le = absurd (omega (arith, le))
    take_left (suc n) (y ∷ ys) zs le = ap (λ l. y ∷ l) (take_left n ys zs (omega (arith, le)))

    drop_left : {X : Type 0} (n : ℕ) (ys zs : List X) → n ≤ length ys → drop n (ys ++ zs) ≡ drop n ys ++ zs
    drop_left zero ys zs le = refl
    drop_left (suc n) [] zs le = absurd (omega (arith, le))
    drop_left (suc n) (y ∷ ys) zs le = drop_left n ys zs (omega (arith, le))

-- ---- the types

-- a number that is none of this library's own types is that of a value
module _ (place position flags : ℕ) (bytes : List ℕ) where
  pub value_typed : (n : ℕ) → (n < 128) ⊎ (135 < n) → read_fragment_of place position n flags bytes
      ≡ map_form fragment_of_value (read_of_type place position n (column_type n) (is_unsigned_parameter flags) bytes)
  value_typed n apart =
      rw (ne_eqb n 128 (other 128 (omega arith) (omega arith)))
      (rw (ne_eqb n 129 (other 129 (omega arith) (omega arith)))
      (rw (ne_eqb n 130 (other 130 (omega arith) (omega arith)))
      (rw (ne_eqb n 131 (other 131 (omega arith) (omega arith)))
      (rw (ne_eqb n 132 (other 132 (omega arith) (omega arith)))
      (rw (ne_eqb n 133 (other 133 (omega arith) (omega arith)))
      (rw (ne_eqb n 134 (other 134 (omega arith) (omega arith)))
      (rw (ne_eqb n 135 (other 135 (omega arith) (omega arith))) refl)))))))
    where
      other : (k : ℕ) → 128 ≤ k → k ≤ 135 → n ≢ k
      other k low high e = elim apart [ inl below ↦ omega (arith, below, e, low) | inr above ↦ omega (arith, above, e, high) ]

  -- a list and rows of values
  pub list_typed : (n : ℕ) (cells : Vec ValueRef) (rest : List ℕ) (said : Fragment) → n ≡ 129 → read_items place position bytes ≡ Ok (map cell_content cells.items, rest) →
      IsKeptAs (kept.List cells) said → read_fragment_of place position n flags bytes ≡ Ok (content_of said, rest)
  list_typed n cells rest said is read h =
      ap (λ k. read_fragment_of place position k flags bytes) is ∙ (ap (map_form list) read ∙ ap (λ c. Ok (c, rest)) (list_says cells said h))

  pub rows_typed : (n : ℕ) (r : RowsInPlace) (rest : List ℕ) (said : Fragment) → n ≡ 130 →
      read_all place position (read_items place position) bytes ≡ Ok (rows_content r, rest) → IsKeptAs (kept.Rows r) said →
      read_fragment_of place position n flags bytes ≡ Ok (content_of said, rest)
  rows_typed n r rest said is read h =
      ap (λ k. read_fragment_of place position k flags bytes) is ∙ (ap (map_form rows) read ∙ ap (λ c. Ok (c, rest)) (rows_say r said h))

  -- a value that is refused
  pub value_refused : (n : ℕ) (refusal : Option FormRefusal) → (n < 128) ⊎ (135 < n) →
      IsExpectedRefusal (read_of_type place position n (column_type n) (is_unsigned_parameter flags) bytes) ⊥ refusal →
      IsExpectedRefusal (read_fragment_of place position n flags bytes) ⊤ refusal
  value_refused n refusal apart h =
      refusal_expected_too (read_of_type place position n (column_type n) (is_unsigned_parameter flags) bytes) (read_fragment_of place position n flags bytes) ⊥ ⊤ refusal
      (λ why e. value_typed n apart ∙ ap (map_form fragment_of_value) e) (λ _. tt) h

-- a list or rows that are kept after a type and flags are those that are read
pub kept_read : (place position : ℕ) (bytes rest : List ℕ) (layout : ℕ) → layout ≡ layout_type (get_or bytes 0 0) →
    (read : Option FragmentInPlace) (one : FragmentInPlace) → 2 ≤ length bytes → read ≡ Some one →
    IfSome read (λ each. (said : Fragment) × IsKeptAs each said
    × ((flags : ℕ) → read_fragment_of place position layout flags (take (length bytes - 2) (drop 2 bytes)) ≡ Ok (content_of said, rest))) →
    (said : Fragment) × IsKeptAs one said × (read_fragment place position bytes ≡ Ok (content_of said, rest))
kept_read place position bytes rest layout layout_is None one two is h = cc
kept_read place position bytes rest layout layout_is (Some each) one two is h =
    let same : each ≡ one = cc in
    subst (λ z. (said : Fragment) × IsKeptAs z said × (read_fragment place position bytes ≡ Ok (content_of said, rest))) same
    (h.0, h.1, fragment_typed place position bytes layout layout_is two ∙ h.2 (get_or bytes 1 0))

-- borrowed rows are the same rows
pub rows_lent : (r : RowsInPlace) (b : RowsRef) → b.cells.now ≡ r.cells.items → b.width ≡ r.width →
    first_chunks r.width r.count r.cells.items ≡ cell_rows b
rows_lent r b cells width =
    let as_many : b.count * b.width ≡ r.count * r.width = sym b.shape.0 ∙ (ap length cells ∙ r.shape.0) in
    let over_width : b.count * r.width ≡ r.count * r.width = ap (λ w. b.count * w) (sym width) ∙ as_many in
    let at_place : b.count * r.width + 0 ≡ r.count * r.width + 0 = ap (λ n. n + 0) over_width in
    let same : b.count ≡ r.count = (same_from_place b.count 0 r.count 0 r.width r.shape.2 r.shape.2 at_place).0 in
    ap (λ k. first_chunks r.width k r.cells.items) (sym same)
    ∙ (ap (λ w. first_chunks w b.count r.cells.items) (sym width) ∙ ap (first_chunks b.width b.count) (sym cells))
