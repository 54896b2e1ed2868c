-- Borrowed fragments and the fragments of the same content have the same texts, values, floats and
-- faults.
use Rattle.std.specs.Prelude.{codes, Some, None, option_map, ⊤}
use Rattle.std.specs.Global.{Vec}
use Rattle.std.specs.List.{flat_map, list_any}
use Rattle.std.specs.Option.{option_or}
use Rattle.std.specs.Simd.{first_chunks}
use Rattle.std.proofs.Common.{◌≡◌, ◌+◌, ◌*◌, ◌++◌, ◌<◌, ℕ, zero, suc, List, [], ◌∷◌, length, map, take, drop, get_or, if◌then◌else◌, arith, refl, sym, ap, ◌∙◌, eq-eqb}
use Rattle.std.proofs.lemmas.List.{length-map, length-take-le, length-drop}
use Rattle.std.proofs.lemmas.List.Folds.{flat_map-map}
use Rattle.std.proofs.lemmas.Simd.{map-map}
use Rattle.mysql_params_core.proofs.MissingLemmas.{list_any-map}
use Rattle.mysql_value_core.specs.declared.value.ValueRef.{ValueRef}
use Rattle.mysql_values.specs.declared.value.Value.{Value}
use Rattle.mysql_fragments.specs.BorrowedFragments.{AreSaid, Says, cell_item, cell_rows}
use Rattle.mysql_fragments.specs.BorrowedText.{borrowed_fault, borrowed_text, borrowed_values, cells_fault, first_borrowed_fault_from, first_borrowed_float_from, has_borrowed_float}
use Rattle.mysql_fragments.specs.FragmentErrors.{first_fault_from, first_float_from, has_float, is_float_item}
use Rattle.mysql_fragments.specs.FragmentFaults.{fault_of, items_fault, list_fault, row_fault, rows_fault, rows_fault_from}
use Rattle.mysql_fragments.specs.FragmentText.{all_values, filled_items, filled_text, fragment_values, item_values, joined}
use Rattle.mysql_fragments.specs.declared.fragment.Item.{Item}
use Rattle.mysql_fragments.specs.declared.fragment.Fragment.{Fragment}
use Rattle.mysql_fragments.specs.declared.fragment_ref.FragmentRef.{FragmentRef}
use Rattle.mysql_fragments.specs.declared.fragment_ref.FragmentRef.TheVariants as borrowed

-- the result for each row
same_rows : {Y : Type 0} (g : List Item → Y) (rows : List (Vec Item)) (cells : List (List ValueRef)) →
    map (λ row. row.items) rows ≡ map (map cell_item) cells →
    map (λ row. g row.items) rows ≡ map (λ row. g (map cell_item row)) cells
same_rows g rows cells e = sym (map-map g (λ row. row.items) rows) ∙ (ap (map g) e ∙ map-map g (map cell_item) cells)

said_text : (write : Value → List ℕ) (fragment : FragmentRef) (said : Fragment) → Says fragment said →
    filled_text write said ≡ borrowed_text write fragment
said_text write (borrowed.Owned fragment) said h = ap (filled_text write) h
said_text write (borrowed.Value value) said h = ap (filled_text write) h
said_text write (borrowed.List cells) said h = ap (filled_text write) h.1 ∙ ap (filled_items write) h.2
said_text write (borrowed.Rows rows) said h =
    ap (filled_text write) h.1
    ∙ ap (joined (codes ", ")) (same_rows (λ items. codes "(" ++ (filled_items write items ++ codes ")")) h.0.items (cell_rows rows) h.2)

said_values : (fragment : FragmentRef) (said : Fragment) → Says fragment said → fragment_values said ≡ borrowed_values fragment
said_values (borrowed.Owned fragment) said h = ap fragment_values h
said_values (borrowed.Value value) said h = ap fragment_values h
said_values (borrowed.List cells) said h = ap fragment_values h.1 ∙ ap (flat_map item_values) h.2
said_values (borrowed.Rows rows) said h =
    ap fragment_values h.1
    ∙ (sym (flat_map-map (flat_map item_values) (λ row. row.items) h.0.items)
    ∙ (ap (flat_map (flat_map item_values)) h.2 ∙ flat_map-map (flat_map item_values) (map cell_item) (cell_rows rows)))

said_float : (fragment : FragmentRef) (said : Fragment) → Says fragment said → has_float said ≡ has_borrowed_float fragment
said_float (borrowed.Owned fragment) said h = ap has_float h
said_float (borrowed.Value value) said h = ap has_float h
said_float (borrowed.List cells) said h = ap has_float h.1 ∙ ap (list_any is_float_item) h.2
said_float (borrowed.Rows rows) said h =
    ap has_float h.1
    ∙ (sym (list_any-map (list_any is_float_item) (λ row. row.items) h.0.items)
    ∙ (ap (list_any (list_any is_float_item)) h.2 ∙ list_any-map (list_any is_float_item) (map cell_item) (cell_rows rows)))

-- ---- faults

no_item_fault : (row index : ℕ) (cells : List ValueRef) → items_fault row index (map cell_item cells) ≡ None
no_item_fault row index [] = refl
no_item_fault row index (cell ∷ cells) = no_item_fault row (index + 1) cells

list_said : (cells : List ValueRef) → list_fault (map cell_item cells) ≡ cells_fault cells
list_said [] = refl
list_said (cell ∷ cells) = no_item_fault 0 1 cells

no_row_fault : (width row : ℕ) (cells : List ValueRef) → length cells ≡ width → 0 < width →
    row_fault width row (map cell_item cells) ≡ None
no_row_fault width row [] e some = absurd (omega (arith, e, some))
no_row_fault width row (cell ∷ cells) e some =
    let same : length (map cell_item (cell ∷ cells)) ≡ width = length-map (cell ∷ cells) cell_item ∙ e in
    rw (eq-eqb (length (map cell_item (cell ∷ cells))) width same) (no_item_fault row 1 cells)

-- each row has this many cells
AreWide : ℕ → List (List ValueRef) → Type 0
AreWide width [] = ⊤
AreWide width (row ∷ rows) = (length row ≡ width) × AreWide width rows

chunks_wide : (width count : ℕ) (cells : List ValueRef) → length cells ≡ count * width → AreWide width (first_chunks width count cells)
unfolding AreWide
chunks_wide width zero cells e = tt
chunks_wide width (suc count) cells e =
    let more : suc count * width ≡ width + count * width = omega arith in (
      length-take-le width cells (omega (arith, e, more)),
      chunks_wide width count (drop width cells) (omega (arith, length-drop width cells, e, more)),
    )

no_rows_fault : (width row : ℕ) (rows : List (Vec Item)) (cells : List (List ValueRef)) →
    map (λ r. r.items) rows ≡ map (map cell_item) cells → AreWide width cells → 0 < width →
    rows_fault_from width row rows ≡ None
unfolding AreWide
no_rows_fault width row [] cells e wide some = refl
no_rows_fault width row (r ∷ rows) [] e wide some = absurd (omega (arith, ap length e))
no_rows_fault width row (r ∷ rows) (c ∷ cells) e wide some =
    let here : r.items ≡ map cell_item c = ap (λ l. get_or l 0 []) e in
    ap (λ x. option_or x (rows_fault_from width (row + 1) rows)) (ap (row_fault width row) here ∙ no_row_fault width row c wide.0 some)
    ∙ no_rows_fault width (row + 1) rows cells (ap (drop 1) e) wide.1 some

rows_said : (width count : ℕ) (rows : List (Vec Item)) (cells : List ValueRef) →
    map (λ r. r.items) rows ≡ map (map cell_item) (first_chunks width count cells) → length cells ≡ count * width → 0 < count → 0 < width →
    rows_fault rows ≡ None
rows_said width zero rows cells e shape some wide = absurd (omega (arith, some))
rows_said width (suc count) [] cells e shape some wide = absurd (omega (arith, ap length e))
rows_said width (suc count) (r ∷ rows) cells e shape some wide =
    let all = chunks_wide width (suc count) cells shape in
    let more : suc count * width ≡ width + count * width = omega arith in
    let here : r.items ≡ map cell_item (take width cells) = ap (λ l. get_or l 0 []) e in
    let long : length r.items ≡ width = ap length here ∙ (length-map (take width cells) cell_item ∙ length-take-le width cells (omega (arith, shape, more))) in
    ap (λ n. rows_fault_from n 0 (r ∷ rows)) long ∙ no_rows_fault width 0 (r ∷ rows) (first_chunks width (suc count) cells) e all wide

said_fault : (fragment : FragmentRef) (said : Fragment) → Says fragment said → fault_of said ≡ borrowed_fault fragment
said_fault (borrowed.Owned fragment) said h = ap fault_of h
said_fault (borrowed.Value value) said h = ap fault_of h
said_fault (borrowed.List cells) said h = ap fault_of h.1 ∙ (ap list_fault h.2 ∙ list_said cells.now)
said_fault (borrowed.Rows rows) said h =
    ap fault_of h.1 ∙ rows_said rows.width rows.count h.0.items rows.cells.now h.2 rows.shape.0 rows.shape.1 rows.shape.2

-- ---- lists of fragments

pub said_count : (fragments : List FragmentRef) (said : List Fragment) → AreSaid fragments said → length said ≡ length fragments
said_count [] [] h = refl
said_count [] (f ∷ said) h = absurd h
said_count (r ∷ fragments) [] h = absurd h
said_count (r ∷ fragments) (f ∷ said) h = ap suc (said_count fragments said h.1)

pub said_texts : (write : Value → List ℕ) (fragments : List FragmentRef) (said : List Fragment) → AreSaid fragments said →
    map (filled_text write) said ≡ map (borrowed_text write) fragments
said_texts write [] [] h = refl
said_texts write [] (f ∷ said) h = absurd h
said_texts write (r ∷ fragments) [] h = absurd h
said_texts write (r ∷ fragments) (f ∷ said) h =
    ap (λ x. x ∷ map (filled_text write) said) (said_text write r f h.0) ∙ ap (λ xs. borrowed_text write r ∷ xs) (said_texts write fragments said h.1)

pub said_all_values : (fragments : List FragmentRef) (said : List Fragment) → AreSaid fragments said →
    all_values said ≡ flat_map borrowed_values fragments
said_all_values [] [] h = refl
said_all_values [] (f ∷ said) h = absurd h
said_all_values (r ∷ fragments) [] h = absurd h
said_all_values (r ∷ fragments) (f ∷ said) h =
    ap (λ x. x ++ all_values said) (said_values r f h.0) ∙ ap (λ xs. borrowed_values r ++ xs) (said_all_values fragments said h.1)

pub said_first_float : (place : ℕ) (fragments : List FragmentRef) (said : List Fragment) → AreSaid fragments said →
    first_float_from place said ≡ first_borrowed_float_from place fragments
said_first_float place [] [] h = refl
said_first_float place [] (f ∷ said) h = absurd h
said_first_float place (r ∷ fragments) [] h = absurd h
said_first_float place (r ∷ fragments) (f ∷ said) h =
    ap (λ b. if b then Some place else first_float_from (place + 1) said) (said_float r f h.0)
    ∙ ap (λ x. if has_borrowed_float r then Some place else x) (said_first_float (place + 1) fragments said h.1)

pub said_first_fault : (place : ℕ) (fragments : List FragmentRef) (said : List Fragment) → AreSaid fragments said →
    first_fault_from place said ≡ first_borrowed_fault_from place fragments
said_first_fault place [] [] h = refl
said_first_fault place [] (f ∷ said) h = absurd h
said_first_fault place (r ∷ fragments) [] h = absurd h
said_first_fault place (r ∷ fragments) (f ∷ said) h =
    ap (λ b. option_or (option_map (λ fault. (place, fault)) b) (first_fault_from (place + 1) said)) (said_fault r f h.0)
    ∙ ap (λ x. option_or (option_map (λ fault. (place, fault)) (borrowed_fault r)) x) (said_first_fault (place + 1) fragments said h.1)
