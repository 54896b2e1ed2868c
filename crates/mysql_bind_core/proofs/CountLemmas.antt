-- Lists that are read element by element: each fits into memory, and how many are used.
use Rattle.std.proofs.Common.{◌≡◌, ◌∙◌, ℕ, Bool, true, false, suc, zero, ◌+◌, ◌<◌, ◌≤◌, ◌^◌, List, [], ◌∷◌, length, drop, get_or, refl, ap, sym, subst, arith}
use Rattle.std.specs.Prelude.{All, if◌then◌else◌, ⊤}
use Rattle.std.specs.Borrow.{Bor}
use Rattle.std.proofs.lemmas.List.{drop_all, get_or-map, length-map}
use Rattle.mysql_params_core.specs.Referents.{referents}
use Rattle.mysql_query_core.proofs.WordLemmas.{drop_index}
use Rattle.mysql_bind_core.specs.Tables.{used_count}
use Rattle.mysql_bind_core.specs.declared.cell.Cell.{Cell}
use Rattle.mysql_bind_core.specs.declared.table_form.TableColumn.{TableColumn}

-- ---- names

-- each name fits into memory
abbrev pub NamesFit : List (List ℕ) → Type 0
NamesFit [] = ⊤
NamesFit (name ∷ names) = (length name < 2 ^ 63) × NamesFit names

pub names_next : (names : List (Bor (List ℕ))) (i : ℕ) (d : Bor (List ℕ)) → i < length names → length (get_or names i d).now < 2 ^ 63 →
    (NamesFit (drop i (referents names)) → NamesFit (referents names)) → NamesFit (drop (i + 1) (referents names)) → NamesFit (referents names)
names_next names i d within small so_far h = so_far (subst NamesFit (sym seen) (small, h))
  where
    long : i < length (referents names)
    long = omega (arith, length-map names (λ (r : Bor (List ℕ)). r.now), within)

    seen : drop i (referents names) ≡ (get_or names i d).now ∷ drop (i + 1) (referents names)
    seen = drop_index (referents names) i (get_or names i d).now long
        ∙ ap (λ n. n ∷ drop (i + 1) (referents names))
        (get_or-map (λ (r : Bor (List ℕ)). r.now) names i d (get_or names i d).now within)

all_names : (names : List (List ℕ)) → NamesFit names → All (λ name. length name < 2 ^ 63) names
all_names [] h k d below = absurd (omega (arith, below))
all_names (n ∷ ns) h zero d below = h.0
all_names (n ∷ ns) h (suc k) d below = all_names ns h.1 k d (omega (arith, below))

pub names_read : (names : List (Bor (List ℕ))) (i : ℕ) → length names ≤ i → (NamesFit (drop i (referents names)) → NamesFit (referents names)) →
    All (λ name. length name < 2 ^ 63) (referents names)
names_read names i past so_far =
    all_names (referents names) (so_far (subst NamesFit (sym (drop_all i (referents names) (omega (arith, length-map names (λ (r : Bor (List ℕ)). r.now), past)))) tt))

-- ---- cells

-- the bytes of each cell fit into memory
abbrev pub CellsFit : List Cell → Type 0
CellsFit [] = ⊤
CellsFit (cell ∷ cells) = (length cell.bytes.now < 2 ^ 63) × CellsFit cells

pub cells_next : (cells : List Cell) (i : ℕ) (d : Cell) → i < length cells → length (get_or cells i d).bytes.now < 2 ^ 63 →
    (CellsFit (drop i cells) → CellsFit cells) → CellsFit (drop (i + 1) cells) → CellsFit cells
cells_next cells i d within small so_far h = so_far (subst CellsFit (sym (drop_index cells i d within)) (small, h))

all_cells : (cells : List Cell) → CellsFit cells → All (λ (cell : Cell). length cell.bytes.now < 2 ^ 63) cells
all_cells [] h k d below = absurd (omega (arith, below))
all_cells (n ∷ ns) h zero d below = h.0
all_cells (n ∷ ns) h (suc k) d below = all_cells ns h.1 k d (omega (arith, below))

pub cells_read : (cells : List Cell) (i : ℕ) → length cells ≤ i → (CellsFit (drop i cells) → CellsFit cells) →
    All (λ (cell : Cell). length cell.bytes.now < 2 ^ 63) cells
cells_read cells i past so_far = all_cells cells (so_far (subst CellsFit (sym (drop_all i cells past)) tt))

-- ---- columns that are used

count_if : (used : Bool) (n : ℕ) → (if used then n + 1 else n) ≡ (if used then 0 + 1 else 0) + n
count_if true n = omega arith
count_if false n = omega arith

pub used_next : (columns : List TableColumn) (i count one : ℕ) (d : TableColumn) → i < length columns → one ≡ used_count (get_or columns i d ∷ []) →
    count + used_count (drop i columns) ≡ used_count columns → count + one + used_count (drop (i + 1) columns) ≡ used_count columns
used_next columns i count one d within is so_far =
    let rest = drop (i + 1) columns in
    let step : used_count (drop i columns) ≡ one + used_count rest =
    ap used_count (drop_index columns i d within) ∙ count_if (get_or columns i d).used (used_count rest) ∙ ap (λ n. n + used_count rest) (sym is) in
    omega (arith, step, so_far)

pub used_all : (columns : List TableColumn) (i count : ℕ) → length columns ≤ i → count + used_count (drop i columns) ≡ used_count columns →
    count ≡ used_count columns
used_all columns i count past so_far = omega (arith, ap used_count (drop_all i columns past), so_far)
