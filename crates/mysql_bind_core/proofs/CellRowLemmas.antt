-- The text of a row of cells at the end of a script.
use Rattle.std.specs.Prelude.{Some, Result, Ok, Err, OnOk}
use Rattle.std.specs.List.{slice_get}
use Rattle.std.proofs.Common.{◌≡◌, ◌++◌, ◌∙◌, ℕ, List, length, map, ap, sym}
use Rattle.std.proofs.lemmas.List.{length-map}
use Rattle.mysql_values.specs.declared.value.Value.{Value}
use Rattle.mysql_binding.specs.ParsedQuery.{QueryInMode}
use Rattle.mysql_bind_core.specs.Bound.{IsTaken}
use Rattle.mysql_bind_core.specs.Cells.{cell_value, value_said}
use Rattle.mysql_bind_core.specs.FoundPairs.{IsValuesText}
use Rattle.mysql_bind_core.specs.MatchedQuery.{HaveNumbers}
use Rattle.mysql_bind_core.specs.Requests.{mode_of}
use Rattle.mysql_bind_core.specs.RowTexts.{IsAssignedRowText}
use Rattle.mysql_bind_core.specs.declared.cell.Cell.{Cell}
use Rattle.mysql_bind_core.specs.declared.cell.CellValue.{CellValue}
use Rattle.mysql_bind_core.specs.declared.request.Request.{Request}
use Rattle.mysql_bind_core.proofs.AppendedRowLemmas.{AppendedFor, pairs_appended}
use Rattle.mysql_bind_core.proofs.CellLemmas.{paired, row_pairs}
use Rattle.mysql_bind_core.proofs.MatchedLemmas.{cells_found, found_values}
use Rattle.mysql_bind_core.proofs.PairsTextLemmas.{pairs_assigned}

pub on_ok : {A E : Type 0} (r : Result A E) (P Q : Type 0) → (P → Q) → OnOk r P → OnOk r Q
on_ok (Ok a) P Q f p = f p
on_ok (Err e) P Q f p = tt

-- each cell has one of these values
abbrev pub HaveValues : List Cell → List CellValue → Type 0
HaveValues cells vs = map cell_value cells ≡ map (λ v. Some (value_said v)) vs

pub values_length : (cells : List Cell) (vs : List CellValue) → HaveValues cells vs → length (map value_said vs) ≡ length cells
values_length cells vs e =
    length-map vs value_said ∙ sym (length-map vs (λ v. Some (value_said v))) ∙ sym (ap length e) ∙ length-map cells cell_value

module _ (q : QueryInMode) (request : Request) (columns : List (List ℕ)) (numbers : List ℕ) (cells : List Cell) (vs : List CellValue) (placed : List Value)
    (taken : IsTaken request q.query) (mode : q.mode ≡ mode_of request.literals) (are : HaveNumbers q columns numbers)
    (same : length cells ≡ length columns) (have : HaveValues cells vs)
    (found : map (slice_get (map value_said vs)) numbers ≡ map (λ v. Some v) placed) where
  -- the text is that of all assignments that say what the cells do, and of values
  pub cells_appended : (before after : List ℕ) → AppendedFor request q.query placed before after q.mode →
      (text : List ℕ) × IsAssignedRowText (record { query = q.query; columns = columns; request = request }) cells text
      × IsValuesText request q.query text × (after ≡ before ++ text)
  cells_appended before after appended =
      let given = cells_found q request columns numbers (map value_said vs) placed taken mode are (values_length cells vs have ∙ same) found in
      let t = pairs_appended request q.query placed before after (paired columns (map value_said vs)) q.mode given appended in (
        t.0,
        λ assigned said.
            let row = row_pairs columns cells (map value_said vs) assigned said (have ∙ found_values value_said vs) in
            pairs_assigned request q.query assigned (paired columns (map value_said vs)) t.0 taken.steady row.1 row.0 t.1,
        (t.1.given, t.1.bound),
        t.2,
      )
