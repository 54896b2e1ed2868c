-- The text that is written for a row of a table, and why nothing is written: the same as for all
-- assignments that say the same as the row's cells.
use Rattle.std.specs.Prelude.{ℕ, List}
use Rattle.mysql_bind_core.specs.Bound.{IsAssignedText, IsWritten}
use Rattle.mysql_bind_core.specs.Cells.{AreAssigned, TableQuery}
use Rattle.mysql_bind_core.specs.Refusals.{IsRefusal}
use Rattle.mysql_bind_core.specs.declared.assignment.Assignment.{Assignment}
use Rattle.mysql_bind_core.specs.declared.cell.Cell.{Cell}
use Rattle.mysql_bind_core.specs.declared.failure.Failure.{Failure}

-- the text is written for all assignments that say the same as the cells
abbrev pub IsRowText : TableQuery → List Cell → List ℕ → Type 0
IsRowText query cells text = (assignments : List Assignment) →
    AreAssigned query.columns cells assignments →
    IsWritten query.request query.query assignments text

-- the same, whether or not the text is portable
abbrev pub IsAssignedRowText : TableQuery → List Cell → List ℕ → Type 0
IsAssignedRowText query cells text = (assignments : List Assignment) →
    AreAssigned query.columns cells assignments →
    IsAssignedText query.request query.query assignments text

-- why nothing is written for all assignments that say the same as the cells
abbrev pub IsRowRefusal : TableQuery → List Cell → Failure → Type 0
IsRowRefusal query cells why = (assignments : List Assignment) →
    AreAssigned query.columns cells assignments →
    IsRefusal query.request query.query assignments why
