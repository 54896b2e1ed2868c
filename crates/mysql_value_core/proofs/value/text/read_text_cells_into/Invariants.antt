use Rattle.std.proofs.Common.{◌≡◌, ◌-◌, ◌≤◌, ◌++◌, ◌⊎◌, vec_len, vec_capacity}
use Rattle.mysql_wire_part.specs.ParseBuf.{left}
use Rattle.mysql_wire_part.specs.Reading.{map_read}
use Rattle.mysql_value_core.specs.BorrowedValue.{owned_values}
use Rattle.mysql_value_core.specs.TextCell.{read_cells, ReadsACell}
use Rattle.mysql_value_core.proofs.value.text.read_text_cells_into.Given as goal

abbrev pub invariant-loop : goal.invariant-loop
invariant-loop l = record {
  within : l.counter ≤ l.count;
  read_on : read_cells l.count (left l.fn.buf)
      ≡ map_read (λ cells. owned_values l.cells.items ++ cells)
      (read_cells (l.count - l.counter) (left l.rest));
  first : ((l.counter ≡ 0) × (left l.rest ≡ left l.fn.buf)) ⊎ ReadsACell l.count (left l.fn.buf);
  full : vec_len l.cells ≡ l.counter;
  room : vec_capacity l.fn.cells ≤ vec_capacity l.cells;
}
