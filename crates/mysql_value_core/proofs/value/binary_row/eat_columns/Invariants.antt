use Rattle.std.proofs.Common.{◌≡◌, ◌≤◌, ◌++◌, drop, vec_len, vec_capacity}
use Rattle.mysql_wire_part.specs.ParseBuf.{left}
use Rattle.mysql_wire_part.specs.Reading.{map_read}
use Rattle.mysql_value_core.specs.BorrowedValue.{owned_values}
use Rattle.mysql_value_core.specs.BinaryRow.{bitmap_bytes, read_columns}
use Rattle.mysql_value_core.proofs.value.binary_row.eat_columns.Given as goal

abbrev pub invariant-loop-i : goal.invariant-loop-i
invariant-loop-i l = record {
  read_on : read_columns (bitmap_bytes l.bitmap) 0 l.columns (left l.fn.buf)
      ≡ map_read (λ cells. owned_values l.cells.items ++ cells)
      (read_columns (bitmap_bytes l.bitmap) l.i (drop l.i l.columns) (left l.buf));
  full : vec_len l.cells ≡ l.i;
  room : vec_capacity l.fn.cells ≤ vec_capacity l.cells;
}
