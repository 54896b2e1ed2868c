use Rattle.std.proofs.Common.{◌≡◌, ◌∙◌, ◌++◌, ◌∷◌, ◌<◌, ◌+◌, [], length, drop, arith, ap, sym}
use Rattle.std.specs.Prelude.{is_ok, vec_capacity}
use Rattle.std.proofs.lemmas.Bool.{cond-true}
use Rattle.std.proofs.lemmas.List.{map-append}
use Rattle.mysql_wire_part.specs.ParseBuf.{left}
use Rattle.mysql_value_core.specs.BorrowedValue.{owned, owned_values}
use Rattle.mysql_value_core.specs.BinaryRow.{bitmap_bytes, read_columns}
use Rattle.mysql_value_core.proofs.TextCellLemmas.{row_after}
use Rattle.mysql_value_core.proofs.BinaryRowLemmas.{next_column, refused_column}
use Rattle.mysql_value_core.proofs.value.binary_row.eat_columns.Goals as goal

pub returns-in_err-cell-clause-read : goal.returns-in_err-cell-clause-read
returns-in_err-cell-clause-read c =
    refused_column (bitmap_bytes c.args.bitmap) c.args.columns.now c.loop-i.i
    (left c.args.buf.now) (left c.loop-i.buf) (owned_values c.loop-i.cells.items)
    (omega arith) c.loop-i.invariant.read_on c.is_null.result c.is_null.ensures.bit _
    (λ value. (owned value, left c.eat_column.new.buf)) _
    (vec_capacity c.args.cells.now < length c.args.columns.now)
    c.in_err-cell.field-0.0 c.from_residual.result c.from_residual.ensures.1
    c.in_err-cell.ensures.read

pub loop-i-preserved : goal.loop-i-preserved
loop-i-preserved c =
    let ok = sym c.in_ok-map_err.ensures.variant in
    let pushed : owned_values c.push.new.self.items
    ≡ owned_values c.loop-i.cells.items ++ owned c.in_ok-cell.cell ∷ [] =
    ap owned_values (c.push.ensures.items ∙ cond-true (is_ok c.push.result) _ _ ok)
    ∙ map-append owned c.loop-i.cells.items (c.in_ok-cell.cell ∷ []) in
    record {
      read_on =
          next_column (bitmap_bytes c.args.bitmap) c.args.columns.now c.loop-i.i
          (left c.args.buf.now) (left c.loop-i.buf) (owned_values c.loop-i.cells.items)
          (omega arith) c.loop-i.invariant.read_on c.is_null.result c.is_null.ensures.bit _
          (owned c.in_ok-cell.cell) (left c.eat_column.new.buf) c.in_ok-cell.ensures.read
          ∙ ap (λ cells. row_after cells (read_columns (bitmap_bytes c.args.bitmap)
          (c.loop-i.i + 1) (drop (c.loop-i.i + 1) c.args.columns.now)
          (left c.eat_column.new.buf))) (sym pushed);
      full =
          c.push.ensures.len ∙ cond-true (is_ok c.push.result) _ _ ok
          ∙ ap (λ n. n + 1) c.loop-i.invariant.full;
      room = omega (arith, c.push.ensures.capacity, c.loop-i.invariant.room);
    }
