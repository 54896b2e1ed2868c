use Rattle.std.proofs.Common.{◌≡◌, ◌∙◌, ◌++◌, ◌∷◌, [], arith, ◌+◌, ◌-◌, sym, ap, inr}
use Rattle.std.specs.Prelude.{is_ok}
use Rattle.std.proofs.lemmas.Bool.{cond-true}
use Rattle.mysql_value_core.proofs.TextCellLemmas.{row_after, next_cell, first_cell, cell_refused}
use Rattle.mysql_wire_part.specs.ParseBuf.{left}
use Rattle.mysql_value_core.specs.TextCell.{read_cells}
use Rattle.mysql_value_core.proofs.value.text.read_text_cells.Goals as goal

pub returns-in_err-cell-clause-read : goal.returns-in_err-cell-clause-read
returns-in_err-cell-clause-read c =
    cell_refused c.args.count c.loop.counter (left c.args.buf.now) (left c.loop.rest)
    c.loop.cells.items (omega arith) c.loop.invariant.read_on c.loop.invariant.first
    (λ cell. (cell, left c.eat_cell.new.buf)) _ c.in_err-cell.field-0.0 c.from_residual.result c.from_residual.ensures.1
    c.in_err-cell.ensures.read

pub loop-preserved : goal.loop-preserved
loop-preserved c =
    let pushed : c.push.new.self.items ≡ c.loop.cells.items ++ c.in_ok-cell.cell ∷ [] =
    c.push.ensures.items ∙ cond-true (is_ok c.push.result) _ _ (sym c.in_ok-map_err.ensures.variant)
    ∙ ap (λ cells. cells ++ c.in_ok-cell.cell ∷ []) c.reserve_once.ensures in
    record {
      within = omega arith;
      read_on =
          next_cell c.args.count c.loop.counter (left c.args.buf.now) (left c.loop.rest)
          c.loop.cells.items (omega arith) c.loop.invariant.read_on
          c.in_ok-cell.cell (left c.eat_cell.new.buf) c.in_ok-cell.ensures.read
          ∙ ap (λ cells. row_after cells
          (read_cells (c.args.count - (c.loop.counter + 1)) (left c.eat_cell.new.buf)))
          (sym pushed);
      first = inr (first_cell c.args.count c.loop.counter (left c.args.buf.now) (left c.loop.rest)
          c.loop.cells.items (omega arith) c.loop.invariant.read_on c.loop.invariant.first
          (ap is_ok c.in_ok-cell.ensures.read));
    }
