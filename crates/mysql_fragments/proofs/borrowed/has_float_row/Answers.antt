use Rattle.std.proofs.Common.{sym, ◌∙◌, arith}
use Rattle.mysql_fragments.specs.BorrowedFragments.{cell_rows}
use Rattle.mysql_fragments.specs.BorrowedText.{has_float_cell}
use Rattle.mysql_fragments.proofs.CellLemmas.{any_found, any_next, any_none, row_count, row_is}
use Rattle.mysql_fragments.proofs.borrowed.has_float_row.Goals as goal

pub returns-then-has_float_cell : goal.returns-then-has_float_cell
returns-then-has_float_cell c =
    sym (any_found has_float_cell (cell_rows c.args.rows.now) c.loop-r.r c.row.result.now (omega (arith, c.loop-r-test.true, c.len-r-end.ensures, row_count c.args.rows.now.width c.args.rows.now.count c.args.rows.now.cells.now)) (row_is c.args.rows.now.width c.args.rows.now.count c.args.rows.now.cells.now c.row.result.now c.loop-r.r (omega (arith, c.loop-r-test.true, c.len-r-end.ensures)) c.row.ensures) c.loop-r.invariant
    (sym c.has_float_cell.ensures ∙ c.if-has_float_cell.true))

pub loop-r-preserved : goal.loop-r-preserved
loop-r-preserved c =
    any_next has_float_cell (cell_rows c.args.rows.now) c.loop-r.r c.row.result.now (omega (arith, c.loop-r-test.true, c.len-r-end.ensures, row_count c.args.rows.now.width c.args.rows.now.count c.args.rows.now.cells.now)) (row_is c.args.rows.now.width c.args.rows.now.count c.args.rows.now.cells.now c.row.result.now c.loop-r.r (omega (arith, c.loop-r-test.true, c.len-r-end.ensures)) c.row.ensures) c.loop-r.invariant
    (sym c.has_float_cell.ensures ∙ c.if-has_float_cell.false)

pub returns : goal.returns
returns c =
    sym (any_none has_float_cell (cell_rows c.args.rows.now) c.loop-r.r (omega (arith, c.loop-r-test.false, c.len-r-end.ensures, row_count c.args.rows.now.width c.args.rows.now.count c.args.rows.now.cells.now)) c.loop-r.invariant)
