use Rattle.std.proofs.Common.{◌+◌, [], length, map, get_or, take_all, refl, ap, ◌∙◌, arith}
use Rattle.std.specs.Prelude.{codes}
use Rattle.mysql_binding.specs.LiteralForm.{written_literal}
use Rattle.mysql_binding.specs.MeasuredText.{IsOfFields}
use Rattle.mysql_fragments.specs.BorrowedFragments.{cell_rows}
use Rattle.mysql_fragments.specs.BorrowedText.{cell_row_text, cell_values}
use Rattle.mysql_fragments.specs.FragmentText.{joined}
use Rattle.mysql_fragments.proofs.FilledLemmas.{known_all, known_step}
use Rattle.mysql_fragments.proofs.JoinedLemmas.{joined_fits, joined_len}
use Rattle.mysql_fragments.proofs.CellLemmas.{element_is, row_count, row_is}
use Rattle.mysql_fragments.proofs.borrowed.with_cell_rows.Goals as goal

pub returns-in_err-sum-clause-too_long : goal.returns-in_err-sum-clause-too_long
returns-in_err-sum-clause-too_long g c = λ none.
    omega (arith, c.loop-r.invariant.0, c.in_err-sum.ensures.too_long refl, joined_fits (codes ", ") (cell_row_text (written_literal (g.F.LiteralForm.literal c.args.form.now))) (cell_rows c.args.rows.now) c.loop-r.r (get_or (cell_rows c.args.rows.now) c.loop-r.r []) (omega (arith, c.loop-r-test.true, c.len-r-end.ensures, row_count c.args.rows.now.width c.args.rows.now.count c.args.rows.now.cells.now)) (element_is (cell_rows c.args.rows.now) c.loop-r.r [] (omega (arith, c.loop-r-test.true, c.len-r-end.ensures, row_count c.args.rows.now.width c.args.rows.now.count c.args.rows.now.cells.now))))

pub returns-in_err-sum-2-clause-too_long : goal.returns-in_err-sum-2-clause-too_long
returns-in_err-sum-2-clause-too_long g c = λ none.
    omega (arith, c.loop-r.invariant.0, c.in_ok-sum.ensures.len, c.in_err-sum-2.ensures.too_long refl, joined_fits (codes ", ") (cell_row_text (written_literal (g.F.LiteralForm.literal c.args.form.now))) (cell_rows c.args.rows.now) c.loop-r.r c.row.result.now (omega (arith, c.loop-r-test.true, c.len-r-end.ensures, row_count c.args.rows.now.width c.args.rows.now.count c.args.rows.now.cells.now)) (row_is c.args.rows.now.width c.args.rows.now.count c.args.rows.now.cells.now c.row.result.now c.loop-r.r (omega (arith, c.loop-r-test.true, c.len-r-end.ensures)) c.row.ensures))

pub loop-r-preserved : goal.loop-r-preserved
loop-r-preserved g c = (
  omega (arith, c.loop-r.invariant.0, c.in_ok-sum.ensures.len, c.in_ok-sum-2.ensures.len, joined_len (codes ", ") (cell_row_text (written_literal (g.F.LiteralForm.literal c.args.form.now))) (cell_rows c.args.rows.now) c.loop-r.r c.row.result.now (omega (arith, c.loop-r-test.true, c.len-r-end.ensures, row_count c.args.rows.now.width c.args.rows.now.count c.args.rows.now.cells.now)) (row_is c.args.rows.now.width c.args.rows.now.count c.args.rows.now.cells.now c.row.result.now c.loop-r.r (omega (arith, c.loop-r-test.true, c.len-r-end.ensures)) c.row.ensures)),
  known_step (g.F.LiteralForm.literal c.args.form.now) IsOfFields cell_values (cell_rows c.args.rows.now) c.loop-r.r c.row.result.now (omega (arith, c.loop-r-test.true, c.len-r-end.ensures, row_count c.args.rows.now.width c.args.rows.now.count c.args.rows.now.cells.now)) (row_is c.args.rows.now.width c.args.rows.now.count c.args.rows.now.cells.now c.row.result.now c.loop-r.r (omega (arith, c.loop-r-test.true, c.len-r-end.ensures)) c.row.ensures) c.loop-r.invariant.1 c.in_ok-sum-2.ensures.known,
)

pub returns-clause-len : goal.returns-clause-len
returns-clause-len g c = c.loop-r.invariant.0 ∙ ap (λ xs. c.args.len + length (joined (codes ", ") (map (cell_row_text (written_literal (g.F.LiteralForm.literal c.args.form.now))) xs))) (take_all c.loop-r.r (cell_rows c.args.rows.now) (omega (arith, c.loop-r-test.false, c.len-r-end.ensures, row_count c.args.rows.now.width c.args.rows.now.count c.args.rows.now.cells.now)))

pub returns-clause-known : goal.returns-clause-known
returns-clause-known g c =
    known_all (g.F.LiteralForm.literal c.args.form.now) IsOfFields cell_values (cell_rows c.args.rows.now) c.loop-r.r (omega (arith, c.loop-r-test.false, c.len-r-end.ensures, row_count c.args.rows.now.width c.args.rows.now.count c.args.rows.now.cells.now)) c.loop-r.invariant.1
