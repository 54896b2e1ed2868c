use Rattle.std.proofs.Common.{◌+◌, ◌++◌, [], length, map, take, take_all, get_or, ap, ◌∙◌, arith}
use Rattle.std.specs.Prelude.{codes}
use Rattle.mysql_binding.specs.LiteralForm.{written_literal}
use Rattle.mysql_fragments.specs.BorrowedFragments.{cell_rows}
use Rattle.mysql_fragments.specs.BorrowedText.{cell_row_text, cell_values}
use Rattle.mysql_fragments.specs.FragmentText.{joined}
use Rattle.mysql_fragments.proofs.JoinedLemmas.{appended_next, joined_fits, joined_len}
use Rattle.mysql_fragments.proofs.CellLemmas.{element_is, row_count, row_is}
use Rattle.mysql_fragments.proofs.FilledLemmas.{known_all, known_step}
use Rattle.mysql_fragments.proofs.filled_refs.append_cell_rows.Goals as goal

pub append_separator-end-requires : goal.append_separator-end-requires
append_separator-end-requires g c = record {
  room = omega (arith, c.requires.room, c.loop-r.invariant.0, c.loop-r.invariant.2, joined_fits (codes ", ") (cell_row_text (written_literal (g.F.LiteralForm.literal c.args.form.now))) (cell_rows c.args.rows.now) c.loop-r.r (get_or (cell_rows c.args.rows.now) c.loop-r.r []) (omega (arith, c.loop-r-test.true, c.len-r-end.ensures, row_count c.args.rows.now.width c.args.rows.now.count c.args.rows.now.cells.now)) (element_is (cell_rows c.args.rows.now) c.loop-r.r [] (omega (arith, c.loop-r-test.true, c.len-r-end.ensures, row_count c.args.rows.now.width c.args.rows.now.count c.args.rows.now.cells.now))));
}

pub append_cell_row-end-requires : goal.append_cell_row-end-requires
append_cell_row-end-requires g c = record {
  room = omega (arith, c.requires.room, c.loop-r.invariant.0, c.loop-r.invariant.2, c.append_separator-end.ensures.next, c.append_separator-end.auto.text, joined_fits (codes ", ") (cell_row_text (written_literal (g.F.LiteralForm.literal c.args.form.now))) (cell_rows c.args.rows.now) c.loop-r.r c.row.result.now (omega (arith, c.loop-r-test.true, c.len-r-end.ensures, row_count c.args.rows.now.width c.args.rows.now.count c.args.rows.now.cells.now)) (row_is c.args.rows.now.width c.args.rows.now.count c.args.rows.now.cells.now c.row.result.now c.loop-r.r (omega (arith, c.loop-r-test.true, c.len-r-end.ensures)) c.row.ensures));
}

pub loop-r-preserved : goal.loop-r-preserved
loop-r-preserved g c = (
  omega (arith, c.loop-r.invariant.0, c.append_separator-end.ensures.next, c.append_cell_row-end.ensures.next, joined_len (codes ", ") (cell_row_text (written_literal (g.F.LiteralForm.literal c.args.form.now))) (cell_rows c.args.rows.now) c.loop-r.r c.row.result.now (omega (arith, c.loop-r-test.true, c.len-r-end.ensures, row_count c.args.rows.now.width c.args.rows.now.count c.args.rows.now.cells.now)) (row_is c.args.rows.now.width c.args.rows.now.count c.args.rows.now.cells.now c.row.result.now c.loop-r.r (omega (arith, c.loop-r-test.true, c.len-r-end.ensures)) c.row.ensures)),
  appended_next (codes ", ") (cell_row_text (written_literal (g.F.LiteralForm.literal c.args.form.now))) (cell_rows c.args.rows.now) c.loop-r.r c.row.result.now _ _ _ _ (omega (arith, c.loop-r-test.true, c.len-r-end.ensures, row_count c.args.rows.now.width c.args.rows.now.count c.args.rows.now.cells.now)) (row_is c.args.rows.now.width c.args.rows.now.count c.args.rows.now.cells.now c.row.result.now c.loop-r.r (omega (arith, c.loop-r-test.true, c.len-r-end.ensures)) c.row.ensures) c.loop-r.invariant.1 c.append_separator-end.ensures.front c.append_cell_row-end.ensures.front,
  omega (arith, c.loop-r.invariant.2, c.append_separator-end.auto.text, c.append_cell_row-end.auto.text),
  known_step (g.F.LiteralForm.literal c.args.form.now) (g.F.LiteralForm.IsKnown c.args.form.now) cell_values (cell_rows c.args.rows.now) c.loop-r.r c.row.result.now (omega (arith, c.loop-r-test.true, c.len-r-end.ensures, row_count c.args.rows.now.width c.args.rows.now.count c.args.rows.now.cells.now)) (row_is c.args.rows.now.width c.args.rows.now.count c.args.rows.now.cells.now c.row.result.now c.loop-r.r (omega (arith, c.loop-r-test.true, c.len-r-end.ensures)) c.row.ensures) c.loop-r.invariant.3 c.append_cell_row-end.ensures.known,
)

pub returns-clause-known : goal.returns-clause-known
returns-clause-known g c =
    known_all (g.F.LiteralForm.literal c.args.form.now) (g.F.LiteralForm.IsKnown c.args.form.now) cell_values (cell_rows c.args.rows.now) c.loop-r.r (omega (arith, c.loop-r-test.false, c.len-r-end.ensures, row_count c.args.rows.now.width c.args.rows.now.count c.args.rows.now.cells.now)) c.loop-r.invariant.3

pub returns-clause-next : goal.returns-clause-next
returns-clause-next g c = c.loop-r.invariant.0 ∙ ap (λ xs. c.args.at + length (joined (codes ", ") (map (cell_row_text (written_literal (g.F.LiteralForm.literal c.args.form.now))) xs))) (take_all c.loop-r.r (cell_rows c.args.rows.now) (omega (arith, c.loop-r-test.false, c.len-r-end.ensures, row_count c.args.rows.now.width c.args.rows.now.count c.args.rows.now.cells.now)))

pub returns-clause-front : goal.returns-clause-front
returns-clause-front g c = c.loop-r.invariant.1 ∙ ap (λ xs. take c.args.at c.args.text.now ++ joined (codes ", ") (map (cell_row_text (written_literal (g.F.LiteralForm.literal c.args.form.now))) xs)) (take_all c.loop-r.r (cell_rows c.args.rows.now) (omega (arith, c.loop-r-test.false, c.len-r-end.ensures, row_count c.args.rows.now.width c.args.rows.now.count c.args.rows.now.cells.now)))
