use Rattle.std.proofs.Common.{◌+◌, length, get_or, map, take_all, refl, ap, ◌∙◌, arith}
use Rattle.std.specs.Prelude.{codes}
use Rattle.std.proofs.lemmas.List.{length-map}
use Rattle.mysql_value_core.specs.declared.value.ValueRef.TheVariants.{NULL}
use Rattle.mysql_binding.specs.LiteralForm.{written_literal}
use Rattle.mysql_binding.specs.MeasuredText.{IsOfFields}
use Rattle.mysql_fragments.specs.BorrowedFragments.{cell_item}
use Rattle.mysql_fragments.specs.FragmentText.{filled_item, item_values, joined}
use Rattle.mysql_fragments.proofs.FilledLemmas.{known_all, known_step}
use Rattle.mysql_fragments.proofs.JoinedLemmas.{joined_fits, joined_len}
use Rattle.mysql_fragments.proofs.CellLemmas.{cell_is}
use Rattle.mysql_fragments.proofs.borrowed.with_cells.Goals as goal

pub returns-in_err-sum-clause-too_long : goal.returns-in_err-sum-clause-too_long
returns-in_err-sum-clause-too_long g c = λ none.
    omega (arith, c.loop-i.invariant.0, c.in_err-sum.ensures.too_long refl, joined_fits (codes ", ") (filled_item (written_literal (g.F.LiteralForm.literal c.args.form.now))) (map cell_item c.args.cells.now) c.loop-i.i (cell_item (get_or c.args.cells.now c.loop-i.i NULL)) (omega (arith, c.loop-i-test.true, length-map c.args.cells.now cell_item)) (cell_is c.args.cells.now c.loop-i.i NULL c.loop-i-test.true))

pub returns-in_err-sum-2-clause-too_long : goal.returns-in_err-sum-2-clause-too_long
returns-in_err-sum-2-clause-too_long g c = λ none.
    omega (arith, c.loop-i.invariant.0, c.in_ok-sum.ensures.len, c.in_err-sum-2.ensures.too_long refl, joined_fits (codes ", ") (filled_item (written_literal (g.F.LiteralForm.literal c.args.form.now))) (map cell_item c.args.cells.now) c.loop-i.i (cell_item (get_or c.args.cells.now c.loop-i.i NULL)) (omega (arith, c.loop-i-test.true, length-map c.args.cells.now cell_item)) (cell_is c.args.cells.now c.loop-i.i NULL c.loop-i-test.true))

pub loop-i-preserved : goal.loop-i-preserved
loop-i-preserved g c = (
  omega (arith, c.loop-i.invariant.0, c.in_ok-sum.ensures.len, c.in_ok-sum-2.ensures.len, joined_len (codes ", ") (filled_item (written_literal (g.F.LiteralForm.literal c.args.form.now))) (map cell_item c.args.cells.now) c.loop-i.i (cell_item (get_or c.args.cells.now c.loop-i.i NULL)) (omega (arith, c.loop-i-test.true, length-map c.args.cells.now cell_item)) (cell_is c.args.cells.now c.loop-i.i NULL c.loop-i-test.true)),
  known_step (g.F.LiteralForm.literal c.args.form.now) IsOfFields item_values (map cell_item c.args.cells.now) c.loop-i.i (cell_item (get_or c.args.cells.now c.loop-i.i NULL)) (omega (arith, c.loop-i-test.true, length-map c.args.cells.now cell_item)) (cell_is c.args.cells.now c.loop-i.i NULL c.loop-i-test.true) c.loop-i.invariant.1 c.in_ok-sum-2.ensures.known,
)

pub returns-clause-len : goal.returns-clause-len
returns-clause-len g c = c.loop-i.invariant.0 ∙ ap (λ xs. c.args.len + length (joined (codes ", ") (map (filled_item (written_literal (g.F.LiteralForm.literal c.args.form.now))) xs))) (take_all c.loop-i.i (map cell_item c.args.cells.now) (omega (arith, c.loop-i-test.false, length-map c.args.cells.now cell_item)))

pub returns-clause-known : goal.returns-clause-known
returns-clause-known g c =
    known_all (g.F.LiteralForm.literal c.args.form.now) IsOfFields item_values (map cell_item c.args.cells.now) c.loop-i.i (omega (arith, c.loop-i-test.false, length-map c.args.cells.now cell_item)) c.loop-i.invariant.1
