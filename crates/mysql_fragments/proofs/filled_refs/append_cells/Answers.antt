use Rattle.std.proofs.Common.{◌+◌, ◌++◌, length, map, take, take_all, get_or, ap, ◌∙◌, arith}
use Rattle.std.specs.Prelude.{codes}
use Rattle.std.proofs.lemmas.List.{length-map}
use Rattle.mysql_value_core.specs.declared.value.ValueRef.TheVariants.{NULL}
use Rattle.mysql_binding.specs.LiteralForm.{written_literal}
use Rattle.mysql_fragments.specs.BorrowedFragments.{cell_item}
use Rattle.mysql_fragments.specs.FragmentText.{filled_item, item_values}
use Rattle.mysql_fragments.specs.FragmentText.{joined}
use Rattle.mysql_fragments.proofs.JoinedLemmas.{appended_next, joined_fits, joined_len}
use Rattle.mysql_fragments.proofs.CellLemmas.{cell_is}
use Rattle.mysql_fragments.proofs.FilledLemmas.{known_all, known_step}
use Rattle.mysql_fragments.proofs.filled_refs.append_cells.Goals as goal

pub append_separator-end-requires : goal.append_separator-end-requires
append_separator-end-requires g c = record {
  room = omega (arith, c.requires.room, c.loop-i.invariant.0, c.loop-i.invariant.2, joined_fits (codes ", ") (filled_item (written_literal (g.F.LiteralForm.literal c.args.form.now))) (map cell_item c.args.cells.now) c.loop-i.i (cell_item (get_or c.args.cells.now c.loop-i.i NULL)) (omega (arith, c.loop-i-test.true, length-map c.args.cells.now cell_item)) (cell_is c.args.cells.now c.loop-i.i NULL c.loop-i-test.true));
}

pub put_literal-end-requires : goal.put_literal-end-requires
put_literal-end-requires g c = record {
  room = omega (arith, c.requires.room, c.loop-i.invariant.0, c.loop-i.invariant.2, c.append_separator-end.ensures.next, c.append_separator-end.auto.text, joined_fits (codes ", ") (filled_item (written_literal (g.F.LiteralForm.literal c.args.form.now))) (map cell_item c.args.cells.now) c.loop-i.i (cell_item (get_or c.args.cells.now c.loop-i.i NULL)) (omega (arith, c.loop-i-test.true, length-map c.args.cells.now cell_item)) (cell_is c.args.cells.now c.loop-i.i NULL c.loop-i-test.true));
}

pub loop-i-preserved : goal.loop-i-preserved
loop-i-preserved g c = (
  omega (arith, c.loop-i.invariant.0, c.append_separator-end.ensures.next, c.put_literal-end.ensures.next, joined_len (codes ", ") (filled_item (written_literal (g.F.LiteralForm.literal c.args.form.now))) (map cell_item c.args.cells.now) c.loop-i.i (cell_item (get_or c.args.cells.now c.loop-i.i NULL)) (omega (arith, c.loop-i-test.true, length-map c.args.cells.now cell_item)) (cell_is c.args.cells.now c.loop-i.i NULL c.loop-i-test.true)),
  appended_next (codes ", ") (filled_item (written_literal (g.F.LiteralForm.literal c.args.form.now))) (map cell_item c.args.cells.now) c.loop-i.i (cell_item (get_or c.args.cells.now c.loop-i.i NULL)) _ _ _ _ (omega (arith, c.loop-i-test.true, length-map c.args.cells.now cell_item)) (cell_is c.args.cells.now c.loop-i.i NULL c.loop-i-test.true) c.loop-i.invariant.1 c.append_separator-end.ensures.front c.put_literal-end.ensures.front,
  omega (arith, c.loop-i.invariant.2, c.append_separator-end.auto.text, c.put_literal-end.auto.text),
  known_step (g.F.LiteralForm.literal c.args.form.now) (g.F.LiteralForm.IsKnown c.args.form.now) item_values (map cell_item c.args.cells.now) c.loop-i.i (cell_item (get_or c.args.cells.now c.loop-i.i NULL)) (omega (arith, c.loop-i-test.true, length-map c.args.cells.now cell_item)) (cell_is c.args.cells.now c.loop-i.i NULL c.loop-i-test.true) c.loop-i.invariant.3 (c.put_literal-end.ensures.known, tt),
)

pub returns-clause-known : goal.returns-clause-known
returns-clause-known g c =
    known_all (g.F.LiteralForm.literal c.args.form.now) (g.F.LiteralForm.IsKnown c.args.form.now) item_values (map cell_item c.args.cells.now) c.loop-i.i (omega (arith, c.loop-i-test.false, length-map c.args.cells.now cell_item)) c.loop-i.invariant.3

pub returns-clause-next : goal.returns-clause-next
returns-clause-next g c = c.loop-i.invariant.0 ∙ ap (λ xs. c.args.at + length (joined (codes ", ") (map (filled_item (written_literal (g.F.LiteralForm.literal c.args.form.now))) xs))) (take_all c.loop-i.i (map cell_item c.args.cells.now) (omega (arith, c.loop-i-test.false, length-map c.args.cells.now cell_item)))

pub returns-clause-front : goal.returns-clause-front
returns-clause-front g c = c.loop-i.invariant.1 ∙ ap (λ xs. take c.args.at c.args.text.now ++ joined (codes ", ") (map (filled_item (written_literal (g.F.LiteralForm.literal c.args.form.now))) xs)) (take_all c.loop-i.i (map cell_item c.args.cells.now) (omega (arith, c.loop-i-test.false, length-map c.args.cells.now cell_item)))
