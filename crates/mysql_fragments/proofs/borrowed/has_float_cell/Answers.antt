use Rattle.std.proofs.Common.{get_or, map, sym, ◌∙◌, arith}
use Rattle.std.proofs.lemmas.List.{length-map}
use Rattle.mysql_value_core.specs.declared.value.ValueRef.TheVariants.{NULL}
use Rattle.mysql_fragments.specs.BorrowedFragments.{cell_item}
use Rattle.mysql_fragments.specs.FragmentErrors.{is_float_item}
use Rattle.mysql_fragments.proofs.CellLemmas.{any_found, any_next, any_none, cell_is}
use Rattle.mysql_fragments.proofs.borrowed.has_float_cell.Goals as goal

pub returns-then-is_float : goal.returns-then-is_float
returns-then-is_float c =
    sym (any_found is_float_item (map cell_item c.args.cells.now) c.loop-cell.cell-index (cell_item (get_or c.args.cells.now c.loop-cell.cell-index NULL))
    (omega (arith, c.loop-cell-test.true, length-map c.args.cells.now cell_item)) (cell_is c.args.cells.now c.loop-cell.cell-index NULL c.loop-cell-test.true) c.loop-cell.invariant
    (sym c.is_float.ensures ∙ c.if-is_float.true))

pub loop-cell-preserved : goal.loop-cell-preserved
loop-cell-preserved c =
    any_next is_float_item (map cell_item c.args.cells.now) c.loop-cell.cell-index (cell_item (get_or c.args.cells.now c.loop-cell.cell-index NULL))
    (omega (arith, c.loop-cell-test.true, length-map c.args.cells.now cell_item)) (cell_is c.args.cells.now c.loop-cell.cell-index NULL c.loop-cell-test.true) c.loop-cell.invariant
    (sym c.is_float.ensures ∙ c.if-is_float.false)

pub returns : goal.returns
returns c =
    sym (any_none is_float_item (map cell_item c.args.cells.now) c.loop-cell.cell-index (omega (arith, c.loop-cell-test.false, length-map c.args.cells.now cell_item)) c.loop-cell.invariant)
