use Rattle.std.proofs.Common.{arith}
use Rattle.mysql_bind_core.proofs.TableLemmas.{cells_of_record, said_next}
use Rattle.mysql_bind_core.proofs.table_text.record_cells.Goals as goal

pub loop-i-preserved : goal.loop-i-preserved
loop-i-preserved c =
    said_next c.args.form.now.columns.now c.args.fields.now c.loop-i.i _ c.index-fields-i.result c.loop-i.cells.items c.push_cell.new.cells.items
    (omega arith) (omega arith) c.index-fields-i.is c.in_ok-push_cell.ensures c.loop-i.invariant

pub returns : goal.returns
returns c =
    cells_of_record c.args.form.now c.args.fields.now c.loop-i.i c.loop-i.cells.items c.extend_from_slice.new.self.items
    (omega arith) c.in_ok-extend_from_slice.ensures.items c.loop-i.invariant
