use Rattle.std.proofs.Common.{arith}
use Rattle.mysql_bind_core.proofs.CountLemmas.{cells_next, cells_read}
use Rattle.mysql_bind_core.proofs.table_text.fixed_count.Goals as goal

pub loop-i-init : goal.loop-i-init
loop-i-init c = λ h. h

pub loop-i-preserved : goal.loop-i-preserved
loop-i-preserved c = cells_next c.args.cells.now c.loop-i.i _ (omega arith) c.note_length.ensures c.loop-i.invariant

pub returns-clause-fit : goal.returns-clause-fit
returns-clause-fit c = cells_read c.args.cells.now c.loop-i.i (omega arith) c.loop-i.invariant
