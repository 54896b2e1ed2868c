use Rattle.std.proofs.Common.{arith}
use Rattle.mysql_bind_core.proofs.CountLemmas.{used_all, used_next}
use Rattle.mysql_bind_core.proofs.table_text.used_count.Goals as goal

pub loop-i-preserved : goal.loop-i-preserved
loop-i-preserved c = (
  used_next c.args.columns.now c.loop-i.i c.loop-i.count c.one_if_used-count.result _ (omega arith) c.one_if_used-count.ensures.count c.loop-i.invariant.0,
  omega arith,
)

pub returns-clause-count : goal.returns-clause-count
returns-clause-count c = used_all c.args.columns.now c.loop-i.i c.loop-i.count (omega arith) c.loop-i.invariant.0
