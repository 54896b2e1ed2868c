use Rattle.std.proofs.Common.{arith}
use Rattle.mysql_named_params.proofs.JumpLemmas.{byte_here, byte_not_here, all_not_reached}
use Rattle.mysql_named_params.proofs.ends.short_len_up_to_byte.Goals as goal

pub returns-then-text-at-clause-up_to : goal.returns-then-text-at-clause-up_to
returns-then-text-at-clause-up_to c = byte_here _ _ _ (omega arith) c.if-text-at.true c.loop-at.invariant

pub loop-at-preserved : goal.loop-at-preserved
loop-at-preserved c = byte_not_here _ _ _ (omega arith) c.if-text-at.false c.loop-at.invariant

pub returns-clause-up_to : goal.returns-clause-up_to
returns-clause-up_to c = all_not_reached _ _ _ (omega arith) (omega arith) c.loop-at.invariant
