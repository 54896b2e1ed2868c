use Rattle.std.proofs.Common.{arith}
use Rattle.std.proofs.lemmas.List.{take_rest}
use Rattle.mysql_named_params.proofs.JumpLemmas.{close_here, near_then_far}
use Rattle.mysql_named_params.proofs.ends.len_up_to_close.Goals as goal

pub returns-then-text-at-eq47-clause-up_to : goal.returns-then-text-at-eq47-clause-up_to
returns-then-text-at-eq47-clause-up_to c =
    close_here _ _ c.if-at-text.true c.if-text-at-eq42.true c.if-text-at-eq47.true c.loop-at.invariant

pub returns-clause-up_to : goal.returns-clause-up_to
returns-clause-up_to c =
    let far = c.far_len_up_to_close.ensures in
    near_then_far _ _ _ _ _ _ (omega arith) (omega arith) (take_rest c.args.text.now c.min-near.result) far.in_range c.loop-at.invariant far.up_to
