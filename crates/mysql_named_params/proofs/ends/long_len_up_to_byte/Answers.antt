use Rattle.std.proofs.Common.{[], refl, arith}
use Rattle.std.proofs.lemmas.List.{take_rest}
use Rattle.mysql_named_params.proofs.JumpLemmas.{byte_here, run_from_front, either_is, near_then_far}
use Rattle.mysql_named_params.proofs.ends.long_len_up_to_byte.Goals as goal

pub returns-then-at-near-clause-up_to : goal.returns-then-at-near-clause-up_to
returns-then-at-near-clause-up_to c =
    let end = c.run_end-at.ensures in
    byte_here _ _ _ (omega arith) (either_is _ _ (end.stops c.if-at-near.true)) (run_from_front c.args.byte [] _ _ end.in_range.1 end.run)

pub returns-clause-up_to : goal.returns-clause-up_to
returns-clause-up_to c =
    let end = c.run_end-at.ensures in
    let far = c.far_len_up_to_byte.ensures in
    near_then_far _ _ _ _ _ _ (omega arith) refl (take_rest c.args.text.now c.run_end-at.result) far.in_range
    (run_from_front c.args.byte [] _ _ end.in_range.1 end.run) far.up_to
