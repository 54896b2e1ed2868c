use Rattle.std.proofs.Common.{◌≡◌, ◌+◌, [], ◌∷◌, get_or, subst, arith}
use Rattle.std.proofs.lemmas.List.{take_rest}
use Rattle.mysql_named_params.proofs.JumpLemmas.{IsNotReached, byte_here, run_over, either_is, near_then_far}
use Rattle.mysql_named_params.proofs.ends.len_up_to_byte.Goals as goal

pub returns-in-Some-clause-up_to : goal.returns-in-Some-clause-up_to
returns-in-Some-clause-up_to c =
    let byte = c.args.byte in
    let text = c.args.text.now in
    let run = c.in-Some.ensures in
    let at : 0 + c.in-Some.run' ≡ c.in-Some.run' = omega arith in
    let here : get_or text c.in-Some.run' 0 ≡ byte = subst (λ i. get_or text i 0 ≡ byte) at (either_is _ _ run.2) in
    let reached = subst (IsNotReached (byte ∷ []) text) at (run_over byte [] text 0 _ (omega (arith, run.0)) run.1 (omega arith)) in
    byte_here _ _ _ (omega (arith, run.0)) here reached

pub returns-in-None-clause-up_to : goal.returns-in-None-clause-up_to
returns-in-None-clause-up_to c =
    let text = c.args.text.now in
    let far = c.long_len_up_to_byte.ensures in
    let reached = run_over c.args.byte [] text 0 16 (omega arith) c.in-None.ensures (omega arith) in
    near_then_far _ _ _ 16 16 _ (omega arith) (omega arith) (take_rest text 16) far.in_range reached far.up_to
