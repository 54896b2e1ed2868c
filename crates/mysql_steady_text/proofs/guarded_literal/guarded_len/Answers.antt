use Rattle.std.proofs.Common.{◌+◌, ◌∙◌, arith, ap, length, length-drop}
use Rattle.std.proofs.lemmas.List.{take_rest}
use Rattle.mysql_steady_text.proofs.GuardedRunLemmas.{step-len, guarded-last}
use Rattle.mysql_steady_text.proofs.guarded_literal.guarded_len.Goals as goal

pub loop-run-preserved : goal.loop-run-preserved
loop-run-preserved c =
    let found = c.in-Some.ensures in
    let rest = c.loop-run.rest.now in
    let len = step-len rest c.in-Some.run' c.is_after_high.result found.0.high found.0.before found.1 c.is_after_high.ensures in
    let left = ap length (take_rest rest (c.in-Some.run' + 1)) ∙ length-drop (c.in-Some.run' + 1) rest in
    record {
      exact = omega (arith, len, c.guarded_byte_len.ensures.exact, c.loop-run.invariant.exact);
      few = omega (arith, left, found.0.high, c.guarded_byte_len.ensures.few, c.loop-run.invariant.few);
    }

pub returns-clause-exact : goal.returns-clause-exact
returns-clause-exact c =
    let last = ap length (guarded-last c.loop-run.rest.now c.in_default.ensures) in
    omega (arith, last, c.loop-run.invariant.exact)
