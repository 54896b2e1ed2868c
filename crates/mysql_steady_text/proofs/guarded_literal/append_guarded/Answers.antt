use Rattle.std.proofs.Common.{◌++◌, ◌∙◌, arith, ap, sym, refl, length, take}
use Rattle.std.proofs.lemmas.List.{length-take-le}
use Rattle.mysql_steady_text.proofs.GuardedRunLemmas.{step, step-len, guarded-last, joined}
use Rattle.mysql_steady_text.proofs.guarded_literal.append_guarded.Goals as goal

pub append_bytes-at-requires : goal.append_bytes-at-requires
append_bytes-at-requires c =
    let found = c.in-Some.ensures in
    let rest = c.loop-run.rest.now in
    let len = step-len rest c.in-Some.run' _ found.0.high found.0.before found.1 refl in
    let taken = length-take-le c.in-Some.run' rest (omega (arith, found.0.high)) in
    omega (arith, len, taken, c.loop-run.invariant.next, c.requires, c.loop-run.auto.buffer)

pub append_guarded_byte-at-requires : goal.append_guarded_byte-at-requires
append_guarded_byte-at-requires c =
    let found = c.in-Some.ensures in
    let rest = c.loop-run.rest.now in
    let len = step-len rest c.in-Some.run' c.is_after_high.result found.0.high found.0.before found.1 c.is_after_high.ensures in
    let taken = length-take-le c.in-Some.run' rest (omega (arith, found.0.high)) in
    omega (arith, len, taken, c.append_bytes-at.ensures.next, c.append_bytes-at.auto.buffer, c.loop-run.invariant.next, c.requires, c.loop-run.auto.buffer)

pub loop-run-preserved : goal.loop-run-preserved
loop-run-preserved c =
    let found = c.in-Some.ensures in
    let rest = c.loop-run.rest.now in
    let len = step-len rest c.in-Some.run' c.is_after_high.result found.0.high found.0.before found.1 c.is_after_high.ensures in
    let taken = length-take-le c.in-Some.run' rest (omega (arith, found.0.high)) in
    let parts = step rest c.in-Some.run' c.is_after_high.result found.0.high found.0.before found.1 c.is_after_high.ensures in
    record {
      next = omega (arith, len, taken, c.append_bytes-at.ensures.next, c.append_guarded_byte-at.ensures.next, c.loop-run.invariant.next);
      front = joined (take c.loop-run.at c.loop-run.buffer) (take c.in-Some.run' rest) _ _
          c.append_guarded_byte-at.ensures.front c.append_bytes-at.ensures.front parts c.loop-run.invariant.front;
    }

pub append_bytes-requires : goal.append_bytes-requires
append_bytes-requires c =
    let last = ap length (guarded-last c.loop-run.rest.now c.in_default.ensures) in
    omega (arith, last, c.loop-run.invariant.next, c.requires, c.loop-run.auto.buffer)

pub returns-clause-next : goal.returns-clause-next
returns-clause-next c =
    let last = ap length (guarded-last c.loop-run.rest.now c.in_default.ensures) in
    omega (arith, last, c.append_bytes.ensures.next, c.loop-run.invariant.next)

pub returns-clause-front : goal.returns-clause-front
returns-clause-front c =
    c.append_bytes.ensures.front
    ∙ (ap (λ t. take c.loop-run.at c.loop-run.buffer ++ t) (sym (guarded-last c.loop-run.rest.now c.in_default.ensures))
    ∙ c.loop-run.invariant.front)
