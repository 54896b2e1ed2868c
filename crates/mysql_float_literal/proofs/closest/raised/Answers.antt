use Rattle.mysql_float_literal.proofs.BesideLemmas.{reading_next}
use Rattle.mysql_float_literal.proofs.closest.raised.Goals as goal

pub loop-digits-preserved : goal.loop-digits-preserved
loop-digits-preserved c =
    let l = c.loop-digits in
    reading_next c.args.bits c.args.power l.digits l.invariant.0 (c.is_next_better.ensures.next c.loop-digits-test.true) l.invariant.1

pub returns-clause-better : goal.returns-clause-better
returns-clause-better c = c.is_next_better.ensures.this c.loop-digits-test.false
