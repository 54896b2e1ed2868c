use Rattle.std.proofs.Common.{arith, refl}
use Rattle.mysql_flat_params.proofs.RowNamesLemmas.{one_more_read, all_read}
use Rattle.mysql_flat_params.proofs.row_names.read_under.Goals as goal

pub loop-i-preserved : goal.loop-i-preserved
loop-i-preserved c =
    one_more_read c.args.form.now c.args.pairs.now c.loop-i.pairs c.loop-i.i c.loop-i.rest.0.now c.loop-i.invariant c.requires.own
    _ _ c.in-Some.value c.value_under.new.rest.0.now (omega (arith, c.loop-i-test.true, c.loop-i.auto.pairs)) refl
    (rw c.len.ensures.count at c.in-Some.ensures)

pub returns-clause-read : goal.returns-clause-read
returns-clause-read c = λ done.
    all_read c.args.form.now c.args.pairs.now c.loop-i.pairs c.loop-i.i c.loop-i.rest.0.now c.loop-i.invariant
    (omega (arith, c.requires.some, c.loop-i.auto.pairs)) (omega (arith, c.loop-i-test.false, c.loop-i.auto.pairs)) (c.is_empty.ensures.empty.0 done)
