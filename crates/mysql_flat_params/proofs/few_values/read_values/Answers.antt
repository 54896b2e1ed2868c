use Rattle.std.proofs.Common.{arith}
use Rattle.mysql_flat_params.proofs.FewValuesLemmas.{no_value_read, one_more_value, all_values_read}
use Rattle.mysql_flat_params.proofs.few_values.read_values.Goals as goal

pub loop-i-init : goal.loop-i-init
loop-i-init c = no_value_read _ _

pub loop-i-preserved : goal.loop-i-preserved
loop-i-preserved c =
    one_more_value c.args.form.now c.loop-i.values c.loop-i.i c.loop-i.rest.0.now c.loop-i.invariant
    c.in-Some.value c.value_by_position.new.rest.0.now (omega (arith, c.loop-i-test.true, c.loop-i.auto.values))
    (rw c.len.ensures.count at c.in-Some.ensures)

pub returns : goal.returns
returns c = record {
  read = λ done.
      all_values_read c.args.form.now c.loop-i.values c.loop-i.i c.loop-i.rest.0.now c.loop-i.invariant
      (omega (arith, c.requires, c.loop-i.auto.values)) (omega (arith, c.loop-i-test.false, c.loop-i.auto.values)) (c.is_empty.ensures.empty.0 done);
}
