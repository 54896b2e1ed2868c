use Rattle.std.proofs.Common.{rules}
use Rattle.mysql_flat_params.proofs.FormLemmas.{owned_more}
use Rattle.mysql_flat_params.proofs.form.own_values.Goals as goal

pub loop-value-preserved : goal.loop-value-preserved
loop-value-preserved c =
    owned_more c.args.values.now c.loop-value.value-index _ c.loop-value-test.true c.loop-value.list.items _ _ c.loop-value.invariant
    c.in_ok-to_value.ensures.same (search rules)
