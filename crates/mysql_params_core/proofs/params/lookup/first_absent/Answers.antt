use Rattle.std.proofs.Common.{◌≡◌, ◌<◌, true, length, arith}
use Rattle.std.specs.FinMap.{contains_key}
use Rattle.mysql_params_core.specs.Given.{value_map}
use Rattle.mysql_params_core.proofs.WalkLemmas.{all_step}
use Rattle.mysql_params_core.proofs.params.lookup.first_absent.Goals as goal

pub loop-i-preserved : goal.loop-i-preserved
loop-i-preserved c =
    let m = value_map c.args.entries.now.entries in
    let below : c.loop-i.i < length c.args.names.now = omega arith in
    let found : contains_key m c.index-names-i.result.items ≡ true =
    cc (c.has_name.ensures, c.as_slice.ensures.value, c.if-not-has_name.false) in
    all_step m c.args.names.now c.loop-i.i c.index-names-i.result below c.index-names-i.is found c.loop-i.invariant
