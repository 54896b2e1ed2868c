use Rattle.std.proofs.Common.{rules, sym, ◌∙◌}
use Rattle.mysql_named_params.specs.WideNames.{is_wide_start}
use Rattle.mysql_portable.proofs.WideWalkLemmas.{fraction_goes_on_by}
use Rattle.mysql_portable.proofs.wide.begins_fraction.Goals as goal

pub loop-i-preserved : goal.loop-i-preserved
loop-i-preserved c =
    fraction_goes_on_by is_wide_start c.args.text.now c.loop-i.i c.loop-i-test.true (sym c.begins_place.ensures ∙ c.if-begins_place.false) c.if-byte-eq101.false c.if-byte-eq69.false (search rules) c.loop-i.invariant
