use Rattle.std.proofs.Common.{◌≡◌, drop}
use Rattle.mysql_named_params.specs.WideNames.{is_wide_start}
use Rattle.mysql_portable.specs.ByStart.{begins_fraction_by}
use Rattle.mysql_portable.proofs.wide.begins_fraction.Given as goal

abbrev pub invariant-loop-i : goal.invariant-loop-i
invariant-loop-i l = begins_fraction_by is_wide_start (drop l.i l.text) ≡ begins_fraction_by is_wide_start l.text
