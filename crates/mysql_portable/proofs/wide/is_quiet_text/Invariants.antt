use Rattle.std.proofs.Common.{◌≡◌, drop}
use Rattle.mysql_named_params.specs.WideNames.{is_wide_start}
use Rattle.mysql_portable.specs.ByStart.{is_quiet_by}
use Rattle.mysql_portable.proofs.wide.is_quiet_text.Given as goal

abbrev pub invariant-loop-i : goal.invariant-loop-i
invariant-loop-i l = is_quiet_by is_wide_start (drop l.i l.text) ≡ is_quiet_by is_wide_start l.text
