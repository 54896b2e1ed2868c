use Rattle.std.proofs.Common.{◌≡◌, drop}
use Rattle.mysql_portable.specs.Quiet.{is_quiet}
use Rattle.mysql_portable.proofs.portable.is_quiet.Given as goal

abbrev pub invariant-loop-i : goal.invariant-loop-i
invariant-loop-i l = is_quiet (drop l.i l.text) ≡ is_quiet l.text
