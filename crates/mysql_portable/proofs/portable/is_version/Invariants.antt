use Rattle.std.proofs.Common.{◌≡◌, drop}
use Rattle.mysql_portable.specs.Quiet.{ends_version}
use Rattle.mysql_portable.proofs.portable.is_version.Given as goal

abbrev pub invariant-loop-i : goal.invariant-loop-i
invariant-loop-i l = ends_version l.i (drop l.i l.text) ≡ ends_version 0 l.text
