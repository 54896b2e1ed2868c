use Rattle.std.proofs.Common.{◌≡◌, drop}
use Rattle.mysql_portable.specs.Server.{begins_fraction}
use Rattle.mysql_portable.proofs.portable.begins_fraction.Given as goal

abbrev pub invariant-loop-i : goal.invariant-loop-i
invariant-loop-i l = begins_fraction (drop l.i l.text) ≡ begins_fraction l.text
