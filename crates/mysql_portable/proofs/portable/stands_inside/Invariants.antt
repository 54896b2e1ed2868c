use Rattle.std.proofs.Common.{◌≡◌, drop}
use Rattle.mysql_portable.specs.Portable.{stands_inside}
use Rattle.mysql_portable.proofs.portable.stands_inside.Given as goal

abbrev pub invariant-loop-i : goal.invariant-loop-i
invariant-loop-i l = stands_inside l.quote (drop l.i l.text) ≡ stands_inside l.quote l.text
