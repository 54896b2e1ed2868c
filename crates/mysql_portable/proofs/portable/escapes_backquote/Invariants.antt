use Rattle.std.proofs.Common.{◌≡◌, drop}
use Rattle.mysql_portable.specs.Server.{escapes_backquote}
use Rattle.mysql_portable.proofs.portable.escapes_backquote.Given as goal

abbrev pub invariant-loop-i : goal.invariant-loop-i
invariant-loop-i l = escapes_backquote (drop l.i l.text) ≡ escapes_backquote l.text
