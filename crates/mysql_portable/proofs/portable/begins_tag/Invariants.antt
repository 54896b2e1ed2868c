use Rattle.std.proofs.Common.{◌≡◌, drop}
use Rattle.mysql_portable.specs.Server.{begins_tag}
use Rattle.mysql_portable.proofs.portable.begins_tag.Given as goal

abbrev pub invariant-loop-i : goal.invariant-loop-i
invariant-loop-i l = begins_tag (drop l.i l.text) ≡ begins_tag l.text
