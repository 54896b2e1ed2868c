use Rattle.std.proofs.Common.{◌≡◌, length}
use Rattle.mysql_portable.specs.Clear.{begins_client_line}
use Rattle.mysql_portable.proofs.clear.begins_client_line.Given as goal

abbrev pub invariant-loop-rest : goal.invariant-loop-rest
invariant-loop-rest l = begins_client_line l.rest ≡ begins_client_line l.text

abbrev pub decreases-loop-rest : goal.decreases-loop-rest
decreases-loop-rest l = length l.rest
