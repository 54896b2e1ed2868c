use Rattle.std.proofs.Common.{◌≡◌, take}
use Rattle.std.specs.List.{list_all}
use Rattle.mysql_steady_text.specs.SteadyLiteral.{is_spelled_out}
use Rattle.mysql_steady_text.proofs.steady_literal.are_spelled_out.Given as goal

abbrev pub invariant-loop-byte : goal.invariant-loop-byte
invariant-loop-byte l = l.all ≡ list_all is_spelled_out (take l.byte-index l.bytes)
