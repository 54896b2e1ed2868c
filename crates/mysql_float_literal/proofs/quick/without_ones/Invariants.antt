use Rattle.mysql_float_literal.proofs.QuickLemmas.{IsCutTo}
use Rattle.mysql_float_literal.proofs.quick.without_ones.Given as goal

abbrev pub invariant-loop-rest : goal.invariant-loop-rest
invariant-loop-rest l = IsCutTo l.fn.power l.fn.digits l.up l.rest

abbrev pub decreases-loop-rest : goal.decreases-loop-rest
decreases-loop-rest l = l.rest
