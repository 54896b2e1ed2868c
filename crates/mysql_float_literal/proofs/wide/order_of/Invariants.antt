use Rattle.std.proofs.Common.{◌≤◌}
use Rattle.mysql_float_literal.proofs.WideLemmas.{AgreeBetween}
use Rattle.mysql_float_literal.proofs.wide.order_of.Given as goal

abbrev pub invariant-loop-i : goal.invariant-loop-i
invariant-loop-i l = (l.i ≤ l.len) × AgreeBetween l.a l.b l.i l.len

abbrev pub decreases-loop-i : goal.decreases-loop-i
decreases-loop-i l = l.i
