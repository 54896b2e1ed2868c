use Rattle.mysql_float_literal.proofs.BesideLemmas.{shortest_here, trimmed_here}
use Rattle.mysql_float_literal.proofs.closest.lowered.Goals as goal

pub returns-clause-shortest : goal.returns-clause-shortest
returns-clause-shortest c = let l = c.loop-lower_power in shortest_here c.args.bits l.power l.digits l.invariant.0 l.invariant.1

pub returns-clause-trimmed : goal.returns-clause-trimmed
returns-clause-trimmed c = let l = c.loop-lower_power in trimmed_here c.args.bits l.power l.digits l.invariant.0 l.invariant.1
