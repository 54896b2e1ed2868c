use Rattle.std.proofs.Common.{arith}
use Rattle.std.proofs.lemmas.List.{length-map}
use Rattle.mysql_bind_core.proofs.CountLemmas.{names_next, names_read}
use Rattle.mysql_bind_core.proofs.matched.name_count.Goals as goal

pub loop-i-init : goal.loop-i-init
loop-i-init c = λ h. h

pub loop-i-preserved : goal.loop-i-preserved
loop-i-preserved c = names_next c.args.names.now c.loop-i.i _ (omega arith) c.note_length.ensures c.loop-i.invariant

pub returns-clause-count : goal.returns-clause-count
returns-clause-count c = omega (arith, length-map c.args.names.now (λ r. r.now))

pub returns-clause-fit : goal.returns-clause-fit
returns-clause-fit c = names_read c.args.names.now c.loop-i.i (omega arith) c.loop-i.invariant
