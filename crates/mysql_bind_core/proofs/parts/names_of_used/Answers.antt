use Rattle.std.proofs.Common.{arith}
use Rattle.mysql_params_core.specs.Referents.{referents}
use Rattle.mysql_bind_core.proofs.ColumnLemmas.{names_all, names_more}
use Rattle.mysql_bind_core.proofs.parts.names_of_used.Goals as goal

pub loop-i-preserved : goal.loop-i-preserved
loop-i-preserved c =
    names_more c.args.taken.now c.args.columns.now c.loop-i.i _ c.index-columns-i.result (referents c.loop-i.names.items) (referents c.push_name.new.names.items)
    (omega arith) (omega arith) c.index-columns-i.is c.in_ok-push_name.ensures c.loop-i.invariant

pub returns : goal.returns
returns c = names_all c.args.taken.now c.args.columns.now c.loop-i.i (referents c.loop-i.names.items) (omega arith) c.loop-i.invariant
