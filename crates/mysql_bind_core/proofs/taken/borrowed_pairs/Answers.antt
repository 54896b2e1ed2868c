use Rattle.std.proofs.Common.{rules}
use Rattle.mysql_bind_core.proofs.BindingLemmas.{borrowed_more}
use Rattle.mysql_bind_core.proofs.taken.borrowed_pairs.Goals as goal

pub loop-pair-preserved : goal.loop-pair-preserved
loop-pair-preserved c =
    borrowed_more c.args.pairs.now c.loop-pair.pair-index c.pair-item.result c.loop-pair.lent.items c.push.new.self.items c.borrowed.result
    c.loop-pair-test.true c.pair-item.is c.borrowed.ensures.same (search rules) c.loop-pair.invariant
