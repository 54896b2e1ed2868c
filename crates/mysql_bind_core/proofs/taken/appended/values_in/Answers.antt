use Rattle.std.proofs.Common.{sym, map, rules}
use Rattle.mysql_query_core.specs.WordErrors.{seen_pair}
use Rattle.mysql_bind_core.proofs.FoundPairLemmas.{values_more}
use Rattle.mysql_bind_core.proofs.taken.appended.values_in.Goals as goal

pub loop-name-preserved : goal.loop-name-preserved
loop-name-preserved c =
    values_more (map seen_pair c.args.pairs.now) c.args.names.now c.loop-name.name-index _ c.loop-name.values.items c.push.new.self.items c.in-Some.value c.loop-name-test.true c.loop-name.invariant
    (sym c.in-Some.ensures) (search rules)
