use Rattle.std.proofs.Common.{refl, get_or, arith}
use Rattle.mysql_fragments.proofs.JoinedLemmas.{doubled_len, doubled_one, doubled_two}
use Rattle.mysql_fragments.proofs.measured.backquotes.Goals as goal
use Rattle.mysql_fragments.proofs.measured.backquotes.Goals.{then-b-eq96, else-b-eq96}

pub loop-b-preserved : goal.loop-b-preserved
loop-b-preserved c =
    let b = get_or c.args.name.now c.loop-b.b-index 0 in
    let more = doubled_len c.args.name.now c.loop-b.b-index b c.loop-b-test.true refl in
    elim c.if-b-eq96.branch [
      | then-b-eq96 w ↦ omega (arith, more, doubled_two b w.if-b-eq96.true, w.count-is, c.loop-b.invariant.0, c.loop-b.invariant.1)
      | else-b-eq96 w ↦ omega (arith, more, doubled_one b w.if-b-eq96.false, w.count-is, c.loop-b.invariant.0, c.loop-b.invariant.1)
    ]
