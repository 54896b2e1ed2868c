use Rattle.std.proofs.Common.{refl, get_or, arith}
use Rattle.mysql_fragments.proofs.TextLemmas.{doubled_step}
use Rattle.mysql_fragments.proofs.JoinedLemmas.{doubled_fits, doubled_len}
use Rattle.mysql_fragments.proofs.names.append_doubled.Goals as goal

pub append_byte-end-requires : goal.append_byte-end-requires
append_byte-end-requires c =
    let b = get_or c.args.name.now c.loop-b.b-index 0 in
    record { room = omega (arith, c.requires.room, c.loop-b.invariant.0, c.loop-b.invariant.2, doubled_fits c.args.name.now c.loop-b.b-index b c.loop-b-test.true refl) }

pub loop-b-preserved : goal.loop-b-preserved
loop-b-preserved c =
    let b = get_or c.args.name.now c.loop-b.b-index 0 in (
      omega (arith, c.append_byte-end.ensures.next, c.loop-b.invariant.0, doubled_len c.args.name.now c.loop-b.b-index b c.loop-b-test.true refl),
      doubled_step c.args.name.now c.loop-b.b-index b _ _ _ c.loop-b-test.true refl c.loop-b.invariant.1 c.append_byte-end.ensures.front,
      omega (arith, c.append_byte-end.auto.text, c.loop-b.invariant.2),
    )
