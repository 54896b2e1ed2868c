use Rattle.std.proofs.Common.{arith, length-drop, length-take}
use Rattle.mysql_io.proofs.WriteLemmas.{appends_more}
use Rattle.mysql_io.proofs.readers_and_writers.write_whole.Goals as goal

pub writing-preserved : goal.writing-preserved
writing-preserved g c = record {
  within = grind (arith, c.in_ok-n.ensures.bound, length-take, length-drop);
  taken = appends_more _ _ _ c.args.text.now c.writing.done c.in_ok-n.n c.writing.invariant.taken c.in_ok-n.ensures.bytes;
}
