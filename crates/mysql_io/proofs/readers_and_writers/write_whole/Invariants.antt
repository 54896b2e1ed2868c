use Rattle.std.proofs.Common.{◌≤◌, ◌-◌, length, take}
use Rattle.std.specs.Io.KnownBytes.{Appends}
use Rattle.mysql_io.proofs.readers_and_writers.write_whole.Given as goal

-- the bytes that the writer took so far
abbrev pub invariant-writing : goal.invariant-writing
invariant-writing g l = record {
  within : l.done ≤ length l.text;
  taken : Appends (g.W.Write.contents l.fn.output) (g.W.Write.contents l.output) (take l.done l.text);
}

abbrev pub decreases-writing : goal.decreases-writing
decreases-writing g l = length l.text - l.done
