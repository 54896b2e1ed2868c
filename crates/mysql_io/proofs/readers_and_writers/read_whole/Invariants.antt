use Rattle.std.proofs.Common.{◌-◌, ◌^◌, vec_len}
use Rattle.std.specs.Io.KnownBytes.{Consumes}
use Rattle.mysql_io.proofs.readers_and_writers.read_whole.Given as goal

-- the bytes that were read so far
abbrev pub invariant-reading : goal.invariant-reading
invariant-reading g l = Consumes (g.R.Read.remaining l.fn.input) (g.R.Read.remaining l.input) l.bytes.items

-- a vector's length stays below 2 ^ 64, and each turn adds to it
abbrev pub decreases-reading : goal.decreases-reading
decreases-reading g l = 2 ^ 64 - vec_len l.bytes
