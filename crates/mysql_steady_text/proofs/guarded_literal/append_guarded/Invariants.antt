use Rattle.std.proofs.Common.{◌≡◌, ◌++◌, ◌+◌, take, length, false}
use Rattle.mysql_steady_text.specs.GuardedLiteral.{guarded}
use Rattle.mysql_steady_text.proofs.guarded_literal.append_guarded.Given as goal

-- with the bytes that are left, it is the whole
abbrev pub invariant-loop-run : goal.invariant-loop-run
invariant-loop-run l = record {
  next : l.at + length (guarded false l.rest) ≡ l.start + length (guarded false l.bytes);
  front : take l.at l.buffer ++ guarded false l.rest ≡ take l.start l.fn.buffer ++ guarded false l.bytes;
}

abbrev pub decreases-loop-run : goal.decreases-loop-run
decreases-loop-run l = length l.rest
