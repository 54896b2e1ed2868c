use Rattle.std.proofs.Common.{◌≡◌, ◌+◌, ◌*◌, ◌≤◌, length, false}
use Rattle.mysql_steady_text.specs.GuardedLiteral.{guarded}
use Rattle.mysql_steady_text.proofs.guarded_literal.guarded_len.Given as goal

-- with the bytes that are left, it is the whole
abbrev pub invariant-loop-run : goal.invariant-loop-run
invariant-loop-run l = record {
  exact : l.len + length (guarded false l.rest) ≡ length (guarded false l.bytes);
  few : l.len + 5 * length l.rest ≤ 5 * length l.bytes;
}

abbrev pub decreases-loop-run : goal.decreases-loop-run
decreases-loop-run l = length l.rest
