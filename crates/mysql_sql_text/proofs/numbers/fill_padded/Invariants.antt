use Rattle.std.proofs.Common.{◌≡◌, ◌++◌, ◌≤◌, drop, length}
use Rattle.mysql_sql_text.proofs.PaddedLemmas.{last_digits}
use Rattle.mysql_sql_text.proofs.numbers.fill_padded.Given as goal

abbrev pub invariant-loop-at : goal.invariant-loop-at
invariant-loop-at l = record {
  within : l.at ≤ length l.buffer;
  written : last_digits l.at l.number ++ drop l.at l.buffer ≡ last_digits (length l.fn.buffer) l.fn.number;
}

abbrev pub decreases-loop-at : goal.decreases-loop-at
decreases-loop-at l = l.at
