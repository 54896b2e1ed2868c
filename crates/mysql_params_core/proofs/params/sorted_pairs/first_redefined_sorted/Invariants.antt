use Rattle.mysql_params_core.proofs.SortedPairLemmas.{IsDistinctSoFar}
use Rattle.mysql_params_core.proofs.params.sorted_pairs.first_redefined_sorted.Given as goal

abbrev pub invariant-loop-i : goal.invariant-loop-i
invariant-loop-i l = IsDistinctSoFar l.pairs l.i l.entries.entries
