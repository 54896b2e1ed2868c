use Rattle.std.proofs.Common.{◌≡◌, ◌≤◌, length, drop}
use Rattle.mysql_params_core.specs.GivenBorrowed.{pair_map}
use Rattle.mysql_flat_params.proofs.form_names.sorted_names.Given as goal

abbrev pub invariant-loop-i : goal.invariant-loop-i
invariant-loop-i l =
    (pair_map l.entries.entries ≡ pair_map (drop l.i l.pairs)) × (l.i ≤ length l.pairs)

abbrev pub decreases-loop-i : goal.decreases-loop-i
decreases-loop-i l = l.i
