use Rattle.mysql_named_params.specs.Lanes.{is_neither, EachPasses}
use Rattle.mysql_portable.proofs.jumps.near_end_without.Given as goal

abbrev pub invariant-loop-at : goal.invariant-loop-at
invariant-loop-at l = EachPasses (is_neither l.first l.second) l.text l.from l.at
