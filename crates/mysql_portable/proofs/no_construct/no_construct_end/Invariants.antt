use Rattle.mysql_named_params.specs.Lanes.{EachPasses}
use Rattle.mysql_portable.specs.NoConstruct.{begins_no_construct}
use Rattle.mysql_portable.proofs.no_construct.no_construct_end.Given as goal

abbrev pub invariant-loop-at : goal.invariant-loop-at
invariant-loop-at l = EachPasses begins_no_construct l.text 0 l.at
