use Rattle.mysql_params_core.proofs.TakenLemmas.{IsWalked}
use Rattle.mysql_params_core.proofs.params.lookup.take_values.Given as goal

abbrev pub invariant-loop-name : goal.invariant-loop-name
invariant-loop-name l =
    IsWalked l.fn.entries.entries l.left.entries l.indices.entries l.values.items l.names l.name-index
