use Rattle.std.proofs.Common.{◌≡◌, ◌++◌, map}
use Rattle.mysql_query_core.proofs.words.params_by_position.Given as goal

abbrev pub invariant-loop-value : goal.invariant-loop-value
invariant-loop-value l =
    l.values.items ++ map (λ pair. pair.1) l.value-iterator.rest.items ≡ map (λ pair. pair.1) l.fn.pairs.items
