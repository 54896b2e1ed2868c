use Rattle.std.proofs.Common.{◌≡◌, take}
use Rattle.mysql_params_core.specs.Referents.{referents}
use Rattle.mysql_fragments.specs.FragmentText.{all_values}
use Rattle.mysql_fragments.proofs.expanded.values_of.Given as goal

abbrev pub invariant-loop-fragment : goal.invariant-loop-fragment
invariant-loop-fragment l = l.values.items ≡ all_values (take l.fragment-index (referents l.fragments))
