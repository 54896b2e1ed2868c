use Rattle.std.proofs.Common.{[]}
use Rattle.mysql_fragments.specs.FragmentText.{fragment_values}
use Rattle.mysql_fragments.proofs.TextLemmas.{flat_step_referents}
use Rattle.mysql_fragments.proofs.expanded.values_of.Goals as goal

pub loop-fragment-preserved : goal.loop-fragment-preserved
loop-fragment-preserved c =
    flat_step_referents fragment_values c.args.fragments.now c.loop-fragment.fragment-index c.fragment-item.result [] c.loop-fragment.values.items _
    c.loop-fragment-test.true c.fragment-item.is c.loop-fragment.invariant c.in_ok-push_values.ensures
