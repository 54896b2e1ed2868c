use Rattle.std.proofs.Common.{◌≡◌, List, drop}
use Rattle.mysql_fragments.specs.BorrowedFragments.{AreSaid}
use Rattle.mysql_fragments.specs.declared.fragment.Fragment.{Fragment}
use Rattle.mysql_fragments.specs.SteadyFragments.{first_unsteady_from}
use Rattle.mysql_fragments.proofs.unsteady.first_unsteady_fragment.Given as goal

abbrev pub invariant-loop-place : goal.invariant-loop-place
invariant-loop-place l =
    (said : List Fragment) → AreSaid l.fragments said → first_unsteady_from l.place (drop l.place said) ≡ first_unsteady_from 0 said
