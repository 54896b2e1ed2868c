use Rattle.std.proofs.Common.{List, take}
use Rattle.mysql_fragments.specs.BorrowedFragments.{AreSaid}
use Rattle.mysql_fragments.specs.declared.fragment.Fragment.{Fragment}
use Rattle.mysql_flat_params.specs.FormInPlace.{AreKeptAs}
use Rattle.mysql_flat_params.proofs.placed.lent_fragments.Given as goal

abbrev pub invariant-loop-fragment : goal.invariant-loop-fragment
invariant-loop-fragment l = (said : List Fragment) → AreKeptAs l.kept said → AreSaid l.list.items (take l.fragment-index said)
