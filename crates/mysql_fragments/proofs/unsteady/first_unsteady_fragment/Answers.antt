use Rattle.std.specs.List.{list_all}
use Rattle.std.proofs.Common.{◌≡◌, subst}
use Rattle.mysql_portable.specs.Steady.{is_steady}
use Rattle.mysql_fragments.specs.BorrowedFragments.{Says}
use Rattle.mysql_fragments.specs.FragmentText.{fragment_text}
use Rattle.mysql_fragments.specs.declared.fragment.Fragment.{Fragment}
use Rattle.mysql_fragments.proofs.SaidSteadyLemmas.{all_steady, steady_here, unsteady_here}
use Rattle.mysql_fragments.proofs.unsteady.first_unsteady_fragment.Goals as goal

pub returns-then-not-is_steady_borrowed : goal.returns-then-not-is_steady_borrowed
returns-then-not-is_steady_borrowed c = λ said all.
    unsteady_here c.args.fragments.now said c.loop-place.place c.index-fragments-place.result all c.loop-place-test.true (c.loop-place.invariant said all) c.is_steady_borrowed.result
    (subst (λ f. (one : Fragment) → Says f one → c.is_steady_borrowed.result ≡ list_all is_steady (fragment_text one)) c.index-fragments-place.is c.is_steady_borrowed.ensures)
    c.if-not-is_steady_borrowed.true

pub loop-place-preserved : goal.loop-place-preserved
loop-place-preserved c = λ said all.
    steady_here c.args.fragments.now said c.loop-place.place c.index-fragments-place.result all c.loop-place-test.true (c.loop-place.invariant said all) c.is_steady_borrowed.result
    (subst (λ f. (one : Fragment) → Says f one → c.is_steady_borrowed.result ≡ list_all is_steady (fragment_text one)) c.index-fragments-place.is c.is_steady_borrowed.ensures)
    c.if-not-is_steady_borrowed.false

pub returns : goal.returns
returns c = λ said all. all_steady c.args.fragments.now said c.loop-place.place all c.loop-place-test.false (c.loop-place.invariant said all)
