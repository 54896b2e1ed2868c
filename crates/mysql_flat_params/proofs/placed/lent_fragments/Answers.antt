use Rattle.std.proofs.Common.{◌≡◌, ◌+◌, ◌++◌, add-one, [], ◌∷◌, arith, subst, sym, take, take_all}
use Rattle.mysql_fragments.specs.BorrowedFragments.{AreSaid}
use Rattle.mysql_flat_params.specs.FormInPlace.{IsKeptAs}
use Rattle.mysql_flat_params.specs.declared.fragment_in_place.FragmentInPlace.{FragmentInPlace}
use Rattle.mysql_flat_params.proofs.PlacedLemmas.{kept_at_index, kept_count, said_more}
use Rattle.mysql_flat_params.proofs.placed.lent_fragments.Goals as goal

pub loop-fragment-preserved : goal.loop-fragment-preserved
loop-fragment-preserved c = λ said all.
    let i = c.loop-fragment.fragment-index in
    let (one, one_more, kept) = kept_at_index c.args.kept.now said i c.fragment-item.result all c.loop-fragment-test.true in
    let more : take (i + 1) said ≡ take i said ++ one ∷ [] = rw add-one one_more in
    subst (λ list. AreSaid list (take (i + 1) said)) (sym c.in_ok-push.ensures.items)
    (subst (AreSaid (c.loop-fragment.list.items ++ c.lent.result ∷ [])) (sym more)
    (said_more c.loop-fragment.list.items (take i said) c.lent.result one (c.loop-fragment.invariant said all)
    (c.lent.ensures one (subst (λ f. IsKeptAs f one) (sym {A = FragmentInPlace} c.fragment-item.is) kept))))

pub returns : goal.returns
returns c = λ said all.
    subst (AreSaid c.loop-fragment.list.items)
    (take_all c.loop-fragment.fragment-index said (omega (arith, kept_count c.args.kept.now said all, c.loop-fragment-test.false)))
    (c.loop-fragment.invariant said all)
