use Rattle.std.proofs.Common.{[], ◌∷◌, ◌++◌, refl, sym, ap, ◌∙◌, arith, append-nil, append_assoc, length-append}
use Rattle.mysql_flat_params.specs.FlatFragments.{read_item}
use Rattle.mysql_flat_params.specs.FormInPlace.{cell_content}
use Rattle.mysql_flat_params.proofs.ReadEachLemmas.{all_read, one_more}
use Rattle.mysql_flat_params.proofs.fragment_in_place.eat_values.Goals as goal

pub loop-missing-init : goal.loop-missing-init
loop-missing-init c = ([], sym (append-nil c.args.cells.now.items), omega arith, refl)

pub loop-missing-preserved : goal.loop-missing-preserved
loop-missing-preserved c =
    let (more, items, count, so_far) = c.loop-missing.invariant in (
      more ++ c.in-Some.value ∷ [],
      c.in_ok-push.ensures.items ∙ (ap (λ xs. xs ++ c.in-Some.value ∷ []) items ∙ append_assoc c.args.cells.now.items more (c.in-Some.value ∷ [])),
      omega (arith, count, length-append more (c.in-Some.value ∷ [])),
      one_more (read_item c.args.spot.place c.args.spot.position) cell_content _ _ more _ c.in-Some.value _ _ c.loop-missing-test.true so_far c.in-Some.ensures refl,
    )

pub returns : goal.returns
returns c = λ all.
    let (more, items, count, so_far) = c.loop-missing.invariant in (
      more,
      items,
      omega (arith, count),
      all_read (read_item c.args.spot.place c.args.spot.position) cell_content _ _ more _ (omega arith) so_far,
    )
