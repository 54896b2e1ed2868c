use Rattle.std.proofs.Common.{ap, map, sym, subst, ◌∙◌}
use Rattle.mysql_fragments.specs.BorrowedFragments.{cell_item}
use Rattle.mysql_flat_params.specs.FormInPlace.{IsKeptAs}
use Rattle.mysql_flat_params.proofs.FragmentInPlaceLemmas.{rows_lent}
use Rattle.mysql_flat_params.proofs.fragment_in_place.FragmentInPlace.lent.Goals as goal

pub returns-in-List : goal.returns-in-List
returns-in-List c = λ said kept.
    let (items, is, values) = subst (λ f. IsKeptAs f said) c.in-List.is kept in
    (items, is, values ∙ ap (map cell_item) (sym c.as_slice.ensures.value))

pub returns-in-Rows : goal.returns-in-Rows
returns-in-Rows c = λ said kept.
    let (rows, is, values) = subst (λ f. IsKeptAs f said) c.in-Rows.is kept in
    (rows, is, values ∙ ap (map (map cell_item)) (rows_lent c.in-Rows.rows c.lent.result c.lent.ensures.0 c.lent.ensures.1))
