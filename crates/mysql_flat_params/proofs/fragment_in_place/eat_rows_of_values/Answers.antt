use Rattle.std.proofs.Common.{◌≡◌, ◌+◌, ◌*◌, ap, ◌∙◌, arith, length, length-append, map, suc}
use Rattle.std.specs.Simd.{first_chunks}
use Rattle.mysql_flat_params.specs.FlatFragments.{read_items}
use Rattle.mysql_flat_params.specs.FormInPlace.{cell_content}
use Rattle.mysql_flat_params.proofs.FragmentInPlaceLemmas.{one_chunk_more}
use Rattle.mysql_flat_params.proofs.ReadEachLemmas.{one_more}
use Rattle.mysql_flat_params.proofs.fragment_in_place.eat_rows_of_values.Goals as goal

pub loop-left-preserved : goal.loop-left-preserved
loop-left-preserved c =
    let (done, count, cells, so_far) = c.loop-left.invariant in
    let (more, items, long, read) = c.in_ok-eat_row.ensures c.if-not-branch.false in
    let width = c.in-Some-checked_eat_u32_le.width in
    let wider : suc done * width ≡ done * width + width = omega arith in (
      suc done,
      omega (arith, count, c.loop-left-test.true),
      omega (arith, ap length items, length-append c.loop-left.cells.items more, cells, long, wider),
      one_more (read_items c.args.spot.place c.args.spot.position) (map cell_content) _ _ (first_chunks width done c.loop-left.cells.items) _ more _ _
          c.loop-left-test.true so_far read (ap (first_chunks width (suc done)) items ∙ one_chunk_more width done c.loop-left.cells.items more cells long),
    )
