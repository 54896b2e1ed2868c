use Rattle.std.specs.Prelude.{IfSome, Ok}
use Rattle.std.proofs.Common.{◌≡◌, map, subst}
use Rattle.mysql_flat_params.specs.FlatFragments.{read_all, read_items}
use Rattle.mysql_flat_params.specs.FormInPlace.{cell_content, rows_content}
use Rattle.mysql_flat_params.proofs.FragmentInPlaceLemmas.{list_kept, list_typed, rows_kept, rows_typed}
use Rattle.mysql_flat_params.proofs.fragment_in_place.eat_values_of.Goals as goal

pub returns-in-Some : goal.returns-in-Some
returns-in-Some c =
    let (said, kept) = list_kept c.in-Some.cells in (
      said,
      kept,
      λ flags.
          list_typed c.args.spot.place c.args.spot.position flags c.args.rest.now.0.now c.args.number c.in-Some.cells c.eat_list.new.rest.0.now said
          c.if-number-eq-LIST.true
          (subst (λ read. IfSome read (λ cells. read_items c.args.spot.place c.args.spot.position c.args.rest.now.0.now ≡ Ok (map cell_content cells.items, c.eat_list.new.rest.0.now)))
          c.in-Some.is c.in_ok-cells.ensures)
          kept,
    )

pub returns-in-Some-2 : goal.returns-in-Some-2
returns-in-Some-2 c =
    let (said, kept) = rows_kept c.in-Some-2.rows in (
      said,
      kept,
      λ flags.
          rows_typed c.args.spot.place c.args.spot.position flags c.args.rest.now.0.now c.args.number c.in-Some-2.rows c.eat_rows_of_values.new.rest.0.now said
          c.if-number-eq-ROWS.true
          (subst (λ read. IfSome read (λ rows. read_all c.args.spot.place c.args.spot.position (read_items c.args.spot.place c.args.spot.position) c.args.rest.now.0.now ≡ Ok (rows_content rows, c.eat_rows_of_values.new.rest.0.now)))
          c.in-Some-2.is c.in_ok-rows.ensures)
          kept,
    )
