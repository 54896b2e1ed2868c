use Rattle.std.proofs.Common.{map, ◌≡◌, ◌∙◌, ◌+◌, ◌++◌, ◌∷◌, [], ap, get_or, subst, sym, drop, rules}
use Rattle.std.specs.Prelude.{option_map}
use Rattle.std.proofs.lemmas.List.{get_or_default, map-append}
use Rattle.mysql_bind_core.specs.Contents.{all_of, item_said}
use Rattle.mysql_bind_core.specs.RowItems.{cell_item}
use Rattle.mysql_bind_core.specs.Tables.{cell_said}
use Rattle.mysql_bind_core.specs.declared.cell.Cell.{Cell}
use Rattle.mysql_bind_core.specs.declared.value_type.ValueType.TheVariants.{Null}
use Rattle.mysql_bind_core.proofs.ContentLemmas.{before, one_more_of, one_none_of}
use Rattle.mysql_bind_core.proofs.row_items.row_items.Goals as goal

-- a cell where a list has none
abbrev no_cell : Cell
no_cell = record { value_type = Null; bytes = record { ref_ptr = (0, 0); now = [] } }

pub returns-in-None : goal.returns-in-None
returns-in-None c =
    let i = c.loop-cell.cell-index in
    let cell = get_or c.args.cells.now i no_cell in
    sym (one_none_of cell_said cell_item c.args.cells.now i cell (map item_said c.loop-cell.items.items)
    c.loop-cell-test.true (get_or_default c.args.cells.now i no_cell cell c.loop-cell-test.true) c.loop-cell.invariant
    (sym c.in_ok-item.ensures ∙ ap (option_map item_said) c.in-None.is))

pub loop-cell-preserved : goal.loop-cell-preserved
loop-cell-preserved c =
    let cells = map cell_said c.args.cells.now in
    let i = c.loop-cell.cell-index in
    let cell = get_or c.args.cells.now i no_cell in
    let next = i + 1 in
    let pushed : c.push.new.self.items ≡ c.loop-cell.items.items ++ c.in-Some.item ∷ [] = search rules in
    subst (λ front. all_of cell_item cells ≡ before front (all_of cell_item (drop next cells)))
    (sym (ap (map item_said) pushed ∙ map-append item_said c.loop-cell.items.items (c.in-Some.item ∷ [])))
    (one_more_of cell_said cell_item c.args.cells.now i cell (map item_said c.loop-cell.items.items)
    c.loop-cell-test.true (get_or_default c.args.cells.now i no_cell cell c.loop-cell-test.true) c.loop-cell.invariant (item_said c.in-Some.item)
    (sym c.in_ok-item.ensures ∙ ap (option_map item_said) c.in-Some.is))
