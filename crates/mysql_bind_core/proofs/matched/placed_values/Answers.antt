use Rattle.std.proofs.Common.{◌≡◌, ◌∙◌, Some, ap, get_or, length, map, refl, sym}
use Rattle.std.specs.List.{slice_get}
use Rattle.std.specs.Option.{option_map}
use Rattle.std.proofs.lemmas.Option.{slice_get-map, slice_get_read}
use Rattle.mysql_values.specs.BorrowedValue.{owned}
use Rattle.mysql_bind_core.specs.Cells.{value_said}
use Rattle.mysql_bind_core.proofs.MatchedLemmas.{all_taken, found_more, found_values}
use Rattle.mysql_bind_core.proofs.matched.placed_values.Goals as goal

pub loop-number-preserved : goal.loop-number-preserved
loop-number-preserved c =
    let values = c.args.values.now in
    let at = get_or c.args.numbers.now c.loop-number.number-index 0 in
    let found : slice_get (map value_said values) at ≡ Some (owned c.borrowed.result) =
    slice_get-map value_said values at
    ∙ ap (option_map value_said) (slice_get_read values (length values) at c.index-values-at.result refl c.if-at-values.false c.index-values-at.is)
    ∙ ap (λ v. Some v) (sym c.borrowed.ensures) in
    found_more (slice_get (map value_said values)) owned c.args.numbers.now c.loop-number.number-index 0 at c.loop-number.placed.items c.push.new.self.items
    c.borrowed.result c.loop-number-test.true refl c.loop-number.invariant found c.in_ok-push.ensures.items

pub returns : goal.returns
returns c =
    ap (map (slice_get (map value_said c.args.values.now))) (sym (all_taken c.args.numbers.now c.loop-number.number-index c.loop-number-test.false))
    ∙ c.loop-number.invariant
    ∙ found_values owned c.loop-number.placed.items
