use Rattle.std.proofs.Common.{ℕ, List, [], get_or, sym, ◌∙◌}
use Rattle.std.specs.Borrow.{Bor}
use Rattle.mysql_value_core.specs.declared.value.ValueRef.{ValueRef}
use Rattle.mysql_value_core.specs.declared.value.ValueRef.TheVariants.{NULL}
use Rattle.mysql_params_core.proofs.SortedPairLemmas.{asked_of_insert, redefined_here, distinct_more, pair_map-insert}
use Rattle.mysql_params_core.proofs.params.sorted_pairs.first_redefined_sorted.Goals as goal

pub returns-then-is_some : goal.returns-then-is_some
returns-then-is_some c =
    let d : Bor (List ℕ) × ValueRef = (record { ref_ptr = (0, 0); now = [] }, NULL) in
    let pair = get_or c.args.pairs.now c.loop-i.i d in
    redefined_here c.args.pairs.now c.loop-i.i d c.loop-i-test.true c.loop-i.entries.entries c.loop-i.invariant
    (asked_of_insert c.loop-i.entries.entries pair.0 c.in_ok-insert.field-0 c.in_ok-insert.ensures.old ∙ sym c.is_some.ensures ∙ c.if-is_some.true)

pub loop-i-preserved : goal.loop-i-preserved
loop-i-preserved c =
    let d : Bor (List ℕ) × ValueRef = (record { ref_ptr = (0, 0); now = [] }, NULL) in
    let pair = get_or c.args.pairs.now c.loop-i.i d in
    distinct_more c.args.pairs.now c.loop-i.i d c.loop-i-test.true c.loop-i.entries.entries c.loop-i.invariant
    (asked_of_insert c.loop-i.entries.entries pair.0 c.in_ok-insert.field-0 c.in_ok-insert.ensures.old ∙ sym c.is_some.ensures ∙ c.if-is_some.false) c.insert.new.self.entries
    (pair_map-insert c.loop-i.entries.entries c.insert.new.self.entries pair.0 pair.1
    c.in_ok-insert.ensures.updates.3 c.in_ok-insert.ensures.updates.1)
