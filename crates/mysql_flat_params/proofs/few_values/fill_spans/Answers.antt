use Rattle.std.proofs.Common.{rules}
use Rattle.mysql_value_core.specs.declared.value.ValueRef.TheVariants.{NULL}
use Rattle.mysql_binding.proofs.FilledTextLemmas.{owned_all, owned_below, owned_read}
use Rattle.mysql_binding.proofs.SpanTextLemmas.{value_no_float, value_len, span_literal_fits, spans_filled_more, spans_filled_all}
use Rattle.mysql_flat_params.proofs.few_values.fill_spans.Goals as goal

pub append_literal-at-requires-clause-no_float : goal.append_literal-at-requires-clause-no_float
append_literal-at-requires-clause-no_float g c =
    value_no_float _ _ _ _ _ _ _ _ _ c.loop-i.invariant (owned_below c.args.values.now c.loop-i.i c.loop-i-test.true) _ (owned_read c.args.values.now c.loop-i.i NULL c.loop-i-test.true)

pub append_literal-at-requires-clause-len : goal.append_literal-at-requires-clause-len
append_literal-at-requires-clause-len g c =
    value_len _ _ _ _ _ _ _ _ _ c.loop-i.invariant (owned_below c.args.values.now c.loop-i.i c.loop-i-test.true) _ (owned_read c.args.values.now c.loop-i.i NULL c.loop-i-test.true) _ c.requires.lens

pub append_literal-at-requires-clause-room : goal.append_literal-at-requires-clause-room
append_literal-at-requires-clause-room g c =
    span_literal_fits _ _ _ _ _ _ _ _ _ c.loop-i.invariant (owned_below c.args.values.now c.loop-i.i c.loop-i-test.true) _ (owned_read c.args.values.now c.loop-i.i NULL c.loop-i-test.true) _ _ c.around.ensures.before
    _ _ c.append_piece-at.ensures.next (search rules) c.append_piece-at.ensures.front _
    (value_len _ _ _ _ _ _ _ _ _ c.loop-i.invariant (owned_below c.args.values.now c.loop-i.i c.loop-i-test.true) _ (owned_read c.args.values.now c.loop-i.i NULL c.loop-i-test.true) _ c.requires.lens)

pub loop-i-preserved : goal.loop-i-preserved
loop-i-preserved g c =
    spans_filled_more _ _ _ _ _ _ _ _ _ c.loop-i.invariant (owned_below c.args.values.now c.loop-i.i c.loop-i-test.true) _ (owned_read c.args.values.now c.loop-i.i NULL c.loop-i-test.true) _ _ c.around.ensures.before
    _ _ c.append_piece-at.ensures.next (search rules) c.append_piece-at.ensures.front _ _ _ _ c.around.ensures.after
    (value_len _ _ _ _ _ _ _ _ _ c.loop-i.invariant (owned_below c.args.values.now c.loop-i.i c.loop-i-test.true) _ (owned_read c.args.values.now c.loop-i.i NULL c.loop-i-test.true) _ c.requires.lens)
    c.append_literal-at.ensures.next (search rules) c.append_literal-at.ensures.literal c.append_literal-at.ensures.known c.append_literal-at.ensures.front

pub returns : goal.returns
returns g c = spans_filled_all _ _ _ _ _ _ _ _ _ c.loop-i.invariant (owned_all c.args.values.now c.loop-i.i c.loop-i-test.false) _ _ c.append_piece.ensures.next (search rules) c.append_piece.ensures.front
