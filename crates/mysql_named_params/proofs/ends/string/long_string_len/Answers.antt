use Rattle.std.proofs.Common.{◌<◌, arith, length, sym, ◌∙◌}
use Rattle.mysql_named_params.proofs.ClosingQuoteLemmas.{goes_on_first, goes_on_next, goes_on_to, goes_on_to_quote, ends_open, ends_closed}
use Rattle.mysql_named_params.proofs.ends.string.long_string_len.Goals as goal

pub jumps-init : goal.jumps-init
jumps-init c = goes_on_to _ _ _ 0 16 (omega arith) c.requires.long c.requires.open (goes_on_first _ _ _)

pub returns-in-Some-clause-string : goal.returns-in-Some-clause-string
returns-in-Some-clause-string c =
    let close = c.in-Some.ensures in
    let here = goes_on_to _ _ _ _ _ close.0 (omega (arith, close.1)) close.2.none_before c.by_lanes.invariant.1 in
    ends_closed _ _ _ _ here (omega (arith, close.1)) close.2.is_quote close.2.closes

pub by_lanes-preserved : goal.by_lanes-preserved
by_lanes-preserved c = (
  omega (arith, c.by_lanes.invariant.0),
  goes_on_to _ _ _ _ _ (omega arith) (omega arith) c.in-None.ensures c.by_lanes.invariant.1,
)

pub returns-then-far-text-clause-string : goal.returns-then-far-text-clause-string
returns-then-far-text-clause-string c =
    let here = goes_on_to_quote _ _ _ _ _ c.far_quote-far.ensures c.by_lanes.invariant.1 in
    ends_open _ _ _ _ here (omega (arith, c.if-far-text.true))

pub returns-then-not-is_escaped-clause-string : goal.returns-then-not-is_escaped-clause-string
returns-then-not-is_escaped-clause-string c =
    let next = c.far_quote-far.ensures in
    let here = goes_on_to_quote _ _ _ _ _ next c.by_lanes.invariant.1 in
    let within : c.far_quote-far.result < length c.args.text.now = omega (arith, next.in_range.1, c.if-far-text.false) in
    ends_closed _ _ _ _ here within (next.found within) (sym c.is_escaped.ensures ∙ c.if-not-is_escaped.true)

pub jumps-preserved : goal.jumps-preserved
jumps-preserved c =
    let next = c.far_quote-far.ensures in
    let here = goes_on_to_quote _ _ _ _ _ next c.by_lanes.invariant.1 in
    goes_on_next _ _ _ _ (omega (arith, next.in_range.1, c.if-far-text.false)) (λ same. sym c.is_escaped.ensures ∙ c.if-not-is_escaped.false) here

pub returns-clause-string : goal.returns-clause-string
returns-clause-string c = ends_open _ _ _ _ c.jumps.invariant (omega (arith, c.jumps-test.false))
