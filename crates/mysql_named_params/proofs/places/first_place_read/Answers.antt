use Rattle.std.proofs.Common.{◌∙◌, sym, arith}
use Rattle.std.proofs.lemmas.List.{take_rest}
use Rattle.mysql_named_params.proofs.FirstPlaceLemmas.{no_place_before_start, plain_bytes_more, other_token_more, first_name, first_mark, first_wide_name, no_place_at_all}
use Rattle.mysql_named_params.proofs.FoundPlaceLemmas.{found_in_range_in}
use Rattle.mysql_named_params.proofs.places.first_place_read.Goals as goal

pub loop-at-init : goal.loop-at-init
loop-at-init c = no_place_before_start _ _

pub returns-clause-place : goal.returns-clause-place
returns-clause-place c =
    let o = no_place_at_all _ _ _ c.loop-at.invariant (omega (arith, c.loop-at-test.false)) in
    (o.0, o.1, tt)

pub returns-clause-none : goal.returns-clause-none
returns-clause-none c =
    let o = no_place_at_all _ _ _ c.loop-at.invariant (omega (arith, c.loop-at-test.false)) in
    (o.0, o.1, λ e. o.2)

pub returns-then-at-text-clause-place : goal.returns-then-at-text-clause-place
returns-then-at-text-clause-place c =
    let run = c.plain_end-at.ensures in
    let o = no_place_at_all _ _ _ (plain_bytes_more _ _ _ _ c.loop-at.invariant run.in_range run.plain) (omega arith) in
    (o.0, o.1, tt)

pub returns-then-at-text-clause-none : goal.returns-then-at-text-clause-none
returns-then-at-text-clause-none c =
    let run = c.plain_end-at.ensures in
    let o = no_place_at_all _ _ _ (plain_bytes_more _ _ _ _ c.loop-at.invariant run.in_range run.plain) (omega arith) in
    (o.0, o.1, λ e. o.2)

pub returns-then-opens_wide_name_in-clause-place : goal.returns-then-opens_wide_name_in-clause-place
returns-then-opens_wide_name_in-clause-place c =
    let run = c.plain_end-at.ensures in
    first_wide_name _ _ _ _ (plain_bytes_more _ _ _ _ c.loop-at.invariant run.in_range run.plain) (take_rest c.args.text.now c.plain_end-at.result) _ (sym c.opens_wide_name_in.ensures ∙ c.if-opens_wide_name_in.true) (omega (arith, c.wide_len.ensures.len))

pub returns-then-opens_wide_name_in-clause-none : goal.returns-then-opens_wide_name_in-clause-none
returns-then-opens_wide_name_in-clause-none c =
    let o = returns-then-opens_wide_name_in-clause-place c in
    (o.0, o.1, λ e. cc)

pub returns-then-opens_wide_name_in-clause-in_range : goal.returns-then-opens_wide_name_in-clause-in_range
returns-then-opens_wide_name_in-clause-in_range c = found_in_range_in _ _ _ (returns-then-opens_wide_name_in-clause-place c)

pub returns-in-Name-clause-place : goal.returns-in-Name-clause-place
returns-in-Name-clause-place c =
    let run = c.plain_end-at.ensures in
    first_name _ _ _ _ (plain_bytes_more _ _ _ _ c.loop-at.invariant run.in_range run.plain) (take_rest c.args.text.now c.plain_end-at.result) _ _ c.first_token-kind.ensures (sym c.opens_wide_name_in.ensures ∙ c.if-opens_wide_name_in.false) c.in-Name.is

pub returns-in-Name-clause-none : goal.returns-in-Name-clause-none
returns-in-Name-clause-none c =
    let o = returns-in-Name-clause-place c in
    (o.0, o.1, λ e. cc)

pub returns-in-Name-clause-in_range : goal.returns-in-Name-clause-in_range
returns-in-Name-clause-in_range c = found_in_range_in _ _ _ (returns-in-Name-clause-place c)

pub returns-in-Mark-clause-place : goal.returns-in-Mark-clause-place
returns-in-Mark-clause-place c =
    let run = c.plain_end-at.ensures in
    first_mark _ _ _ _ (plain_bytes_more _ _ _ _ c.loop-at.invariant run.in_range run.plain) (take_rest c.args.text.now c.plain_end-at.result) _ _ c.first_token-kind.ensures (sym c.opens_wide_name_in.ensures ∙ c.if-opens_wide_name_in.false) c.in-Mark.is

pub returns-in-Mark-clause-none : goal.returns-in-Mark-clause-none
returns-in-Mark-clause-none c =
    let o = returns-in-Mark-clause-place c in
    (o.0, o.1, λ e. cc)

pub returns-in-Mark-clause-in_range : goal.returns-in-Mark-clause-in_range
returns-in-Mark-clause-in_range c = found_in_range_in _ _ _ (returns-in-Mark-clause-place c)

pub loop-at-preserved : goal.loop-at-preserved
loop-at-preserved c =
    let run = c.plain_end-at.ensures in
    other_token_more _ _ _ _ (plain_bytes_more _ _ _ _ c.loop-at.invariant run.in_range run.plain) (take_rest c.args.text.now c.plain_end-at.result) _ _ c.first_token-kind.ensures (sym c.opens_wide_name_in.ensures ∙ c.if-opens_wide_name_in.false) c.in-Other.is
