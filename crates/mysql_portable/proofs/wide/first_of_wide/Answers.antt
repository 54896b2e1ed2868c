use Rattle.std.proofs.Common.{rules, sym, ◌∙◌, arith}
use Rattle.mysql_portable.proofs.UnportableLemmas.{slice_within}
use Rattle.mysql_portable.proofs.WideWalkLemmas.{wide_walked_none, wide_walked_run, wide_walked_more, wide_walked_name, wide_walked_found, wide_walked_whole, none_where_portable_wide}
use Rattle.mysql_portable.proofs.wide.first_of_wide.Goals as goal

pub tokens-init : goal.tokens-init
tokens-init c = record { walked = wide_walked_none _ _; within = omega arith }

pub returns-then-is_empty-clause-first : goal.returns-then-is_empty-clause-first
returns-then-is_empty-clause-first c =
    let run = c.no_construct_len.ensures in
    let walked = wide_walked_run _ _ _ _ c.tokens.invariant.walked run.in_range run.no_construct run.no_sign in
    wide_walked_whole _ _ _ (search rules) walked

pub returns-then-is_empty-clause-none : goal.returns-then-is_empty-clause-none
returns-then-is_empty-clause-none c = none_where_portable_wide _ _ _ (returns-then-is_empty-clause-first c)

pub tokens-preserved-then-opens_wide_name : goal.tokens-preserved-then-opens_wide_name
tokens-preserved-then-opens_wide_name c =
    let run = c.no_construct_len.ensures in
    let walked = wide_walked_run _ _ _ _ c.tokens.invariant.walked run.in_range run.no_construct run.no_sign in
    record {
      walked = wide_walked_name _ _ _ _ walked (sym c.opens_wide_name.ensures ∙ c.if-opens_wide_name.true) (omega (arith, c.wide_len-len.ensures.len));
      within = slice_within _ _ _ (slice_within _ _ _ c.tokens.invariant.within);
    }

pub returns-in-Some-clause-first : goal.returns-in-Some-clause-first
returns-in-Some-clause-first c =
    let run = c.no_construct_len.ensures in
    let walked = wide_walked_run _ _ _ _ c.tokens.invariant.walked run.in_range run.no_construct run.no_sign in
    wide_walked_found _ _ _ _ _ walked c.first_token-len.ensures (sym c.opens_wide_name.ensures ∙ c.if-opens_wide_name.false) _ _ (sym c.in-Some.ensures) (omega arith)

pub returns-in-Some-clause-none : goal.returns-in-Some-clause-none
returns-in-Some-clause-none c = none_where_portable_wide _ _ _ (returns-in-Some-clause-first c)

pub tokens-preserved : goal.tokens-preserved
tokens-preserved c =
    let run = c.no_construct_len.ensures in
    let walked = wide_walked_run _ _ _ _ c.tokens.invariant.walked run.in_range run.no_construct run.no_sign in
    record {
      walked = wide_walked_more _ _ _ _ _ walked c.first_token-len.ensures (sym c.opens_wide_name.ensures ∙ c.if-opens_wide_name.false) (sym c.in_default.ensures);
      within = slice_within _ _ _ (slice_within _ _ _ c.tokens.invariant.within);
    }
