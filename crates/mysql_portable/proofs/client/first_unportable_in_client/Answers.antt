use Rattle.std.proofs.Common.{rules, sym, arith}
use Rattle.mysql_portable.proofs.UnportableLemmas.{slice_within}
use Rattle.mysql_portable.proofs.ClientWalkLemmas.{walked_found, walked_more, walked_whole, none_in_client}
use Rattle.mysql_portable.proofs.NoConstructClientLemmas.{walked_no_construct}
use Rattle.mysql_portable.proofs.client.first_unportable_in_client.Goals as goal

pub returns-in-Some-clause-first : goal.returns-in-Some-clause-first
returns-in-Some-clause-first c =
    let run = c.passed_len.ensures in
    let walked = walked_no_construct _ _ _ _ _ _ c.tokens.invariant.walked run.in_range run.no_construct run.no_exponent run.no_word in
    walked_found _ _ _ _ _ _ _ _ _ walked c.first_token-len.ensures (sym c.in-Some.ensures) (omega arith)

pub returns-in-Some-clause-none : goal.returns-in-Some-clause-none
returns-in-Some-clause-none c = none_in_client _ _ _ (returns-in-Some-clause-first c)

pub tokens-preserved : goal.tokens-preserved
tokens-preserved c =
    let run = c.passed_len.ensures in
    let walked = walked_no_construct _ _ _ _ _ _ c.tokens.invariant.walked run.in_range run.no_construct run.no_exponent run.no_word in
    record {
      walked = walked_more _ _ _ _ _ _ _ _ _ walked c.first_token-len.ensures (sym c.in_default.ensures) (sym c.statement_after-statement.ensures) (sym c.line_after-line.ensures);
      within = slice_within _ _ _ (slice_within _ _ _ c.tokens.invariant.within);
    }

pub returns-then-is_empty-clause-first : goal.returns-then-is_empty-clause-first
returns-then-is_empty-clause-first c =
    let run = c.passed_len.ensures in
    let walked = walked_no_construct _ _ _ _ _ _ c.tokens.invariant.walked run.in_range run.no_construct run.no_exponent run.no_word in
    walked_whole _ _ _ _ _ (search rules) walked

pub returns-then-is_empty-clause-none : goal.returns-then-is_empty-clause-none
returns-then-is_empty-clause-none c = none_in_client _ _ _ (returns-then-is_empty-clause-first c)
