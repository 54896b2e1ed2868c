use Rattle.std.proofs.Common.{arith, rules}
use Rattle.mysql_portable.proofs.UnportableLemmas.{slice_within}
use Rattle.mysql_steady_text.proofs.BackslashLemmas.{lacking, passed_found, passed_more, passed_whole}
use Rattle.mysql_steady_text.proofs.first_backslash.first_backslash.Goals as goal

pub returns-in_default : goal.returns-in_default
returns-in_default c = lacking c.args.query.now c.in_default.ensures

pub returns-in-Some-backslash_in : goal.returns-in-Some-backslash_in
returns-in-Some-backslash_in c =
    passed_found _ _ _ _ _ _ _ c.loop-rest.invariant.passed c.first_token-len.ensures (c.in-Some-backslash_in.ensures.string, c.in-Some-backslash_in.ensures.other) (omega arith)

pub loop-rest-preserved : goal.loop-rest-preserved
loop-rest-preserved c = record {
  passed = passed_more _ _ _ _ _ c.loop-rest.invariant.passed c.first_token-len.ensures (c.in_default-backslash_in.ensures.string, c.in_default-backslash_in.ensures.other);
  within = slice_within _ _ _ c.loop-rest.invariant.within;
}

pub returns : goal.returns
returns c = passed_whole _ _ _ (search rules) c.loop-rest.invariant.passed
