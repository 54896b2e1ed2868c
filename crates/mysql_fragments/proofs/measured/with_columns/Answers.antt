use Rattle.std.proofs.Common.{refl, arith, ap, length}
use Rattle.std.specs.Prelude.{codes}
use Rattle.mysql_fragments.specs.FragmentText.{qualified_text}
use Rattle.mysql_fragments.proofs.JoinedLemmas.{joined_fits, joined_len}
use Rattle.mysql_fragments.proofs.measured.with_columns.Goals as goal

pub returns-in_err-sum-clause-too_long : goal.returns-in_err-sum-clause-too_long
returns-in_err-sum-clause-too_long c = λ none. omega (arith, c.loop-i.invariant, c.in_err-sum.ensures.too_long refl, joined_fits (codes ", ") (λ names. qualified_text names.items) c.args.columns.now c.loop-i.i c.index-columns-i.result c.loop-i-test.true c.index-columns-i.is)

pub returns-in_err-sum-2-clause-too_long : goal.returns-in_err-sum-2-clause-too_long
returns-in_err-sum-2-clause-too_long c = λ none. omega (arith, c.loop-i.invariant, c.in_ok-sum.ensures.len, c.in_err-sum-2.ensures.too_long refl, ap (λ z. length (qualified_text z)) c.as_slice.ensures.value, joined_fits (codes ", ") (λ names. qualified_text names.items) c.args.columns.now c.loop-i.i c.index-columns-i.result c.loop-i-test.true c.index-columns-i.is)

pub loop-i-preserved : goal.loop-i-preserved
loop-i-preserved c = omega (arith, c.loop-i.invariant, c.in_ok-sum.ensures.len, c.in_ok-sum-2.ensures.len, ap (λ z. length (qualified_text z)) c.as_slice.ensures.value, joined_len (codes ", ") (λ names. qualified_text names.items) c.args.columns.now c.loop-i.i c.index-columns-i.result c.loop-i-test.true c.index-columns-i.is)
