use Rattle.std.proofs.Common.{arith, refl}
use Rattle.mysql_binding.proofs.SpanLemmas.{own_survey}
use Rattle.mysql_binding.proofs.binding.spanned.SpannedQuery.try_new.Goals.{then-len-survey-via-then-len-survey, then-len-survey-via-else-len-survey+then-survey-spans, then-len-survey-via-else-len-survey+else-survey-spans+then-survey-spans-2}
use Rattle.mysql_binding.proofs.binding.spanned.SpannedQuery.try_new.Goals as goal

pub returns-in_err-len-clause-own : goal.returns-in_err-len-clause-own
returns-in_err-len-clause-own c = λ reading own. absurd (c.in_err-len.ensures.none refl (own_survey _ _ reading _ own).fit)

pub returns-then-len-survey-clause-own : goal.returns-then-len-survey-clause-own
returns-then-len-survey-clause-own c = λ reading own.
    let fit = own_survey _ _ reading _ own in
    elim c.then-len-survey.branch [
      | then-len-survey-via-then-len-survey w ↦ absurd (omega (arith, w.if-len-survey.true, c.in_ok-len.ensures.fit.1, fit.outside))
      | then-len-survey-via-else-len-survey+then-survey-spans w ↦ absurd (omega (arith, w.if-survey-spans.true, fit.count))
      | then-len-survey-via-else-len-survey+else-survey-spans+then-survey-spans-2 w ↦ absurd (omega (arith, w.if-survey-spans-2.true, w.if-survey-spans.false, fit.count))
    ]
