use Rattle.std.proofs.Common.{subst, arith}
use Rattle.mysql_named_params.specs.Reading.{OnTokensIn}
use Rattle.mysql_named_params.specs.declared.places.Reading.{Reading}
use Rattle.mysql_binding.specs.Survey.{IsSurvey}
use Rattle.mysql_binding.proofs.SurveyedQueryLemmas.{on_survey}
use Rattle.mysql_bind_core.proofs.checked.check_named.Goals as goal

pub returns-then-query-gt0-clause-refused : goal.returns-then-query-gt0-clause-refused
returns-then-query-gt0-clause-refused c =
    let s = c.args.query.now in
    let o = subst (λ (r : Reading). OnTokensIn r s.query.now (IsSurvey s.survey)) c.requires.reading (on_survey _ _ s.survey s.surveyed) in
    (c.requires.closed, c.requires.steady, c.requires.portable, (o.0, o.1, λ none. absurd (omega (arith, none, o.2.1, c.if-query-gt0.true))))

pub returns-else-query-gt0-clause-is_named : goal.returns-else-query-gt0-clause-is_named
returns-else-query-gt0-clause-is_named c =
    let s = c.args.query.now in
    let o = subst (λ (r : Reading). OnTokensIn r s.query.now (IsSurvey s.survey)) c.requires.reading (on_survey _ _ s.survey s.surveyed) in
    (o.0, o.1, omega (arith, o.2.1, c.if-query-gt0.false))
