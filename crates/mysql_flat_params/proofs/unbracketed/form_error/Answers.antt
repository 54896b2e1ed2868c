use Rattle.mysql_binding.proofs.SurveyedQueryLemmas.{on_survey}
use Rattle.mysql_flat_params.proofs.FormCauseLemmas.{form_caused, none_caused, some_caused}
use Rattle.mysql_flat_params.proofs.unbracketed.form_error.Goals as goal

pub returns-in-Ok-clause-refused : goal.returns-in-Ok-clause-refused
returns-in-Ok-clause-refused c = λ given known kept p.
    let surveyed = c.args.surveyed.now in
    some_caused surveyed.reading surveyed.query.now known given c.first_error.result
    (form_caused surveyed.reading surveyed.query.now surveyed.survey (on_survey _ _ _ surveyed.surveyed) given known c.args.placed.now p
    c.placed_error-error.result c.placed_error-error.ensures.cause c.in-Ok.found (c.in-Ok.ensures known kept) c.first_error.result c.first_error.ensures.cause)

pub returns-in-Ok-clause-none : goal.returns-in-Ok-clause-none
returns-in-Ok-clause-none c = λ none given known kept p.
    let surveyed = c.args.surveyed.now in
    none_caused surveyed.reading surveyed.query.now known given c.first_error.result none
    (form_caused surveyed.reading surveyed.query.now surveyed.survey (on_survey _ _ _ surveyed.surveyed) given known c.args.placed.now p
    c.placed_error-error.result c.placed_error-error.ensures.cause c.in-Ok.found (c.in-Ok.ensures known kept) c.first_error.result c.first_error.ensures.cause)
