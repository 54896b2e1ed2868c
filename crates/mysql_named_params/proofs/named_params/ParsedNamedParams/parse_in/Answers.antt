use Rattle.std.proofs.Common.{◌≤◌, length, map, ap, arith}
use Rattle.std.proofs.lemmas.Bool.{not-true, not-false}
use Rattle.std.specs.Cow.{cow_slice_items}
use Rattle.mysql_named_params.specs.Places.{names, marks}
use Rattle.mysql_named_params.proofs.SurveyLemmas.{not_some, told_no_mark}
use Rattle.mysql_named_params.proofs.RenameLemmas.{parsed_same}
use Rattle.mysql_named_params.proofs.ReparsedLemmas.{reparsed_nameless, reparsed_marked, reparsed_restored}
use Rattle.mysql_named_params.proofs.named_params.ParsedNamedParams.parse_in.Goals as goal

pub returns-then-not-survey-clause-ok : goal.returns-then-not-survey-clause-ok
returns-then-not-survey-clause-ok c =
    let o = c.survey_of-survey.ensures.places in
    let nameless : length (names o.0) ≤ 0 = not_some _ _ o.2.0 (not-true _ c.if-not-survey.true) in
    (o.0, o.1, parsed_same _ _ o.0 _ o.1 nameless (ap (map cow_slice_items) c.new.ensures.items))

pub renamed_query-requires-clause-names : goal.renamed_query-requires-clause-names
renamed_query-requires-clause-names c =
    let o = c.survey_of-survey.ensures.places in
    let few : marks o.0 ≤ 0 = not_some _ _ o.2.1 c.if-survey.false in
    (o.0, o.1, (o.2.0.0 (not-false _ c.if-not-survey.false), omega arith))

pub returns-in-Ok-clause-nameless : goal.returns-in-Ok-clause-nameless
returns-in-Ok-clause-nameless c =
    let renamed = c.in-Ok.ensures in
    reparsed_nameless _ _ renamed.0 _ renamed.1 renamed.2

pub returns-in-Ok-clause-marked : goal.returns-in-Ok-clause-marked
returns-in-Ok-clause-marked c =
    let renamed = c.in-Ok.ensures in
    reparsed_marked _ _ renamed.0 _ renamed.1 renamed.2 (λ some. told_no_mark _ _ _ _ _ c.survey_of-survey.ensures.places c.if-survey.false renamed.1)

pub returns-in-Ok-clause-restored : goal.returns-in-Ok-clause-restored
returns-in-Ok-clause-restored c =
    let renamed = c.in-Ok.ensures in
    reparsed_restored _ _ renamed.0 _ renamed.1 renamed.2 (λ some. told_no_mark _ _ _ _ _ c.survey_of-survey.ensures.places c.if-survey.false renamed.1)
