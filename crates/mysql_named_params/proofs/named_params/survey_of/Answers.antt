use Rattle.std.proofs.Common.{refl, arith}
use Rattle.std.proofs.lemmas.List.{take_rest}
use Rattle.mysql_named_params.proofs.SurveyLemmas.{no_place_told, counts_told, no_more_counted, name_told, places_from_end, places_from_first}
use Rattle.mysql_named_params.proofs.named_params.survey_of.Goals as goal

pub returns-in_default-clause-places : goal.returns-in_default-clause-places
returns-in_default-clause-places c =
    let o = c.in_default.ensures.none in
    no_place_told _ _ (o.0, o.1, o.2 refl)

pub returns-in_default-clause-start : goal.returns-in_default-clause-start
returns-in_default-clause-start c =
    let o = c.in_default.ensures.none in
    places_from_end _ _ (o.0, o.1, o.2 refl)

pub returns-in_default-memchr-clause-places : goal.returns-in_default-memchr-clause-places
returns-in_default-memchr-clause-places c =
    name_told _ _ _ _ c.in-Some.ensures.place (take_rest c.args.query.now c.in-Some.first.before) c.in_default-memchr.ensures

pub returns-clause-places : goal.returns-clause-places
returns-clause-places c =
    counts_told _ _ _ _ _ _ c.in-Some.ensures.place (take_rest c.args.query.now c.in-Some.first.before) c.count_places-counts.ensures

pub returns-clause-start : goal.returns-clause-start
returns-clause-start c = places_from_first _ _ _ c.in-Some.ensures.place

pub returns-in_default-clause-counted : goal.returns-in_default-clause-counted
returns-in_default-clause-counted c =
    let o = c.in_default.ensures.none in
    (o.0, o.1, omega arith)

pub returns-in_default-memchr-clause-counted : goal.returns-in_default-memchr-clause-counted
returns-in_default-memchr-clause-counted c =
    let o = c.in-Some.ensures.place in
    (o.0, o.1, omega arith)

pub returns-clause-counted : goal.returns-clause-counted
returns-clause-counted c =
    no_more_counted _ _ _ _ _ _ c.in-Some.ensures.place (take_rest c.args.query.now c.in-Some.first.before) c.count_places-counts.ensures
