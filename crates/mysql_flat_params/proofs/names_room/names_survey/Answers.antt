use Rattle.std.proofs.Common.{◌+◌, refl, ap}
use Rattle.std.proofs.lemmas.List.{take_rest}
use Rattle.mysql_flat_params.proofs.NamesSurveyLemmas.{surveyed_none, surveyed_name, surveyed_mark, surveyed_all}
use Rattle.mysql_flat_params.proofs.names_room.names_survey.Goals as goal

pub loop-found-init : goal.loop-found-init
loop-found-init c = surveyed_none _ _

pub loop-found-preserved-in-Name : goal.loop-found-preserved-in-Name
loop-found-preserved-in-Name c =
    surveyed_name _ _ _ _ _ _ _ c.loop-found.invariant _ c.in-Some.ensures.place _ _ c.cut.ensures.place c.cut.ensures.after
    _ (take_rest c.cut.result.1.now 1) c.in-Name.is _ _ _ _ refl refl refl (ap (λ n. c.loop-found.row_len + n) c.lenenc_str_len.ensures.count)

pub loop-found-preserved : goal.loop-found-preserved
loop-found-preserved c =
    surveyed_mark _ _ _ _ _ _ _ c.loop-found.invariant _ c.in-Some.ensures.place _ _ c.cut.ensures.place c.cut.ensures.after
    _ _ _ _ c.in-Mark.is refl refl refl refl

pub returns-clause-survey : goal.returns-clause-survey
returns-clause-survey c =
    let o = c.in_default.ensures.none in
    surveyed_all _ _ _ _ _ _ _ c.loop-found.invariant _ refl (o.0, o.1, o.2 refl)
