use Rattle.std.proofs.Common.{ap, sym, ◌∙◌, rules, Some}
use Rattle.mysql_binding.specs.FirstCause.{mark_count, mark_count_differs}
use Rattle.mysql_binding.specs.PlaceValues.{placed_values}
use Rattle.mysql_binding.proofs.CauseLemmas.{later_is_count, later_is_alone, later_is_float}
use Rattle.mysql_binding.proofs.binding.later_error.Goals as goal

pub returns-then-mark_count_differs-clause-cause : goal.returns-then-mark_count_differs-clause-cause
returns-then-mark_count_differs-clause-cause c ts is =
    let values = placed_values c.args.values.now in
    ap (λ n. Some (Some (mark_count c.args.survey.marks n))) c.count-count.ensures
    ∙ later_is_count _ ts values is
    (ap (mark_count_differs c.args.survey.names c.args.survey.marks) (sym c.count-count.ensures) ∙ (sym c.mark_count_differs.ensures ∙ c.if-mark_count_differs.true))

-- It is searched for, so that a wrong body is refused at the goal, and another right one is proved.
pub returns-in-Some-clause-cause : goal.returns-in-Some-clause-cause
returns-in-Some-clause-cause c ts is =
    let values = placed_values c.args.values.now in
    let counted = ap (mark_count_differs c.args.survey.names c.args.survey.marks) (sym c.count-count.ensures) ∙ (sym c.mark_count_differs.ensures ∙ c.if-mark_count_differs.false) in
    search (later_is_alone _ ts values is _ _ counted c.in-Some.is, rules)

pub returns-in-Some-first_float-clause-cause : goal.returns-in-Some-first_float-clause-cause
returns-in-Some-first_float-clause-cause c ts is =
    let values = placed_values c.args.values.now in
    later_is_float _ ts values is _
    (ap (mark_count_differs c.args.survey.names c.args.survey.marks) (sym c.count-count.ensures) ∙ (sym c.mark_count_differs.ensures ∙ c.if-mark_count_differs.false)) c.in_default.is c.in-Some-first_float.ensures

pub returns-in-None-clause-cause : goal.returns-in-None-clause-cause
returns-in-None-clause-cause c ts is =
    let values = placed_values c.args.values.now in
    later_is_float _ ts values is _
    (ap (mark_count_differs c.args.survey.names c.args.survey.marks) (sym c.count-count.ensures) ∙ (sym c.mark_count_differs.ensures ∙ c.if-mark_count_differs.false)) c.in_default.is c.in-None.ensures
