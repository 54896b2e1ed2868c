use Rattle.std.proofs.Common.{true, ap, sym, ◌∙◌, Some}
use Rattle.mysql_binding.specs.FirstCause.{mark_count_differs}
use Rattle.mysql_fragments.specs.FragmentErrors.{mark_count}
use Rattle.mysql_fragments.proofs.CauseLemmas.{later_is_count, later_is_alone, later_is_float, later_is_fault}
use Rattle.mysql_fragments.proofs.SaidLemmas.{said_count, said_first_fault, said_first_float}
use Rattle.mysql_fragments.proofs.placed_refs.placed_error.Goals as goal

pub returns-then-mark_count_differs-clause-cause : goal.returns-then-mark_count_differs-clause-cause
returns-then-mark_count_differs-clause-cause c ts said s is =
    let same = said_count c.args.placed.now said s in
    ap (λ n. Some (Some (mark_count c.args.survey.marks n))) (sym same)
    ∙ later_is_count true _ ts said is
    (ap (mark_count_differs c.args.survey.names c.args.survey.marks) same ∙ (sym c.mark_count_differs.ensures ∙ c.if-mark_count_differs.true))

pub returns-in-Some-clause-cause : goal.returns-in-Some-clause-cause
returns-in-Some-clause-cause c ts said s is =
    later_is_alone true _ ts said is _ _
    (ap (mark_count_differs c.args.survey.names c.args.survey.marks) (said_count c.args.placed.now said s) ∙ (sym c.mark_count_differs.ensures ∙ c.if-mark_count_differs.false)) c.in-Some.is

pub returns-in-Some-first_borrowed_float-clause-cause : goal.returns-in-Some-first_borrowed_float-clause-cause
returns-in-Some-first_borrowed_float-clause-cause c ts said s is =
    later_is_float true _ ts said is _
    (ap (mark_count_differs c.args.survey.names c.args.survey.marks) (said_count c.args.placed.now said s) ∙ (sym c.mark_count_differs.ensures ∙ c.if-mark_count_differs.false)) c.in_default.is
    (c.in-Some-first_borrowed_float.ensures ∙ sym (said_first_float 0 c.args.placed.now said s))

pub returns-in-Some-first_borrowed_fault-clause-cause : goal.returns-in-Some-first_borrowed_fault-clause-cause
returns-in-Some-first_borrowed_fault-clause-cause c ts said s is =
    later_is_fault true _ ts said is _
    (ap (mark_count_differs c.args.survey.names c.args.survey.marks) (said_count c.args.placed.now said s) ∙ (sym c.mark_count_differs.ensures ∙ c.if-mark_count_differs.false)) c.in_default.is
    (c.in_default-first_borrowed_float.ensures ∙ sym (said_first_float 0 c.args.placed.now said s))
    (c.in-Some-first_borrowed_fault.ensures ∙ sym (said_first_fault 0 c.args.placed.now said s))

pub returns-in-None-clause-cause : goal.returns-in-None-clause-cause
returns-in-None-clause-cause c ts said s is =
    later_is_fault true _ ts said is _
    (ap (mark_count_differs c.args.survey.names c.args.survey.marks) (said_count c.args.placed.now said s) ∙ (sym c.mark_count_differs.ensures ∙ c.if-mark_count_differs.false)) c.in_default.is
    (c.in_default-first_borrowed_float.ensures ∙ sym (said_first_float 0 c.args.placed.now said s))
    (c.in-None.ensures ∙ sym (said_first_fault 0 c.args.placed.now said s))
