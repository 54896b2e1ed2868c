use Rattle.std.proofs.Common.{ap, sym, ◌∙◌, Some}
use Rattle.std.proofs.lemmas.List.{length-map}
use Rattle.mysql_params_core.specs.Referents.{referents}
use Rattle.mysql_binding.specs.FirstCause.{mark_count_differs}
use Rattle.mysql_fragments.specs.FragmentErrors.{mark_count}
use Rattle.mysql_fragments.proofs.CauseLemmas.{later_is_count, later_is_alone, later_is_float, later_is_fault}
use Rattle.mysql_fragments.proofs.expanded.later_error.Goals as goal

pub returns-then-mark_count_differs : goal.returns-then-mark_count_differs
returns-then-mark_count_differs c ts is =
    let same = length-map c.args.fragments.now (λ r. r.now) in
    ap (λ n. Some (Some (mark_count c.args.survey.marks n))) (sym same)
    ∙ later_is_count c.args.as_literals _ ts (referents c.args.fragments.now) is
    (ap (mark_count_differs c.args.survey.names c.args.survey.marks) same ∙ (sym c.mark_count_differs.ensures ∙ c.if-mark_count_differs.true))

pub returns-in-Some : goal.returns-in-Some
returns-in-Some c ts is =
    later_is_alone c.args.as_literals _ ts (referents c.args.fragments.now) is _ _
    (ap (mark_count_differs c.args.survey.names c.args.survey.marks) (length-map c.args.fragments.now (λ r. r.now)) ∙ (sym c.mark_count_differs.ensures ∙ c.if-mark_count_differs.false)) c.in-Some.is

pub returns-in-Some-literal_float : goal.returns-in-Some-literal_float
returns-in-Some-literal_float c ts is =
    later_is_float c.args.as_literals _ ts (referents c.args.fragments.now) is _
    (ap (mark_count_differs c.args.survey.names c.args.survey.marks) (length-map c.args.fragments.now (λ r. r.now)) ∙ (sym c.mark_count_differs.ensures ∙ c.if-mark_count_differs.false)) c.in_default.is c.in-Some-literal_float.ensures

pub returns-in-Some-first_fault : goal.returns-in-Some-first_fault
returns-in-Some-first_fault c ts is =
    later_is_fault c.args.as_literals _ ts (referents c.args.fragments.now) is _
    (ap (mark_count_differs c.args.survey.names c.args.survey.marks) (length-map c.args.fragments.now (λ r. r.now)) ∙ (sym c.mark_count_differs.ensures ∙ c.if-mark_count_differs.false)) c.in_default.is c.in_default-literal_float.ensures c.in-Some-first_fault.ensures

pub returns-in-None : goal.returns-in-None
returns-in-None c ts is =
    later_is_fault c.args.as_literals _ ts (referents c.args.fragments.now) is _
    (ap (mark_count_differs c.args.survey.names c.args.survey.marks) (length-map c.args.fragments.now (λ r. r.now)) ∙ (sym c.mark_count_differs.ensures ∙ c.if-mark_count_differs.false)) c.in_default.is c.in_default-literal_float.ensures c.in-None.ensures
