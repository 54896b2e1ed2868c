use Rattle.std.proofs.Common.{ℕ, List, sym, subst, ap, ◌∙◌}
use Rattle.mysql_binding.proofs.AppendedTextLemmas.{handed_on}
use Rattle.mysql_named_params.specs.Reading.{wide_reading}
use Rattle.mysql_bind_core.specs.Bound.{IsAssignedText, IsTaken}
use Rattle.mysql_bind_core.specs.Refusals.{IsRefusal}
use Rattle.mysql_bind_core.specs.TakenQuery.{RequestedQuery}
use Rattle.mysql_bind_core.proofs.taken.TakenQuery.text.Goals as goal

pub fragments_text-requires-clause-reading : goal.fragments_text-requires-clause-reading
fragments_text-requires-clause-reading c = c.surveyed.ensures.reading ∙ ap wide_reading c.self.invariant.mode

pub fragments_text-requires-clause-taken : goal.fragments_text-requires-clause-taken
fragments_text-requires-clause-taken c = subst (IsTaken c.self.inside.request) (sym c.surveyed.ensures.query) c.self.invariant.taken

pub returns-in_err-text-clause-refused : goal.returns-in_err-text-clause-refused
returns-in_err-text-clause-refused c =
    let q = c.args.self.now in
    handed_on (IsRefusal q.request q.query c.args.assignments.now) c.from_residual.result c.in_err-text.field-0.0 c.from_residual.ensures.1
    c.in_err-text.ensures.refused

pub returns-in_err-text-2-clause-refused : goal.returns-in_err-text-2-clause-refused
returns-in_err-text-2-clause-refused c =
    let q = c.args.self.now in
    let assignments = c.args.assignments.now in
    let why = c.in_err-text-2.field-0.0 in
    handed_on (IsRefusal q.request q.query assignments) c.from_residual-in_err-text-2.result why c.from_residual-in_err-text-2.ensures.1
    (subst (λ (w : RequestedQuery). IsRefusal w.request w.query assignments why) c.self.view_is
    (subst (λ (query : List ℕ). IsRefusal c.self.inside.request query assignments why) c.surveyed.ensures.query c.in_err-text-2.ensures.refused))

pub asked_text-requires : goal.asked_text-requires
asked_text-requires c =
    let assignments = c.args.assignments.now in
    let text = c.in_ok-text-2.text.items in
    subst (λ (w : RequestedQuery). IsAssignedText w.request w.query assignments text) c.self.view_is
    (subst (λ (query : List ℕ). IsAssignedText c.self.inside.request query assignments text) c.surveyed.ensures.query c.in_ok-text-2.ensures.bound)
