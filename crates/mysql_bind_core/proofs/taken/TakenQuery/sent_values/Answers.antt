use Rattle.std.specs.Prelude.{alloc_error}
use Rattle.std.proofs.Common.{ap, sym, ◌∙◌}
use Rattle.mysql_binding.proofs.AppendedTextLemmas.{handed_on}
use Rattle.mysql_bind_core.specs.Refusals.{IsRefusal, of_query}
use Rattle.mysql_bind_core.specs.Requests.{mode_of}
use Rattle.mysql_bind_core.specs.TakenQuery.{RequestedQuery}
use Rattle.mysql_bind_core.specs.declared.failure.Failure.TheVariants.{Memory}
use Rattle.mysql_bind_core.proofs.TakenQueryLemmas.{taken_seen}
use Rattle.mysql_bind_core.proofs.taken.TakenQuery.sent_values.Goals as goal

pub returns-in_err-text-clause-refused : goal.returns-in_err-text-clause-refused
returns-in_err-text-clause-refused c =
    let q = c.args.self.now in
    handed_on (IsRefusal q.request q.query c.args.assignments.now) c.from_residual.result (Memory alloc_error) c.from_residual.ensures.1 (of_query tt)

pub returns-clause-bound : goal.returns-clause-bound
returns-clause-bound c =
    let q = c.args.self.now in
    let text = c.in-Some.text.items in
    let taken = taken_seen c.self.inside.request c.self.inside.parsed q c.self.invariant c.self.view_is in
    let mode = sym (c.if-no_backslash_escape.ensures ∙ ap (λ (v : RequestedQuery). mode_of v.request.literals) c.self.view_is) in
    record {
      taken = taken;
      assigned = rw c.in-Some.is at c.in_ok-text.ensures.assigned;
      portable_text = c.values_are_sent.ensures q.request q.query text mode taken (rw c.in-Some.is at c.in_ok-text.ensures.values);
    }
