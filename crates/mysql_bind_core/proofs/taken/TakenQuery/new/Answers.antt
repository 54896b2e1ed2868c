use Rattle.std.specs.Prelude.{alloc_error}
use Rattle.std.proofs.Common.{◌≡◌, ◌∙◌, Err, ap, inr, subst}
use Rattle.mysql_binding.proofs.AppendedTextLemmas.{handed_on}
use Rattle.mysql_bind_core.specs.Refusals.{IsCopied, IsQueryRefusal}
use Rattle.mysql_bind_core.specs.declared.failure.Failure.TheVariants.{Memory}
use Rattle.mysql_bind_core.proofs.BindingLemmas.{was_error}
use Rattle.mysql_bind_core.proofs.taken.TakenQuery.new.Goals as goal

pub returns-in_err-check_surveyed-clause-memory : goal.returns-in_err-check_surveyed-clause-memory
returns-in_err-check_surveyed-clause-memory c = λ memory.
    let same : c.surveyed.result.query.now ≡ c.args.query.now = c.surveyed.ensures.query ∙ ap (λ p. p.query) c.in-Ok.ensures.parsed in
    inr (subst (IsCopied c.args.request) same
    (c.in_err-check_surveyed.ensures.memory (ap (λ e. Err e) (was_error c.from_residual-in_err-check_surveyed.result c.in_err-check_surveyed.field-0.0 (Memory alloc_error) c.from_residual-in_err-check_surveyed.ensures.1 memory))))

pub returns-in_err-check_surveyed-clause-refused : goal.returns-in_err-check_surveyed-clause-refused
returns-in_err-check_surveyed-clause-refused c =
    let why = c.in_err-check_surveyed.field-0.0 in
    let same : c.surveyed.result.query.now ≡ c.args.query.now = c.surveyed.ensures.query ∙ ap (λ p. p.query) c.in-Ok.ensures.parsed in
    handed_on (IsQueryRefusal c.args.request c.args.query.now) c.from_residual-in_err-check_surveyed.result why
    c.from_residual-in_err-check_surveyed.ensures.1
    (subst (λ query. IsQueryRefusal c.args.request query why) same c.in_err-check_surveyed.ensures.refused)
