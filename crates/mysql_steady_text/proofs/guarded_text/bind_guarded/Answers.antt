use Rattle.mysql_portable.proofs.SteadyLemmas.{steady_other}
use Rattle.mysql_params_core.specs.GivenBorrowed.{given_by_borrowed}
use Rattle.mysql_binding.specs.BindErrors.{IsCauseOrMemory}
use Rattle.mysql_binding.specs.FirstCause.{first_cause}
use Rattle.mysql_steady_text.proofs.BothModesTextLemmas.{nothing_said, is_handed_on}
use Rattle.mysql_steady_text.proofs.SteadyTextLemmas.{in_either}
use Rattle.mysql_steady_text.proofs.GuardedTextLemmas.{guarded_given}
use Rattle.mysql_steady_text.proofs.guarded_text.bind_guarded.Goals as goal

pub returns-clause-bound : goal.returns-clause-bound
returns-clause-bound c =
    guarded_given c.args.no_backslash_escape c.args.query.now (given_by_borrowed c.args.params) c.in_ok-bind_borrowed_as.field-0.items c.requires c.in_ok-bind_borrowed_as.ensures.text

pub returns-clause-refused : goal.returns-clause-refused
returns-clause-refused c mode = nothing_said mode c.args.query.now

pub returns-clause-mixed : goal.returns-clause-mixed
returns-clause-mixed c mode =
    let o = c.in_ok-bind_borrowed_as.ensures.mixed in
    (o.0, steady_other _ mode c.args.query.now o.0 c.requires o.1, λ both. let e = o.2 both in cc)

pub returns-in_err-bind_borrowed_as-clause-bound : goal.returns-in_err-bind_borrowed_as-clause-bound
returns-in_err-bind_borrowed_as-clause-bound c mode =
    rw (is_handed_on c.from_residual.result _ c.from_residual.ensures.1) (
    nothing_said mode c.args.query.now)

pub returns-in_err-bind_borrowed_as-clause-refused : goal.returns-in_err-bind_borrowed_as-clause-refused
returns-in_err-bind_borrowed_as-clause-refused c mode =
    rw (is_handed_on c.from_residual.result _ c.from_residual.ensures.1) (
    in_either c.args.query.now (λ ts. IsCauseOrMemory (first_cause ts (given_by_borrowed c.args.params)) c.in_err-bind_borrowed_as.field-0.0) _ mode c.requires c.in_err-bind_borrowed_as.ensures.refused)

pub returns-in_err-bind_borrowed_as-clause-mixed : goal.returns-in_err-bind_borrowed_as-clause-mixed
returns-in_err-bind_borrowed_as-clause-mixed c mode =
    rw (is_handed_on c.from_residual.result _ c.from_residual.ensures.1) (
    let o = c.in_err-bind_borrowed_as.ensures.mixed in
    (o.0, steady_other _ mode c.args.query.now o.0 c.requires o.1, λ both. let e = o.2 both in cc))
