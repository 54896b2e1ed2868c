use Rattle.std.proofs.Common.{ap, of_z, pos, subst, sym, take, to_z, w32, ◌∙◌}
use Rattle.mysql_flat_params.specs.WideSteadyIntoRoom.{IsWideAnywhereForm}
use Rattle.mysql_flat_params.specs.Outcomes.{number_of}
use Rattle.mysql_params_c.proofs.ToldLemmas.{number_kept, written_told}
use Rattle.mysql_params_c.proofs.wide.mysql_params_bind_anywhere_wide.Goals as goal

pub returns-clause-written : goal.returns-clause-written
returns-clause-written c = λ zero.
    subst (λ r. IsWideAnywhereForm c.args.query.now c.args.form.now (take r.len c.bind_wide_anywhere_into-outcome.new.room)) (sym c.report.ensures.fields)
    (written_told c.bind_wide_anywhere_into-outcome.result (λ len. IsWideAnywhereForm c.args.query.now c.args.form.now (take len c.bind_wide_anywhere_into-outcome.new.room))
    (sym (ap (λ z. to_z w32 (of_z w32 z)) c.number.ensures.number) ∙ zero) c.bind_wide_anywhere_into-outcome.ensures.written)

pub returns-clause-refused : goal.returns-clause-refused
returns-clause-refused c mode =
    let o = c.bind_wide_anywhere_into-outcome.ensures.refused mode in (
      o.0,
      o.1,
      λ none told is.
          ap (λ z. to_z w32 (of_z w32 z)) (c.number.ensures.number ∙ ap (λ x. pos (number_of x)) (o.2 none told is)) ∙ number_kept told,
    )

pub returns-clause-mixed : goal.returns-clause-mixed
returns-clause-mixed c mode =
    let o = c.bind_wide_anywhere_into-outcome.ensures.mixed mode in
    (o.0, o.1, λ none steady both. ap (λ z. to_z w32 (of_z w32 z)) (c.number.ensures.number ∙ ap (λ x. pos (number_of x)) (o.2 none steady both)))

pub returns-clause-unsteady : goal.returns-clause-unsteady
returns-clause-unsteady c at none first =
    ap (λ z. to_z w32 (of_z w32 z)) (c.number.ensures.number ∙ ap (λ x. pos (number_of x)) (c.bind_wide_anywhere_into-outcome.ensures.unsteady at none first))
