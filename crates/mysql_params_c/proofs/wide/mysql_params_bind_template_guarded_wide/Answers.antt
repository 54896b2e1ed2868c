use Rattle.std.proofs.Common.{ap, of_z, sym, subst, take, to_z, w32, ◌∙◌}
use Rattle.mysql_flat_params.specs.GuardedIntoRoom.{IsWideGuardedForm}
use Rattle.mysql_params_c.proofs.ToldLemmas.{table_written_told}
use Rattle.mysql_params_c.proofs.wide.mysql_params_bind_template_guarded_wide.Goals as goal

pub returns-clause-written : goal.returns-clause-written
returns-clause-written c = λ own zero.
    subst (λ r. IsWideGuardedForm c.args.no_backslash_escape c.args.query.now c.args.form.now (take r.len c.bind_wide_guarded_by_table_into-outcome.new.room)) (sym c.report.ensures.fields)
    (table_written_told c.bind_wide_guarded_by_table_into-outcome.result
    (λ len. IsWideGuardedForm c.args.no_backslash_escape c.args.query.now c.args.form.now (take len c.bind_wide_guarded_by_table_into-outcome.new.room))
    (sym (ap (λ z. to_z w32 (of_z w32 z)) c.number.ensures.number) ∙ zero) (c.bind_wide_guarded_by_table_into-outcome.ensures.written own))
