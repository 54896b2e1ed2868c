use Rattle.std.proofs.Common.{ap, of_z, sym, subst, take, to_z, w32, ◌∙◌}
use Rattle.mysql_flat_params.specs.FragmentsIntoRoom.{IsBoundFormIn}
use Rattle.mysql_named_params.specs.Reading.{wide_reading}
use Rattle.mysql_params_c.proofs.ToldLemmas.{fragments_written_told}
use Rattle.mysql_params_c.proofs.wide.mysql_params_bind_fragments_wide.Goals as goal

pub returns-clause-written : goal.returns-clause-written
returns-clause-written c = λ zero.
    subst (λ r. IsBoundFormIn (wide_reading c.args.no_backslash_escape) c.args.query.now c.args.form.now (take r.len c.bind_fragments_into_read-outcome.new.room)) (sym c.report.ensures.fields)
    (fragments_written_told c.bind_fragments_into_read-outcome.result
    (λ len. IsBoundFormIn (wide_reading c.args.no_backslash_escape) c.args.query.now c.args.form.now (take len c.bind_fragments_into_read-outcome.new.room))
    (sym (ap (λ z. to_z w32 (of_z w32 z)) c.number.ensures.number) ∙ zero) c.bind_fragments_into_read-outcome.ensures.written)
