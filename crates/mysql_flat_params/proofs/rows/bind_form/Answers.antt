use Rattle.std.proofs.Common.{refl, subst}
use Rattle.mysql_flat_params.specs.RowInRoom.{IsFormInRoom}
use Rattle.mysql_flat_params.proofs.rows.bind_form.Goals as goal

pub returns-clause-form : goal.returns-clause-form
returns-clause-form c =
    subst (λ room. IsFormInRoom c.args.surveyed.now.reading c.args.surveyed.now.query.now c.args.form.now room c.bind_found.new.room c.bind_found.result)
    (c.in_default.ensures.unchanged refl) (c.bind_found.ensures.form c.args.form.now c.in-Some-names_of.ensures.names.1)
