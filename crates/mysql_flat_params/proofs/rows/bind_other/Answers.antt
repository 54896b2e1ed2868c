use Rattle.mysql_flat_params.proofs.RowsLemmas.{refused_in_room}
use Rattle.mysql_flat_params.proofs.rows.bind_other.Goals as goal

pub returns-in-Err : goal.returns-in-Err
returns-in-Err c =
    refused_in_room c.args.surveyed.now.reading c.args.surveyed.now.query.now c.args.form.now c.args.room.now c.form_outcome.result c.form_outcome.ensures.no_answer
    (c.form_outcome.ensures.outcome c.args.surveyed.now.reading c.args.surveyed.now.query.now c.args.form.now c.in-Err.ensures.refused)
