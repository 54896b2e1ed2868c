use Rattle.mysql_flat_params.proofs.FragmentsRoomLemmas.{bound_told, bound_written}
use Rattle.mysql_flat_params.proofs.fragments_room.bind_fragments_into_read.Goals as goal

pub returns-in-Err-clause-outcome : goal.returns-in-Err-clause-outcome
returns-in-Err-clause-outcome c =
    c.form_outcome.ensures.fragments c.args.reading c.args.query.now c.args.form.now c.in-Err.ensures.refused

pub returns-in-Ok-bind_read-clause-outcome : goal.returns-in-Ok-bind_read-clause-outcome
returns-in-Ok-bind_read-clause-outcome c =
    let (given, kinds, read, reads) = c.in-Ok.ensures.read in
    bound_told c.args.reading c.args.query.now c.args.form.now given kinds reads c.args.room.now c.bind_read.new.room c.in-Ok-bind_read.text
    (c.in-Ok-bind_read.ensures.bound given kinds read) c.bind_read.auto.room c.text_outcome.result c.text_outcome.ensures

pub returns-in-Ok-bind_read-clause-written : goal.returns-in-Ok-bind_read-clause-written
returns-in-Ok-bind_read-clause-written c =
    let (given, kinds, read, reads) = c.in-Ok.ensures.read in
    bound_written c.args.reading c.args.query.now c.args.form.now given kinds reads c.args.room.now c.bind_read.new.room c.in-Ok-bind_read.text
    (c.in-Ok-bind_read.ensures.bound given kinds read) c.text_outcome.result c.text_outcome.ensures
