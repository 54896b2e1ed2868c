use Rattle.mysql_records.proofs.ReadFieldLemmas.{null_read}
use Rattle.mysql_records.proofs.fields.first_field.Goals as goal

pub returns-in-Some-clause-read : goal.returns-in-Some-clause-read
returns-in-Some-clause-read c =
    null_read c.args.format c.args.text.now c.in-Some.rest.now c.in-Some.ensures.some.0 c.in-Some.ensures.some.1 c.in-Some.ensures.some.2
