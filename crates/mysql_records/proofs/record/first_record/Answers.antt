use Rattle.std.proofs.Common.{subst}
use Rattle.std.specs.Prelude.{IfSome, alloc_error}
use Rattle.mysql_records.specs.LentFields.{HasMemoryCause}
use Rattle.mysql_records.specs.Records.{BeginsWithRecord}
use Rattle.mysql_records.specs.Seen.{lent_fields_seen}
use Rattle.mysql_records.specs.declared.fault.RecordError.TheVariants.{Memory}
use Rattle.mysql_records.proofs.LentFieldLemmas.{cause_of, cause_of_record, record_error_on}
use Rattle.mysql_records.proofs.record.first_record.Goals as goal

pub returns-in_err-rest-clause-memory : goal.returns-in_err-rest-clause-memory
returns-in_err-rest-clause-memory c =
    record_error_on (HasMemoryCause c.args.format c.args.text.now) c.from_residual.result c.in_err-rest.field-0.0 c.from_residual.ensures.1
    (cause_of c.args.format c.args.text.now _ _ c.in_err-rest.field-0.0 c.in_err-rest.ensures.before)

pub returns-in_err-fields-clause-memory : goal.returns-in_err-fields-clause-memory
returns-in_err-fields-clause-memory c =
    let read : BeginsWithRecord c.args.format c.args.text.now (lent_fields_seen c.first_record_into.new.fields.items) c.in-Some.rest.now =
    subst (λ o. IfSome o (λ rest. BeginsWithRecord c.args.format c.args.text.now (lent_fields_seen c.first_record_into.new.fields.items) rest.now))
    c.in-Some.is c.in_ok-rest.ensures.read in
    record_error_on (HasMemoryCause c.args.format c.args.text.now) c.from_residual-in_err-fields.result (Memory alloc_error) c.from_residual-in_err-fields.ensures.1
    (cause_of_record c.args.format c.args.text.now _ _ read)
