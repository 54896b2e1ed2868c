use Rattle.std.proofs.Common.{sym, subst}
use Rattle.std.specs.Prelude.{alloc_error}
use Rattle.mysql_records.specs.Fields.{IsFieldRefusal}
use Rattle.mysql_records.specs.declared.fields.FieldError.TheVariants.{Memory}
use Rattle.mysql_records.specs.Records.{BeginsWithField}
use Rattle.mysql_records.proofs.LentFieldLemmas.{bare_held, bare_copied, field_error_on}
use Rattle.mysql_records.proofs.ReadFieldLemmas.{ends_if_some, none_of, bare_read, bare_fault}
use Rattle.mysql_records.proofs.fields.bare_field.Goals as goal

pub returns-then-is_some-clause-read : goal.returns-then-is_some-clause-read
returns-then-is_some-clause-read c =
    subst (λ x. BeginsWithField c.args.format c.args.text.now x c.in_ok-field.back.now) (sym c.in_ok-field.ensures.read.1) (bare_read c.args.format c.args.text.now c.in_ok-field.ensures.read.0 c.in_ok-field.back.now c.in_ok-field.ensures.read.2
    (ends_if_some c.args.format c.in_ok-field.back.now c.field_end.result c.if-is_some.ensures c.field_end.ensures.some))

pub returns-clause-refused : goal.returns-clause-refused
returns-clause-refused c =
    bare_fault c.args.format c.args.text.now c.in_ok-field.ensures.read.0 c.in_ok-field.back.now c.fault_without_quotes.result
    c.requires.no_quote c.requires.no_null c.in_ok-field.ensures.read.2
    (none_of c.field_end.result _ c.if-is_some.ensures c.field_end.ensures.none)
    c.fault_without_quotes.ensures.before c.fault_without_quotes.ensures.stands

pub returns-in_err-field-clause-refused : goal.returns-in_err-field-clause-refused
returns-in_err-field-clause-refused c =
    field_error_on (IsFieldRefusal c.args.format c.args.text.now) c.from_residual.result (Memory alloc_error) c.from_residual.ensures.1
    (bare_copied c.args.format c.args.text.now c.in_err-field.ensures.memory)

pub returns-then-is_some-clause-held : goal.returns-then-is_some-clause-held
returns-then-is_some-clause-held c = bare_held c.args.format c.args.text.now c.in_ok-field.field c.requires.no_quote c.in_ok-field.ensures.held
