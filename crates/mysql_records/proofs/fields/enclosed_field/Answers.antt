use Rattle.std.proofs.Common.{sym, subst}
use Rattle.std.specs.Prelude.{alloc_error}
use Rattle.mysql_records.specs.Fields.{IsFieldRefusal}
use Rattle.mysql_records.specs.declared.fields.FieldError.TheVariants.{Memory}
use Rattle.mysql_records.specs.Records.{BeginsWithField}
use Rattle.mysql_records.proofs.LentFieldLemmas.{enclosed_held, enclosed_copied, field_error_on}
use Rattle.mysql_records.proofs.ReadFieldLemmas.{ends_if_some, none_of, empty_from, some_from, enclosed_read, enclosed_open, enclosed_escape, enclosed_behind}
use Rattle.mysql_records.proofs.fields.enclosed_field.Goals as goal

pub returns-then-is_empty-clause-refused : goal.returns-then-is_empty-clause-refused
returns-then-is_empty-clause-refused c =
    enclosed_open c.args.format c.args.text.now c.args.tail.now c.in_ok-field.ensures.read.0 c.in_ok-field.back.now c.requires.quotes c.requires.whole
    c.in_ok-field.ensures.read.2 (empty_from c.in_ok-field.back.now c.if-is_empty.ensures)

pub returns-in_default-clause-refused : goal.returns-in_default-clause-refused
returns-in_default-clause-refused c =
    enclosed_escape c.args.format c.args.text.now c.args.tail.now c.in_ok-field.ensures.read.0 c.in_ok-field.back.now c.requires.quotes c.requires.whole
    c.in_ok-field.ensures.read.2 (some_from c.in_ok-field.back.now c.if-is_empty.ensures) c.in_default.ensures.none

pub returns-then-is_some-clause-read : goal.returns-then-is_some-clause-read
returns-then-is_some-clause-read c =
    subst (λ x. BeginsWithField c.args.format c.args.text.now x c.in-Some.rest.now) (sym c.in_ok-field.ensures.read.1) (enclosed_read c.args.format c.args.text.now c.args.tail.now c.in_ok-field.ensures.read.0 c.in_ok-field.back.now c.in-Some.rest.now c.requires.quotes c.requires.whole
    c.in_ok-field.ensures.read.2 c.in-Some.ensures.some (ends_if_some c.args.format c.in-Some.rest.now c.field_end.result c.if-is_some.ensures c.field_end.ensures.some))

pub returns-clause-refused : goal.returns-clause-refused
returns-clause-refused c =
    enclosed_behind c.args.format c.args.text.now c.args.tail.now c.in_ok-field.ensures.read.0 c.in_ok-field.back.now c.in-Some.rest.now c.fault_behind_quote.result
    c.requires.quotes c.requires.whole c.in_ok-field.ensures.read.2 c.in-Some.ensures.some
    (none_of c.field_end.result _ c.if-is_some.ensures c.field_end.ensures.none)
    c.fault_behind_quote.ensures.before c.fault_behind_quote.ensures.stands

pub returns-then-is_some-clause-held : goal.returns-then-is_some-clause-held
returns-then-is_some-clause-held c =
    enclosed_held c.args.format c.args.text.now c.args.tail.now c.in_ok-field.field c.requires.quotes c.requires.whole c.in_ok-field.ensures.held

pub returns-in_err-field-clause-refused : goal.returns-in_err-field-clause-refused
returns-in_err-field-clause-refused c =
    field_error_on (IsFieldRefusal c.args.format c.args.text.now) c.from_residual.result (Memory alloc_error) c.from_residual.ensures.1
    (enclosed_copied c.args.format c.args.text.now c.args.tail.now c.requires.quotes c.requires.whole c.in_err-field.ensures.memory)
