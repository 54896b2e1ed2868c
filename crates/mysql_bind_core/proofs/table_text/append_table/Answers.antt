use Rattle.std.proofs.Common.{◌∙◌, ap, arith, length, refl, subst, sym}
use Rattle.std.specs.Prelude.{IfSome}
use Rattle.std.proofs.lemmas.List.{length-map}
use Rattle.mysql_records.specs.Records.{BeginsWithRecord}
use Rattle.mysql_records.specs.Seen.{lent_fields_seen, lent_seen}
use Rattle.mysql_binding.proofs.AppendedTextLemmas.{handed_on}
use Rattle.mysql_bind_core.specs.Tables.{IsTableRefused, of_cells}
use Rattle.mysql_bind_core.proofs.TableLemmas.{length_refused, row_refused, so_far_fits, so_far_more, so_far_none, text_refused}
use Rattle.mysql_bind_core.proofs.table_text.append_table.Goals as goal

pub loop-count-init : goal.loop-count-init
loop-count-init c = so_far_none c.args.query.now c.args.form.now c.args.text.now c.args.script.now.items c.in_ok-check_names.ensures.matched

pub read_record-requires : goal.read_record-requires
read_record-requires c = so_far_fits _ _ _ _ _ _ _ c.loop-count.invariant

pub overflow_sub-at : goal.overflow_sub-at
overflow_sub-at c = so_far_fits _ _ _ _ _ _ _ c.loop-count.invariant

pub returns-in_err-check_names-clause-refused : goal.returns-in_err-check_names-clause-refused
returns-in_err-check_names-clause-refused c =
    let before = c.args.script.now.items in
    let refused = c.in_err-check_names.ensures.refused in
    handed_on (IsTableRefused c.args.query.now c.args.form.now c.args.text.now before before c.args.most) c.from_residual.result c.in_err-check_names.field-0.0
    c.from_residual.ensures.1 (of_cells refused.0 refused.1 refused.2 refused.3 refl)

pub returns-in_err-more-clause-refused : goal.returns-in_err-more-clause-refused
returns-in_err-more-clause-refused c =
    let query = c.args.query.now in
    let form = c.args.form.now in
    let text = c.args.text.now in
    let before = c.args.script.now.items in
    let after = c.loop-count.script.items in
    let why = c.in_err-more.field-0.0 in
    handed_on (IsTableRefused query form text before after c.args.most) c.from_residual-in_err-more.result why c.from_residual-in_err-more.ensures.1
    (text_refused query form text c.loop-count.rest.now before after c.loop-count._count c.args.most why c.loop-count.invariant c.loop-count-test.true c.in_err-more.ensures.refused)

pub returns-then-len-form-clause-refused : goal.returns-then-len-form-clause-refused
returns-then-len-form-clause-refused c =
    let first : BeginsWithRecord c.args.form.now.format c.loop-count.rest.now (lent_fields_seen c.read_record.new.fields.items) c.in-Some.more.now =
    subst (λ o. IfSome o (λ more. BeginsWithRecord c.args.form.now.format c.loop-count.rest.now (lent_fields_seen c.read_record.new.fields.items) more.now))
    c.in-Some.is c.in_ok-more.ensures.read in
    length_refused c.args.query.now c.args.form.now c.args.text.now c.loop-count.rest.now c.args.script.now.items c.loop-count.script.items
    c.loop-count._count c.args.most (lent_fields_seen c.read_record.new.fields.items) c.in-Some.more.now _ c.len-fields.result
    c.loop-count.invariant c.loop-count-test.true first refl
    (omega (arith, length-map c.read_record.new.fields.items lent_seen, c.read_record.new.fields.ok.0, c.len-fields.ensures))
    (λ same. c.if-len-form.true (c.len.ensures ∙ sym c.len-fields.ensures ∙ same))

pub returns-in-Err-clause-refused : goal.returns-in-Err-clause-refused
returns-in-Err-clause-refused c =
    let first : BeginsWithRecord c.args.form.now.format c.loop-count.rest.now (lent_fields_seen c.read_record.new.fields.items) c.in-Some.more.now =
    subst (λ o. IfSome o (λ more. BeginsWithRecord c.args.form.now.format c.loop-count.rest.now (lent_fields_seen c.read_record.new.fields.items) more.now))
    c.in-Some.is c.in_ok-more.ensures.read in
    row_refused c.args.query.now c.args.form.now c.args.text.now c.loop-count.rest.now c.args.script.now.items c.loop-count.script.items c.append_fields.new.script.items
    c.loop-count._count c.args.most (lent_fields_seen c.as_slice.result.now) c.in-Some.more.now _ c.in-Err.failure
    c.loop-count.invariant c.loop-count-test.true
    (subst (λ fs. BeginsWithRecord c.args.form.now.format c.loop-count.rest.now (lent_fields_seen fs) c.in-Some.more.now) (sym c.as_slice.ensures.value) first) refl
    (omega (arith, length-map c.as_slice.result.now lent_seen, ap length c.as_slice.ensures.value, c.read_record.new.fields.ok.0, c.len.ensures, c.if-len-form.false))
    c.in-Err.ensures.refused c.in-Err.ensures.kept

pub loop-count-preserved : goal.loop-count-preserved
loop-count-preserved c =
    let first : BeginsWithRecord c.args.form.now.format c.loop-count.rest.now (lent_fields_seen c.read_record.new.fields.items) c.in-Some.more.now =
    subst (λ o. IfSome o (λ more. BeginsWithRecord c.args.form.now.format c.loop-count.rest.now (lent_fields_seen c.read_record.new.fields.items) more.now))
    c.in-Some.is c.in_ok-more.ensures.read in
    so_far_more c.args.query.now c.args.form.now c.args.text.now c.loop-count.rest.now c.args.script.now.items c.loop-count.script.items c.append_fields.new.script.items
    c.loop-count._count (lent_fields_seen c.as_slice.result.now) c.in-Some.more.now
    c.loop-count.invariant
    (subst (λ fs. BeginsWithRecord c.args.form.now.format c.loop-count.rest.now (lent_fields_seen fs) c.in-Some.more.now) (sym c.as_slice.ensures.value) first)
    (omega (arith, length-map c.as_slice.result.now lent_seen, ap length c.as_slice.ensures.value, c.read_record.new.fields.ok.0, c.len.ensures, c.if-len-form.false))
    c.in_default-append_fields.ensures.appended
