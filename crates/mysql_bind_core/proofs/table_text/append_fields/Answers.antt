use Rattle.std.proofs.Common.{subst, sym}
use Rattle.mysql_records.specs.Seen.{lent_fields_seen}
use Rattle.mysql_bind_core.specs.Tables.{AreCellsOf}
use Rattle.mysql_bind_core.proofs.TableLemmas.{refusal_of_record, text_of_record}
use Rattle.mysql_bind_core.proofs.CellRowLemmas.{on_ok}
use Rattle.mysql_bind_core.proofs.BindingLemmas.{if_err}
use Rattle.mysql_bind_core.proofs.table_text.append_fields.Goals as goal

pub returns-clause-appended : goal.returns-clause-appended
returns-clause-appended c =
    let are : AreCellsOf c.args.form.now (lent_fields_seen c.args.fields.now) c.as_slice.result.now =
    subst (AreCellsOf c.args.form.now (lent_fields_seen c.args.fields.now)) (sym c.as_slice.ensures.value) c.in_ok-cells.ensures in
    on_ok c.append_record.result _ _
    (λ bound. (bound.0, text_of_record c.args.query.now c.args.form.now (lent_fields_seen c.args.fields.now) c.as_slice.result.now bound.0 are bound.1, bound.2))
    c.append_record.ensures.appended

pub returns-clause-refused : goal.returns-clause-refused
returns-clause-refused c =
    let are : AreCellsOf c.args.form.now (lent_fields_seen c.args.fields.now) c.as_slice.result.now =
    subst (AreCellsOf c.args.form.now (lent_fields_seen c.args.fields.now)) (sym c.as_slice.ensures.value) c.in_ok-cells.ensures in
    if_err c.append_record.result _ _
    (λ why refused. refusal_of_record c.args.query.now c.args.form.now (lent_fields_seen c.args.fields.now) c.as_slice.result.now why are refused)
    c.append_record.ensures.refused
