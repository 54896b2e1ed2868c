use Rattle.std.proofs.Common.{refl, subst}
use Rattle.mysql_records.specs.Faults.{IsFaulty, IsRefusal}
use Rattle.mysql_bind_core.proofs.RowItemLemmas.{no_row_if_fault, rest_of_fits}
use Rattle.mysql_bind_core.proofs.TableLemmas.{fault_behind}
use Rattle.mysql_bind_core.proofs.record_rows.next_row.Goals as goal

pub overflow_sub-at : goal.overflow_sub-at
overflow_sub-at c = rest_of_fits c.args.form.now c.args.unread.text.now c.args.unread.rest.now c.requires

pub returns-in-Fault : goal.returns-in-Fault
returns-in-Fault c =
    let faulty : IsFaulty c.args.form.now.format c.args.unread.rest.now c.in-Fault.fault =
    subst (λ e. IsRefusal c.args.form.now.format c.args.unread.rest.now e) c.in-Fault.is c.in-Err.ensures.refused in (
      no_row_if_fault c.args.form.now c.args.unread.rest.now faulty.none,
      fault_behind c.args.form.now c.args.unread.text.now c.requires.0 c.args.unread.rest.now c.in-Fault.fault _ c.requires.1 faulty refl refl,
    )
