use Rattle.std.proofs.Common.{refl, subst}
use Rattle.mysql_records.specs.Faults.{IsFaulty, IsRefusal}
use Rattle.mysql_bind_core.proofs.TableLemmas.{fault_behind}
use Rattle.mysql_bind_core.proofs.table_text.read_record.Goals as goal

pub returns-in-Fault-clause-refused : goal.returns-in-Fault-clause-refused
returns-in-Fault-clause-refused c = λ query records read.
    let faulty : IsFaulty c.args.form.now.format c.args.rest.now c.in-Fault.fault =
    subst (λ e. IsRefusal c.args.form.now.format c.args.rest.now e) c.in-Fault.is c.in-Err.ensures.refused in
    fault_behind c.args.form.now c.args.text.now records c.args.rest.now c.in-Fault.fault _ read faulty refl refl
