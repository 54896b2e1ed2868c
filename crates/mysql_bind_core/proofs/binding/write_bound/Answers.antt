use Rattle.std.specs.Prelude.{IfErr}
use Rattle.std.proofs.Common.{◌≢◌, subst}
use Rattle.mysql_bind_core.specs.Refusals.{IsRefusal}
use Rattle.mysql_bind_core.specs.TakenQuery.{RequestedQuery}
use Rattle.mysql_bind_core.specs.declared.failure.Failure.TheVariants as failure
use Rattle.mysql_bind_core.proofs.binding.write_bound.Goals as goal

pub returns-clause-refused : goal.returns-clause-refused
returns-clause-refused g c =
    subst (λ (w : RequestedQuery). IfErr c.write.result (λ e. e ≢ failure.Write → IsRefusal w.request w.query c.args.assignments.now e))
    c.in_ok-taken.ensures.query c.write.ensures.refused
