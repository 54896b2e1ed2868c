use Rattle.std.proofs.Common.{◌≤◌, ◌+◌, length}
use Rattle.std.specs.FinMap as finite
use Rattle.mysql_values.specs.BorrowedValue.{owned}
use Rattle.mysql_params_core.specs.Given.{named}
use Rattle.mysql_flat_params.proofs.FormLemmas.{LeadsTo}
use Rattle.mysql_flat_params.proofs.form.named_params.Given as goal

abbrev pub invariant-loop-rest : goal.invariant-loop-rest
invariant-loop-rest g l =
    LeadsTo l.total 1 (named (finite.insert finite.empty l.fn.name (owned l.fn.first))) l.fn.rest.0.now l.place (named (g.M.FormNames.values l.names)) l.rest.0.now
    × (l.place + length l.rest.0.now ≤ l.total)

abbrev pub decreases-loop-rest : goal.decreases-loop-rest
decreases-loop-rest g l = length l.rest.0.now
