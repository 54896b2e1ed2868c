use Rattle.std.proofs.Common.{◌<◌, length}
use Rattle.std.specs.Prelude.{[], ◌∷◌}
use Rattle.mysql_values.specs.BorrowedValue.{owned, owned_values}
use Rattle.mysql_params_core.specs.Given.{positional}
use Rattle.mysql_flat_params.proofs.FormLemmas.{LeadsTo}
use Rattle.mysql_flat_params.proofs.form.positional_params.Given as goal

abbrev pub invariant-loop-rest : goal.invariant-loop-rest
invariant-loop-rest g l =
    LeadsTo l.total 1 (positional (owned l.fn.first ∷ [])) l.fn.rest.0.now (length l.values.items) (positional (owned_values l.values.items)) l.rest.0.now
    × (length l.rest.0.now < l.total)

abbrev pub decreases-loop-rest : goal.decreases-loop-rest
decreases-loop-rest g l = length l.rest.0.now
