use Rattle.std.specs.Prelude.{false}
use Rattle.std.proofs.Common.{refl}
use Rattle.mysql_flat_params.proofs.steady_room.bind_wide_anywhere_into.Goals as goal

pub returns-clause-unsteady : goal.returns-clause-unsteady
returns-clause-unsteady c at none first = let o = c.bind_steady_into.ensures.byte false in o.2 none _ (rw first refl)
