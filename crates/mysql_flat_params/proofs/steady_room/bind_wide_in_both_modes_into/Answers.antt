use Rattle.std.proofs.Common.{refl}
use Rattle.mysql_flat_params.proofs.steady_room.bind_wide_in_both_modes_into.Goals as goal

pub returns-clause-backslash : goal.returns-clause-backslash
returns-clause-backslash c mode =
    let o = c.bind_steady_into.ensures.byte mode in
    (o.0, o.1, λ at none first. o.2 none _ (rw first refl))
