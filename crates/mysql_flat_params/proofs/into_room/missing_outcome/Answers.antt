use Rattle.std.proofs.Common.{refl}
use Rattle.mysql_flat_params.proofs.IntoRoomLemmas.{name_is_not_there}
use Rattle.mysql_flat_params.proofs.into_room.missing_outcome.Goals as goal

pub returns-in-None-clause-none : goal.returns-in-None-clause-none
returns-in-None-clause-none c = λ e there.
    let o = c.in-None.ensures.none in
    name_is_not_there _ _ _ there (o.0, o.1, o.2 refl)

pub returns-in-None-clause-absent : goal.returns-in-None-clause-absent
returns-in-None-clause-absent c = λ e.
    let o = c.in-None.ensures.none in
    (o.0, o.1, o.2 refl)
