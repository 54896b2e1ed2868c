use Rattle.std.proofs.Common.{refl}
use Rattle.mysql_flat_params.proofs.IntoRoomLemmas.{name_is_not_there}
use Rattle.mysql_flat_params.proofs.fragments_room.missing_outcome.Goals as goal

pub unreachable-requires : goal.unreachable-requires
unreachable-requires c =
    let o = c.in-None.ensures.none in
    name_is_not_there _ _ _ c.requires (o.0, o.1, o.2 refl)
