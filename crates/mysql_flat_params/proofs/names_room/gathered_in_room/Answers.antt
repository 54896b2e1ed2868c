use Rattle.std.proofs.Common.{◌∙◌}
use Rattle.mysql_flat_params.proofs.NamesRoomLemmas.{both_are_answer}
use Rattle.mysql_flat_params.proofs.names_room.gathered_in_room.Goals as goal

pub returns-in-Ok : goal.returns-in-Ok
returns-in-Ok c =
    let o = c.in-Ok.ensures in
    both_are_answer _ _ _ _ _ _ _ (o.0, o.1, (c.as_slice.ensures.value ∙ o.2.0, c.as_slice-in-Ok.ensures.value ∙ o.2.1)) c.both_in_room.ensures
