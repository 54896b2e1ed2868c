use Rattle.std.proofs.lemmas.List.{take_rest}
use Rattle.mysql_flat_params.proofs.NamesRoomLemmas.{names_alone_told}
use Rattle.mysql_flat_params.proofs.names_room.has_names_alone.Goals as goal

pub returns-in_default-memchr : goal.returns-in_default-memchr
returns-in_default-memchr c =
    names_alone_told _ _ _ _ c.in-Some.ensures.place (take_rest c.args.query.now c.in-Some.first.before) c.in_default-memchr.ensures
