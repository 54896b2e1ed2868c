use Rattle.std.proofs.Common.{refl}
use Rattle.std.proofs.lemmas.List.{take_rest}
use Rattle.mysql_flat_params.proofs.NamesRoomLemmas.{gathered_none, gathered_more, gathered_all}
use Rattle.mysql_flat_params.proofs.names_room.gathered_names.Goals as goal

pub loop-found-init : goal.loop-found-init
loop-found-init c = gathered_none _ _ _ _ c.requires c.in_ok-text.ensures.items c.new-row.ensures.items

pub loop-found-preserved : goal.loop-found-preserved
loop-found-preserved c =
    gathered_more _ _ _ _ _ c.loop-found.invariant _ c.in-Some.ensures.place _ _ _ _ c.cut.ensures.before c.cut.ensures.place c.cut.ensures.after (take_rest c.cut.result.1.now 1)
    _ _ (cc (c.in_ok-push.ensures.items, c.in_ok-extend_from_slice.ensures.items)) c.in_ok-put_lenenc_str.ensures.appended

pub returns : goal.returns
returns c =
    let o = c.in_default.ensures.none in
    gathered_all _ _ _ _ _ c.loop-found.invariant (o.0, o.1, o.2 refl) _ c.in_ok-extend_from_slice-2.ensures.items
