use Rattle.std.proofs.Common.{refl, rules, arith}
use Rattle.std.proofs.lemmas.List.{take_rest}
use Rattle.mysql_flat_params.proofs.NamesRoomLemmas.{named_none, run_fits, mark_fits, name_fits, named_more, rest_fits, text_named, row_named}
use Rattle.mysql_flat_params.proofs.names_room.fill_names.Goals as goal

pub loop-found-init : goal.loop-found-init
loop-found-init c = named_none _ _ _ _ c.requires.no_marks c.requires.text c.requires.row

pub append_bytes-text_at-requires : goal.append_bytes-text_at-requires
append_bytes-text_at-requires c =
    run_fits _ _ _ _ _ _ _ c.loop-found.invariant _ c.in-Some.ensures.place _ _ _ _ c.cut.ensures.before c.cut.ensures.place c.cut.ensures.after (take_rest c.cut.result.1.now 1)

pub append_mark-text_at-requires : goal.append_mark-text_at-requires
append_mark-text_at-requires c =
    mark_fits _ _ _ _ _ _ _ c.loop-found.invariant _ c.in-Some.ensures.place _ _ _ _ c.cut.ensures.before c.cut.ensures.place c.cut.ensures.after (take_rest c.cut.result.1.now 1)
    _ _ c.append_bytes-text_at.ensures.next (search rules) c.append_bytes-text_at.ensures.front

pub append_lenenc_str-row_at-requires : goal.append_lenenc_str-row_at-requires
append_lenenc_str-row_at-requires c =
    name_fits _ _ _ _ _ _ _ c.loop-found.invariant _ c.in-Some.ensures.place _ _ _ _ c.cut.ensures.before c.cut.ensures.place c.cut.ensures.after (take_rest c.cut.result.1.now 1)

pub loop-found-preserved : goal.loop-found-preserved
loop-found-preserved c =
    named_more _ _ _ _ _ _ _ c.loop-found.invariant _ c.in-Some.ensures.place _ _ _ _ c.cut.ensures.before c.cut.ensures.place c.cut.ensures.after (take_rest c.cut.result.1.now 1)
    _ _ c.append_bytes-text_at.ensures.next (search rules) c.append_bytes-text_at.ensures.front
    _ _ _ _ c.append_mark-text_at.ensures.next (search rules) c.append_mark-text_at.ensures.front
    c.append_lenenc_str-row_at.ensures.next (search rules) c.append_lenenc_str-row_at.ensures.front

pub append_bytes-requires : goal.append_bytes-requires
append_bytes-requires c =
    let o = c.in_default.ensures.none in
    omega (arith, rest_fits _ _ _ _ _ _ _ c.loop-found.invariant (o.0, o.1, o.2 refl))

pub returns-clause-text : goal.returns-clause-text
returns-clause-text c =
    let o = c.in_default.ensures.none in
    text_named _ _ _ _ _ _ _ c.loop-found.invariant (o.0, o.1, o.2 refl) _ _ c.append_bytes.ensures.next (search rules) c.append_bytes.ensures.front

pub returns-clause-row : goal.returns-clause-row
returns-clause-row c =
    let o = c.in_default.ensures.none in
    row_named _ _ _ _ _ _ _ c.loop-found.invariant (o.0, o.1, o.2 refl)
