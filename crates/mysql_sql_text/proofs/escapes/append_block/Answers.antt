use Rattle.std.proofs.Common.{◌∙◌, ◌++◌, ◌+◌, take, drop, length, sym, ap, arith}
use Rattle.std.proofs.lemmas.List.{length-drop}
use Rattle.mysql_sql_text.proofs.BlockLemmas.{escaped-none, length-escaped-cut, length-escaped-le}
use Rattle.mysql_sql_text.proofs.EscapeWalkLemmas.{room_for_block}
use Rattle.mysql_sql_text.proofs.escapes.append_block.Goals as goal

pub append_lanes-requires : goal.append_lanes-requires
append_lanes-requires c =
    room_for_block c.args.no_backslash_escape c.args.bytes.now 0 c.args.at _ c.requires.block c.requires.fits

pub returns-then-escapes-eq0-clause-next : goal.returns-then-escapes-eq0-clause-next
returns-then-escapes-eq0-clause-next c =
    let plain = escaped-none c.args.no_backslash_escape (take 16 c.args.bytes.now) (sym c.escaped_lanes-escapes.ensures ∙ c.if-escapes-eq0.true) in
    c.append_lanes.ensures.next ∙ ap (λ t. c.args.at + length t) (sym plain)

pub returns-then-escapes-eq0-clause-front : goal.returns-then-escapes-eq0-clause-front
returns-then-escapes-eq0-clause-front c =
    let plain = escaped-none c.args.no_backslash_escape (take 16 c.args.bytes.now) (sym c.escaped_lanes-escapes.ensures ∙ c.if-escapes-eq0.true) in
    c.append_lanes.ensures.front ∙ ap (λ t. take c.args.at c.args.buffer.now ++ t) (sym plain)

pub append_escaped_bytes-requires : goal.append_escaped_bytes-requires
append_escaped_bytes-requires c =
    omega (arith, length-escaped-cut c.args.no_backslash_escape c.args.bytes.now 0, c.requires.fits)

pub append_many_escapes-requires-clause-fits : goal.append_many_escapes-requires-clause-fits
append_many_escapes-requires-clause-fits c =
    let mode = c.args.no_backslash_escape in
    let bytes = c.args.bytes.now in
    omega (
      arith,
      c.requires.fits,
      length-escaped-cut mode bytes 0,
      length-escaped-le mode (drop 16 bytes),
      length-drop 16 bytes,
    )
