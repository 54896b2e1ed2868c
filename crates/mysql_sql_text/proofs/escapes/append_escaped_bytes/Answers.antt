use Rattle.std.proofs.Common.{arith}
use Rattle.std.proofs.lemmas.List.Folds.{length-flat_map-take}
use Rattle.mysql_sql_text.specs.LiteralText.{escaped_byte}
use Rattle.mysql_sql_text.proofs.escapes.append_escaped_bytes.Goals as goal

pub append_escaped_byte-at-requires : goal.append_escaped_byte-at-requires
append_escaped_byte-at-requires c =
    let mode = c.args.no_backslash_escape in
    omega (arith, length-flat_map-take (escaped_byte mode) c.args.bytes.now c.loop-byte.byte-index 0 (omega arith))
