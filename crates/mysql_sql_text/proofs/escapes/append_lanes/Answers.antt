use Rattle.std.proofs.Common.{◌+◌, arith}
use Rattle.std.proofs.lemmas.Simd.{take_more_put_chunk}
use Rattle.mysql_sql_text.proofs.escapes.append_lanes.Goals as goal

pub returns-clause-front : goal.returns-clause-front
returns-clause-front c =
    take_more_put_chunk c.args.at c.args.buffer.now c.args.block (c.args.at + 16) (omega (arith, c.fits-block.0)) c.requires
