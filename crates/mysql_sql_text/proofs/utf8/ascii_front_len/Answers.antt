use Rattle.std.proofs.Common.{length, ◌-◌, sym, subst, arith}
use Rattle.std.specs.Str.{IsAscii}
use Rattle.std.proofs.lemmas.List.{take_all}
use Rattle.mysql_sql_text.proofs.AsciiLemmas.{IsAscii-next_block, IsAscii-last_block}
use Rattle.mysql_sql_text.proofs.utf8.ascii_front_len.Goals as goal

pub loop-at-preserved : goal.loop-at-preserved
loop-at-preserved c = (omega arith, IsAscii-next_block c.args.bytes.now c.loop-at.at c.loop-at.invariant.1 (c.is_ascii_block.ensures c.if-not-is_ascii_block.false))

pub returns-then-is_ascii_block-clause-ascii : goal.returns-then-is_ascii_block-clause-ascii
returns-then-is_ascii_block-clause-ascii c =
    let bytes = c.args.bytes.now in
    subst IsAscii (sym (take_all (length bytes) bytes (omega arith)))
    (IsAscii-last_block bytes (length bytes - 16) c.loop-at.at (omega arith) (omega arith) c.loop-at.invariant.1 (c.is_ascii_block-2.ensures c.if-is_ascii_block.true))
