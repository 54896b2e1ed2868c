use Rattle.std.proofs.Common.{length, sym, subst, arith}
use Rattle.std.specs.Str.{IsAscii}
use Rattle.std.proofs.lemmas.List.{take_all}
use Rattle.mysql_sql_text.proofs.AsciiLemmas.{IsAscii-from_ends}
use Rattle.mysql_sql_text.proofs.utf8.ascii_front_of_ends.Goals as goal

pub returns-then-are_ascii_lanes-clause-ascii : goal.returns-then-are_ascii_lanes-clause-ascii
returns-then-are_ascii_lanes-clause-ascii c =
    let bytes = c.args.bytes.now in
    subst IsAscii (sym (take_all (length bytes) bytes (omega arith)))
    (IsAscii-from_ends bytes c.requires.at_least c.requires.at_most
    (subst IsAscii c.both_ends.ensures (c.are_ascii_lanes.ensures c.if-are_ascii_lanes.true)))
