use Rattle.std.proofs.Common.{arith}
use Rattle.std.proofs.lemmas.List.Sums.{count_by-le-length}
use Rattle.mysql_sql_text.specs.LiteralText.{needs_escape}
use Rattle.mysql_sql_text.proofs.BlockLemmas.{length-escaped}
use Rattle.mysql_sql_text.proofs.EscapeWalkLemmas.{ones-ends}
use Rattle.mysql_sql_text.proofs.escapes.escaped_len_of_few.Goals as goal

pub returns-clause-exact : goal.returns-clause-exact
returns-clause-exact c =
    omega (
      arith,
      ones-ends c.args.no_backslash_escape c.args.bytes.now _ _ (omega arith) c.requires c.both_ends.ensures c.escaped_lanes-escapes.ensures,
      length-escaped c.args.no_backslash_escape c.args.bytes.now,
    )

pub returns-clause-few : goal.returns-clause-few
returns-clause-few c =
    omega (
      arith,
      ones-ends c.args.no_backslash_escape c.args.bytes.now _ _ (omega arith) c.requires c.both_ends.ensures c.escaped_lanes-escapes.ensures,
      count_by-le-length (needs_escape c.args.no_backslash_escape) c.args.bytes.now,
    )
