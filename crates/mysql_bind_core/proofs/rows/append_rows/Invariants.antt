use Rattle.std.proofs.Common.{take}
use Rattle.mysql_bind_core.specs.Scripts.{AreStatements}
use Rattle.mysql_bind_core.proofs.rows.append_rows.Given as goal

-- the script has the statements of the rows so far
abbrev pub invariant-loop-number : goal.invariant-loop-number
invariant-loop-number l = AreStatements l.query.request l.query.query (take l.number l.rows) l.fn.script.items l.script.items
