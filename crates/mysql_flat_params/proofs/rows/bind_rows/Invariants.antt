use Rattle.std.proofs.Common.{length, ◌-◌}
use Rattle.std.specs.Prelude.{IfSome}
use Rattle.mysql_flat_params.specs.RowNames.{AreFoundNames}
use Rattle.mysql_flat_params.proofs.RowsLemmas.{RowsSoFar}
use Rattle.mysql_flat_params.proofs.rows.bind_rows.Given as goal

abbrev pub invariant-loop-read : goal.invariant-loop-read
invariant-loop-read l =
    RowsSoFar l.surveyed.reading l.surveyed.query.now l.forms l.fn.room l.room l.count l.read l.written
    × IfSome l.memory.found (AreFoundNames l.surveyed.reading l.surveyed.query.now)

abbrev pub decreases-loop-read : goal.decreases-loop-read
decreases-loop-read l = length l.forms - l.read
