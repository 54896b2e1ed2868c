use Rattle.mysql_bind_core.proofs.RowItemLemmas.{RowsSoFar}
use Rattle.mysql_bind_core.proofs.record_rows.read_rows.Given as goal

-- so many rows are read
abbrev pub invariant-loop-count : goal.invariant-loop-count
invariant-loop-count l = RowsSoFar l.form l.unread.rest.now l.rows.items l.rest l._count
