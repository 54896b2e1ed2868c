use Rattle.std.proofs.Common.{◌<◌, ◌≤◌}
use Rattle.mysql_bind_core.specs.GroupSearch.{IsMost}
use Rattle.mysql_bind_core.proofs.group.first_fit.Given as goal

-- what is tried next is some, and no more than may fit
abbrev pub invariant-fewer : goal.invariant-fewer
invariant-fewer l = (0 < l.tried) × (l.tried ≤ l.most) × (l.most ≤ l.form.rows) × IsMost l.query l.form l.unread.rest.now l.most

abbrev pub decreases-fewer : goal.decreases-fewer
decreases-fewer l = l.tried
