use Rattle.std.proofs.Common.{◌-◌, ◌<◌, ◌≤◌}
use Rattle.mysql_bind_core.specs.GroupSearch.{IsFit, IsMost}
use Rattle.mysql_bind_core.proofs.group.full_group.Given as goal

-- a group that fits, and no more than may fit
abbrev pub invariant-more : goal.invariant-more
invariant-more l = IsFit l.query l.form l.unread.rest.now l.group × (l.group.rows ≤ l.most) × (l.most ≤ l.form.rows) × (0 < l.step)
    × IsMost l.query l.form l.unread.rest.now l.most

abbrev pub decreases-more : goal.decreases-more
decreases-more l = l.most - l.group.rows
