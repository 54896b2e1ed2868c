use Rattle.mysql_bind_core.proofs.GroupLemmas.{GroupsSoFar}
use Rattle.mysql_bind_core.proofs.groups.append_groups.Given as goal

-- the script has the statements of so many groups
abbrev pub invariant-loop-count : goal.invariant-loop-count
invariant-loop-count l = GroupsSoFar l.query l.form l.text l.rest l.fn.script.items l.script.items l._count l.rows
