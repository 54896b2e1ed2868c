use Rattle.mysql_bind_core.proofs.TableLemmas.{SoFar}
use Rattle.mysql_bind_core.proofs.table_text.append_table.Given as goal

-- the script has the statements of so many records
abbrev pub invariant-loop-count : goal.invariant-loop-count
invariant-loop-count l = SoFar l.query l.form l.text l.rest l.fn.script.items l.script.items l._count
