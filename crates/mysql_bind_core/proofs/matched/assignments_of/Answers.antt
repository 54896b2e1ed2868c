use Rattle.std.proofs.Common.{[], refl}
use Rattle.mysql_params_core.specs.Referents.{referents}
use Rattle.mysql_bind_core.proofs.MatchedLemmas.{all_cells_said, said_next}
use Rattle.mysql_bind_core.proofs.matched.assignments_of.Goals as goal

pub returns-then-i-cells : goal.returns-then-i-cells
returns-then-i-cells c =
    all_cells_said (referents c.args.columns.now) c.args.cells.now c.loop-i.i c.loop-i.assignments.items c.if-i-cells.true c.loop-i.invariant

pub loop-i-preserved : goal.loop-i-preserved
loop-i-preserved c =
    said_next c.args.columns.now c.args.cells.now c.loop-i.i (record { ref_ptr = (0, 0); now = [] }) _ c.loop-i.assignments.items c.push.new.self.items _
    c.loop-i-test.true c.if-i-cells.false c.in_ok-push.ensures.items c.in_ok-from_slice.ensures.items c.in_ok-from_slice-2.ensures.items refl
    c.loop-i.invariant
