use Rattle.std.proofs.Common.{◌≡◌, ◌++◌, take}
use Rattle.std.specs.List.{flat_map}
use Rattle.mysql_binding.specs.LiteralForm.{written_literal}
use Rattle.mysql_binding.specs.PushedLiteral.{AreKnownUnlessFloats}
use Rattle.mysql_fragments.specs.FragmentText.{filled_assignments, assignment_values}
use Rattle.mysql_fragments.proofs.written.push_assignments.Given as goal

abbrev pub invariant-loop-i : goal.invariant-loop-i
invariant-loop-i g l =
    (l.text.items ≡ l.fn.text.items ++ filled_assignments (written_literal (g.F.ValueForm.written l.form)) (take l.i l.assignments))
    × AreKnownUnlessFloats (g.F.ValueForm.written l.form) (g.F.ValueForm.IsKnown l.form) (flat_map assignment_values (take l.i l.assignments))
