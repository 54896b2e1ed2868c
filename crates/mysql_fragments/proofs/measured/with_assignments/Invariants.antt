use Rattle.std.proofs.Common.{◌≡◌, ◌+◌, length, map, take}
use Rattle.std.specs.Prelude.{codes}
use Rattle.mysql_binding.specs.LiteralForm.{written_literal}
use Rattle.mysql_fragments.specs.FragmentText.{filled_assignment, joined}
use Rattle.std.specs.List.{flat_map}
use Rattle.mysql_binding.specs.MeasuredText.{IsOfFields}
use Rattle.mysql_binding.specs.PushedLiteral.{AreKnownUnlessFloats}
use Rattle.mysql_fragments.specs.FragmentText.{assignment_values}
use Rattle.mysql_fragments.proofs.measured.with_assignments.Given as goal

abbrev pub invariant-loop-i : goal.invariant-loop-i
invariant-loop-i g l =
    (l.sum ≡ l.len + length (joined (codes ", ") (map (filled_assignment (written_literal (g.F.LiteralForm.literal l.form))) (take l.i l.assignments))))
    × AreKnownUnlessFloats (g.F.LiteralForm.literal l.form) IsOfFields (flat_map assignment_values (take l.i l.assignments))
