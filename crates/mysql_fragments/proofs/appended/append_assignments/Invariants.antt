use Rattle.std.proofs.Common.{◌≡◌, ◌+◌, ◌++◌, length, map, take}
use Rattle.std.specs.Prelude.{codes}
use Rattle.std.specs.List.{flat_map}
use Rattle.mysql_binding.specs.LiteralForm.{written_literal}
use Rattle.mysql_binding.specs.PushedLiteral.{AreKnownUnlessFloats}
use Rattle.mysql_fragments.specs.FragmentText.{filled_assignment, assignment_values, joined}
use Rattle.mysql_fragments.proofs.appended.append_assignments.Given as goal

abbrev pub invariant-loop-i : goal.invariant-loop-i
invariant-loop-i g l =
    (l.end ≡ l.at + length (joined (codes ", ") (map (filled_assignment (written_literal (g.F.LiteralForm.literal l.form))) (take l.i l.assignments))))
    × (take l.end l.text ≡ take l.at l.fn.text ++ joined (codes ", ") (map (filled_assignment (written_literal (g.F.LiteralForm.literal l.form))) (take l.i l.assignments)))
    × (length l.text ≡ length l.fn.text)
    × AreKnownUnlessFloats (g.F.LiteralForm.literal l.form) (g.F.LiteralForm.IsKnown l.form) (flat_map assignment_values (take l.i l.assignments))
