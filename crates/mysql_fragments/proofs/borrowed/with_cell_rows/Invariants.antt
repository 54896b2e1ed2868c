use Rattle.std.proofs.Common.{◌≡◌, ◌+◌, length, map, take}
use Rattle.std.specs.Prelude.{codes}
use Rattle.mysql_binding.specs.LiteralForm.{written_literal}
use Rattle.mysql_fragments.specs.FragmentText.{joined}
use Rattle.mysql_fragments.specs.BorrowedFragments.{cell_rows}
use Rattle.mysql_fragments.specs.BorrowedText.{cell_row_text}
use Rattle.std.specs.List.{flat_map}
use Rattle.mysql_binding.specs.MeasuredText.{IsOfFields}
use Rattle.mysql_binding.specs.PushedLiteral.{AreKnownUnlessFloats}
use Rattle.mysql_fragments.specs.BorrowedText.{cell_values}
use Rattle.mysql_fragments.proofs.borrowed.with_cell_rows.Given as goal

abbrev pub invariant-loop-r : goal.invariant-loop-r
invariant-loop-r g l =
    (l.sum ≡ l.len + length (joined (codes ", ") (map (cell_row_text (written_literal (g.F.LiteralForm.literal l.form))) (take l.r (cell_rows l.rows)))))
    × AreKnownUnlessFloats (g.F.LiteralForm.literal l.form) IsOfFields (flat_map cell_values (take l.r (cell_rows l.rows)))
