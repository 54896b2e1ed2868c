use Rattle.std.proofs.Common.{◌≡◌, ◌+◌, ◌++◌, length, map, take}
use Rattle.std.specs.Prelude.{codes}
use Rattle.mysql_binding.specs.LiteralForm.{written_literal}
use Rattle.mysql_fragments.specs.FragmentText.{joined}
use Rattle.mysql_fragments.specs.BorrowedFragments.{cell_rows}
use Rattle.mysql_fragments.specs.BorrowedText.{cell_row_text, cell_values}
use Rattle.std.specs.List.{flat_map}
use Rattle.mysql_binding.specs.PushedLiteral.{AreKnownUnlessFloats}
use Rattle.mysql_fragments.proofs.filled_refs.append_cell_rows.Given as goal

abbrev pub invariant-loop-r : goal.invariant-loop-r
invariant-loop-r g l =
    (l.end ≡ l.at + length (joined (codes ", ") (map (cell_row_text (written_literal (g.F.LiteralForm.literal l.form))) (take l.r (cell_rows l.rows)))))
    × (take l.end l.text ≡ take l.at l.fn.text ++ joined (codes ", ") (map (cell_row_text (written_literal (g.F.LiteralForm.literal l.form))) (take l.r (cell_rows l.rows))))
    × (length l.text ≡ length l.fn.text)
    × AreKnownUnlessFloats (g.F.LiteralForm.literal l.form) (g.F.LiteralForm.IsKnown l.form) (flat_map cell_values (take l.r (cell_rows l.rows)))
