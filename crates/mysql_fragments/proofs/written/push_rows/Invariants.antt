use Rattle.std.proofs.Common.{◌≡◌, ◌++◌, take, map}
use Rattle.std.specs.Prelude.{codes}
use Rattle.std.specs.List.{flat_map}
use Rattle.mysql_binding.specs.LiteralForm.{written_literal}
use Rattle.mysql_binding.specs.PushedLiteral.{AreKnownUnlessFloats}
use Rattle.mysql_fragments.specs.FragmentText.{filled_row, item_values, joined}
use Rattle.mysql_fragments.proofs.written.push_rows.Given as goal

abbrev pub invariant-loop-i : goal.invariant-loop-i
invariant-loop-i g l =
    (l.text.items ≡ l.fn.text.items ++ joined (codes ", ") (map (filled_row (written_literal (g.F.ValueForm.written l.form))) (take l.i l.rows)))
    × AreKnownUnlessFloats (g.F.ValueForm.written l.form) (g.F.ValueForm.IsKnown l.form) (flat_map (λ row. flat_map item_values row.items) (take l.i l.rows))
