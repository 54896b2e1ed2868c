use Rattle.std.proofs.Common.{◌≡◌, ◌+◌, length, map, take}
use Rattle.std.specs.List.{flat_map, sum_by}
use Rattle.mysql_binding.specs.LiteralForm.{written_literal}
use Rattle.mysql_fragments.specs.BorrowedText.{borrowed_text}
use Rattle.mysql_binding.specs.MeasuredText.{IsOfFields}
use Rattle.mysql_binding.specs.PushedLiteral.{AreKnownUnlessFloats}
use Rattle.mysql_fragments.specs.BorrowedText.{borrowed_values}
use Rattle.mysql_fragments.proofs.borrowed.borrowed_len.Given as goal

abbrev pub invariant-loop-fragment : goal.invariant-loop-fragment
invariant-loop-fragment g l =
    (l.len ≡ l.piece_bytes + sum_by length (map (borrowed_text (written_literal (g.F.LiteralForm.literal l.form))) (take l.fragment-index l.fragments)))
    × AreKnownUnlessFloats (g.F.LiteralForm.literal l.form) IsOfFields (flat_map borrowed_values (take l.fragment-index l.fragments))
