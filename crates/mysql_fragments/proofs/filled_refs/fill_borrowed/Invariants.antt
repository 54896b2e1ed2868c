use Rattle.std.proofs.Common.{take, drop}
use Rattle.std.specs.List.{flat_map}
use Rattle.mysql_named_params.specs.Reading.{OnTokensIn}
use Rattle.mysql_binding.specs.FoundPlaces.{BeginWithPlaces}
use Rattle.mysql_binding.specs.LiteralForm.{written_literal}
use Rattle.mysql_binding.specs.PushedLiteral.{AreKnownUnlessFloats}
use Rattle.mysql_fragments.specs.BorrowedText.{borrowed_text, borrowed_values}
use Rattle.mysql_fragments.proofs.FillLemmas.{FilledSoFar}
use Rattle.mysql_fragments.proofs.filled_refs.fill_borrowed.Given as goal

abbrev pub invariant-loop-i : goal.invariant-loop-i
invariant-loop-i g l =
    FilledSoFar l.surveyed.reading (borrowed_text (written_literal (g.F.LiteralForm.literal l.form))) l.surveyed.query.now l.rest l.fragments l.i l.text l.at
    × OnTokensIn l.surveyed.reading l.rest (BeginWithPlaces (drop l.i l.surveyed.known.now))
    × AreKnownUnlessFloats (g.F.LiteralForm.literal l.form) (g.F.LiteralForm.IsKnown l.form) (flat_map borrowed_values (take l.i l.fragments))
