use Rattle.std.proofs.Common.{drop}
use Rattle.mysql_named_params.specs.Reading.{OnTokensIn}
use Rattle.mysql_binding.specs.FoundPlaces.{BeginWithPlaces}
use Rattle.mysql_binding.proofs.FilledTextLemmas.{FilledSoFar}
use Rattle.mysql_binding.proofs.binding.text.fill_text.Given as goal

abbrev pub invariant-loop-i : goal.invariant-loop-i
invariant-loop-i g l =
    FilledSoFar l.surveyed.reading (g.F.LiteralForm.literal l.form) (g.F.LiteralForm.IsKnown l.form) l.surveyed.query.now l.rest (g.L.ValueList.values l.values) l.i l.text l.at
    × OnTokensIn l.surveyed.reading l.rest (BeginWithPlaces (drop l.i l.surveyed.known.now))
