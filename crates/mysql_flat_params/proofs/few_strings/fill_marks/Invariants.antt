use Rattle.std.proofs.Common.{drop}
use Rattle.mysql_named_params.specs.Reading.{OnTokensIn}
use Rattle.mysql_values.specs.BorrowedValue.{owned_values}
use Rattle.mysql_binding.specs.FoundPlaces.{BeginWithPlaces}
use Rattle.mysql_binding.proofs.FilledTextLemmas.{FilledSoFar}
use Rattle.mysql_flat_params.proofs.few_strings.fill_marks.Given as goal

abbrev pub invariant-loop-i : goal.invariant-loop-i
invariant-loop-i g l =
    FilledSoFar l.surveyed.reading (g.F.LiteralForm.literal l.literals) (g.F.LiteralForm.IsKnown l.literals) l.surveyed.query.now l.rest (owned_values l.values) l.i l.text l.at
    × OnTokensIn l.surveyed.reading l.rest (BeginWithPlaces (drop l.i l.surveyed.known.now))
