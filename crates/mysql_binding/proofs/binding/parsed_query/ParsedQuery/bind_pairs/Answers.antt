use Rattle.std.proofs.Common.{inr, refl}
use Rattle.mysql_named_params.specs.Reading.{grammar_reading}
use Rattle.mysql_params_core.specs.Given.{named}
use Rattle.mysql_params_core.specs.GivenBorrowed.{pair_map}
use Rattle.mysql_binding.specs.BoundPairs.{IsPairsRefusal}
use Rattle.mysql_binding.specs.declared.bind_pairs_error.BindPairsError.TheVariants.{Bind}
use Rattle.mysql_binding.proofs.AppendedTextLemmas.{handed_on}
use Rattle.mysql_binding.proofs.binding.parsed_query.ParsedQuery.bind_pairs.Goals as goal

pub returns-in-Some-clause-refused : goal.returns-in-Some-clause-refused
returns-in-Some-clause-refused c = c.in-Some.ensures.some (grammar_reading c.args.self.now.mode) c.args.self.now.query

pub returns-in_err-bind_surveyed-clause-refused : goal.returns-in_err-bind_surveyed-clause-refused
returns-in_err-bind_surveyed-clause-refused c =
    handed_on (IsPairsRefusal c.args.self.now.mode c.args.self.now.query c.args.pairs.now) c.from_residual.result (Bind c.in_err-bind_surveyed.field-0.0) c.from_residual.ensures.1
    (inr (named (pair_map c.args.pairs.now), c.in_default.ensures.none refl, rw (c.surveyed.ensures.query, c.surveyed.ensures.reading) at c.in_err-bind_surveyed.ensures.refused))

pub returns-clause-bound_again : goal.returns-clause-bound_again
returns-clause-bound_again c = rw c.surveyed.ensures.reading at c.in_ok-bind_surveyed.ensures.bound_again

pub returns-clause-by_position : goal.returns-clause-by_position
returns-clause-by_position c = (
  named (pair_map c.args.pairs.now),
  c.in_default.ensures.none refl,
  rw (c.surveyed.ensures.query, c.surveyed.ensures.reading) at c.in_ok-bind_surveyed.ensures.by_position,
)
