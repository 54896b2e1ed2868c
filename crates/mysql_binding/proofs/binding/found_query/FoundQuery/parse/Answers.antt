use Rattle.std.specs.Prelude.{Ok, Err, OnErr, Result}
use Rattle.mysql_binding.proofs.FoundQueryLemmas.{is_parsed}
use Rattle.mysql_binding.proofs.SurveyedQueryLemmas.{some_places}
use Rattle.mysql_binding.proofs.binding.found_query.FoundQuery.parse.Goals as goal

pub invariant_of-result : goal.invariant_of-result
invariant_of-result c = record {
  parsed = rw (c.new-surveyed.ensures.query, c.new-surveyed.ensures.reading) at (is_parsed _ _ _ _ c.new-surveyed.result.surveyed c.in_ok-places.ensures.places);
}

-- a fact that holds also holds if there is an error
on_error : {A E P : Type 0} (r : Result A E) → P → OnErr r P
on_error (Ok a) p = tt
on_error (Err e) p = p

pub returns-in_err-places-clause-memory : goal.returns-in_err-places-clause-memory
returns-in_err-places-clause-memory c =
    on_error c.from_residual.result
    (rw (c.new-surveyed.ensures.query, c.new-surveyed.ensures.reading) at (some_places _ _ _ c.new-surveyed.result.surveyed c.in_err-places.ensures.memory))
