use Rattle.std.specs.Prelude.{alloc_error, true}
use Rattle.mysql_named_params.proofs.ReadingLemmas.{reading_exists}
use Rattle.mysql_binding.proofs.AppendedTextLemmas.{handed_on}
use Rattle.mysql_binding.proofs.SurveyedQueryLemmas.{no_text, on_survey}
use Rattle.mysql_fragments.specs.FragmentErrors.{IsCauseElseMemory, first_cause}
use Rattle.mysql_fragments.specs.GivenFragments.{positional}
use Rattle.mysql_fragments.specs.declared.fragments_error.FragmentsError.TheVariants.{Memory}
use Rattle.mysql_fragments.proofs.BoundBorrowedLemmas.{borrowed_bound, borrowed_memory, borrowed_refused, mixed_told, never_mixed}
use Rattle.mysql_fragments.proofs.bound_refs.bind_borrowed_in.Goals as goal

pub returns-in-Some-clause-bound : goal.returns-in-Some-clause-bound
returns-in-Some-clause-bound c said s =
    let t = reading_exists c.args.reading c.args.query.now in
    (t.0, t.1, tt)

pub returns-in-Some-clause-refused : goal.returns-in-Some-clause-refused
returns-in-Some-clause-refused c said s =
    borrowed_refused c.args.reading c.args.query.now _ (rw (c.new-surveyed.ensures.query, c.new-surveyed.ensures.reading) at (on_survey _ _ _ c.new-surveyed.result.surveyed)) c.args.fragments.now said s c.in-Some.error c.in-Some.ensures.cause

pub returns-in-Some-clause-mixed : goal.returns-in-Some-clause-mixed
returns-in-Some-clause-mixed c = mixed_told c.args.reading c.args.query.now _ (rw (c.new-surveyed.ensures.query, c.new-surveyed.ensures.reading) at (on_survey _ _ _ c.new-surveyed.result.surveyed)) c.in-Some.error c.in-Some.ensures.mixed

pub returns-in_err-filled_borrowed-clause-bound : goal.returns-in_err-filled_borrowed-clause-bound
returns-in_err-filled_borrowed-clause-bound c said s = no_text _ _ _ c.from_residual.result _ c.from_residual.ensures.1

pub returns-in_err-filled_borrowed-clause-refused : goal.returns-in_err-filled_borrowed-clause-refused
returns-in_err-filled_borrowed-clause-refused c said s =
    let o = borrowed_memory c.args.reading c.args.query.now _ (rw (c.new-surveyed.ensures.query, c.new-surveyed.ensures.reading) at (on_survey _ _ _ c.new-surveyed.result.surveyed)) c.args.fragments.now said s c.in_default.ensures.cause in
    (o.0, o.1, handed_on (IsCauseElseMemory (first_cause true o.0 (positional said))) c.from_residual.result (Memory alloc_error) c.from_residual.ensures.1 o.2)

pub returns-in_err-filled_borrowed-clause-mixed : goal.returns-in_err-filled_borrowed-clause-mixed
returns-in_err-filled_borrowed-clause-mixed c = never_mixed c.args.reading c.args.query.now _ (rw (c.new-surveyed.ensures.query, c.new-surveyed.ensures.reading) at (on_survey _ _ _ c.new-surveyed.result.surveyed)) c.from_residual.result c.in_default.ensures.mixed

pub returns-clause-bound : goal.returns-clause-bound
returns-clause-bound c said s =
    borrowed_bound c.args.reading c.args.query.now _ (rw (c.new-surveyed.ensures.query, c.new-surveyed.ensures.reading) at (on_survey _ _ _ c.new-surveyed.result.surveyed)) c.args.fragments.now said s _ c.in_default.ensures.cause
    (rw (c.new-surveyed.ensures.query, c.new-surveyed.ensures.reading) at c.in_ok-filled_borrowed.ensures.text) c.in_ok-filled_borrowed.ensures.known

pub returns-clause-mixed : goal.returns-clause-mixed
returns-clause-mixed c = never_mixed c.args.reading c.args.query.now _ (rw (c.new-surveyed.ensures.query, c.new-surveyed.ensures.reading) at (on_survey _ _ _ c.new-surveyed.result.surveyed)) _ c.in_default.ensures.mixed
