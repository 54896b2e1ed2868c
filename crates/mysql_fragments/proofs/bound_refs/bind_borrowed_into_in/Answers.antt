use Rattle.std.proofs.Common.{refl}
use Rattle.mysql_named_params.proofs.ReadingLemmas.{reading_exists}
use Rattle.mysql_binding.proofs.SurveyedQueryLemmas.{on_survey}
use Rattle.mysql_fragments.specs.GivenFragments.{positional}
use Rattle.mysql_fragments.proofs.BoundBorrowedLemmas.{mixed_told, never_mixed, placed_on, refused_in_room, too_long_in_room}
use Rattle.mysql_fragments.proofs.RoomLemmas.{bound_fragments_in_room}
use Rattle.mysql_fragments.proofs.bound_refs.bind_borrowed_into_in.Goals as goal

pub returns-in-Some-clause-bound : goal.returns-in-Some-clause-bound
returns-in-Some-clause-bound c said s =
    let t = reading_exists c.args.reading c.args.query.now in
    (t.0, t.1, tt)

pub returns-in-Some-clause-refused : goal.returns-in-Some-clause-refused
returns-in-Some-clause-refused c said s =
    refused_in_room c.args.reading c.args.query.now _ (rw (c.new-surveyed.ensures.query, c.new-surveyed.ensures.reading) at (on_survey _ _ _ c.new-surveyed.result.surveyed)) c.args.fragments.now said s c.in-Some.error c.in-Some.ensures.cause

pub returns-in-Some-clause-mixed : goal.returns-in-Some-clause-mixed
returns-in-Some-clause-mixed c = mixed_told c.args.reading c.args.query.now _ (rw (c.new-surveyed.ensures.query, c.new-surveyed.ensures.reading) at (on_survey _ _ _ c.new-surveyed.result.surveyed)) c.in-Some.error c.in-Some.ensures.mixed

pub returns-in-Some-bind_placed_into-clause-bound : goal.returns-in-Some-bind_placed_into-clause-bound
returns-in-Some-bind_placed_into-clause-bound c said s =
    bound_fragments_in_room c.args.reading c.args.query.now (positional said) c.args.room.now c.bind_placed_into.new.room c.in-Some-bind_placed_into.text
    (rw (c.new-surveyed.ensures.query, c.new-surveyed.ensures.reading) at (c.in-Some-bind_placed_into.ensures.text (positional said) said s
    (placed_on c.new-surveyed.result.reading c.new-surveyed.result.query.now _ (on_survey _ _ _ c.new-surveyed.result.surveyed) c.args.fragments.now said s c.in_default.ensures.cause)))

pub returns-in-Some-bind_placed_into-clause-refused : goal.returns-in-Some-bind_placed_into-clause-refused
returns-in-Some-bind_placed_into-clause-refused c said s =
    let t = reading_exists c.args.reading c.args.query.now in
    (t.0, t.1, tt)

pub returns-in-Some-bind_placed_into-clause-mixed : goal.returns-in-Some-bind_placed_into-clause-mixed
returns-in-Some-bind_placed_into-clause-mixed c = never_mixed c.args.reading c.args.query.now _ (rw (c.new-surveyed.ensures.query, c.new-surveyed.ensures.reading) at (on_survey _ _ _ c.new-surveyed.result.surveyed)) _ c.in_default.ensures.mixed

pub returns-in-None-clause-refused : goal.returns-in-None-clause-refused
returns-in-None-clause-refused c said s =
    too_long_in_room c.args.reading c.args.query.now _ (rw (c.new-surveyed.ensures.query, c.new-surveyed.ensures.reading) at (on_survey _ _ _ c.new-surveyed.result.surveyed)) c.args.fragments.now said s c.in_default.ensures.cause
    (rw (c.new-surveyed.ensures.query, c.new-surveyed.ensures.reading) at (c.in-None.ensures.too_long refl said s))

pub returns-in-None-clause-mixed : goal.returns-in-None-clause-mixed
returns-in-None-clause-mixed c = never_mixed c.args.reading c.args.query.now _ (rw (c.new-surveyed.ensures.query, c.new-surveyed.ensures.reading) at (on_survey _ _ _ c.new-surveyed.result.surveyed)) _ c.in_default.ensures.mixed
