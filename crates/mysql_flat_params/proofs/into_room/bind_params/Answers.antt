use Rattle.std.proofs.Common.{subst}
use Rattle.std.specs.Prelude.{IfErr, IfOk}
use Rattle.mysql_named_params.specs.Reading.{OnTokensIn}
use Rattle.mysql_params_core.specs.Given.{Given}
use Rattle.mysql_params_core.specs.GivenBorrowed.{given_by_borrowed}
use Rattle.mysql_binding.specs.BindErrors.{IsCauseOrMemory}
use Rattle.mysql_binding.specs.FirstCause.{first_cause}
use Rattle.mysql_binding.specs.Isolation.{IsBoundText}
use Rattle.mysql_binding.specs.TextInRoom.{HasTextOf, IsTextInRoom}
use Rattle.mysql_binding.proofs.TextInRoomLemmas.{bound_in_room}
use Rattle.mysql_flat_params.proofs.into_room.bind_params.Goals as goal

pub returns-clause-bound : goal.returns-clause-bound
returns-clause-bound c =
    subst (λ (g : Given). OnTokensIn c.args.reading c.args.query.now (λ ts. IfOk c.bind_surveyed_into.result (IsTextInRoom (IsBoundText c.args.reading.no_backslash_escape ts g) (HasTextOf (IsBoundText c.args.reading.no_backslash_escape ts g)) c.args.room.now c.bind_surveyed_into.new.room)))
    c.borrowed_params-borrowed.ensures
    (bound_in_room c.args.reading c.args.query.now (given_by_borrowed c.borrowed_params-borrowed.result) c.args.room.now c.bind_surveyed_into.new.room c.bind_surveyed_into.result (rw (c.new-surveyed.ensures.query, c.new-surveyed.ensures.reading) at c.bind_surveyed_into.ensures.text))

pub returns-clause-refused : goal.returns-clause-refused
returns-clause-refused c =
    subst (λ (g : Given). OnTokensIn c.args.reading c.args.query.now (λ ts. IfErr c.bind_surveyed_into.result (IsCauseOrMemory (first_cause ts g))))
    c.borrowed_params-borrowed.ensures (rw (c.new-surveyed.ensures.query, c.new-surveyed.ensures.reading) at c.bind_surveyed_into.ensures.refused)
