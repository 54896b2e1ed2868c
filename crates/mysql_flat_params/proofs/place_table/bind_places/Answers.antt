use Rattle.std.proofs.Common.{subst}
use Rattle.std.specs.Prelude.{IfErr, IfOk}
use Rattle.mysql_named_params.specs.Reading.{OnTokensIn}
use Rattle.mysql_params_core.specs.Given.{Given}
use Rattle.mysql_params_core.specs.GivenBorrowed.{given_by_borrowed}
use Rattle.mysql_binding.specs.BindErrors.{IsCauseOrMemory}
use Rattle.mysql_binding.specs.FirstCause.{first_cause}
use Rattle.mysql_binding.specs.Isolation.{IsBoundText}
use Rattle.mysql_binding.specs.SpannedQuery.{RefusesNames}
use Rattle.mysql_binding.specs.TextInRoom.{HasTextOf, IsTextInRoom}
use Rattle.mysql_binding.proofs.TextInRoomLemmas.{bound_in_room}
use Rattle.mysql_flat_params.proofs.place_table.bind_places.Goals as goal

pub returns-clause-bound : goal.returns-clause-bound
returns-clause-bound c = λ own.
    subst (λ (g : Given). OnTokensIn c.args.reading c.args.spanned.now.query.now (λ ts. IfOk c.bind_spans_into.result (IsTextInRoom (IsBoundText c.args.reading.no_backslash_escape ts g) (HasTextOf (IsBoundText c.args.reading.no_backslash_escape ts g)) c.args.room.now c.bind_spans_into.new.room)))
    c.borrowed_params-borrowed.ensures
    (bound_in_room c.args.reading c.args.spanned.now.query.now (given_by_borrowed c.borrowed_params-borrowed.result) c.args.room.now c.bind_spans_into.new.room c.bind_spans_into.result (c.bind_spans_into.ensures.text c.args.reading own))

pub returns-clause-refused : goal.returns-clause-refused
returns-clause-refused c = λ own.
    subst (λ (g : Given). OnTokensIn c.args.reading c.args.spanned.now.query.now (λ ts. IfErr c.bind_spans_into.result (IsCauseOrMemory (first_cause ts g))))
    c.borrowed_params-borrowed.ensures (c.bind_spans_into.ensures.refused c.args.reading own)

pub returns-clause-lookup : goal.returns-clause-lookup
returns-clause-lookup c =
    subst (λ (g : Given). IfErr c.bind_spans_into.result (RefusesNames c.args.spanned.now g))
    c.borrowed_params-borrowed.ensures c.bind_spans_into.ensures.lookup
