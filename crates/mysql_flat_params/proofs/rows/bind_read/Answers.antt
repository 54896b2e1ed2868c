use Rattle.std.specs.Prelude.{Ok}
use Rattle.std.proofs.Common.{subst, sym}
use Rattle.mysql_named_params.specs.Reading.{OnTokensIn}
use Rattle.mysql_params_core.specs.Given.{Given}
use Rattle.mysql_params_core.specs.GivenBorrowed.{given_by_borrowed}
use Rattle.mysql_binding.specs.BindErrors.{IsCauseOrMemory}
use Rattle.mysql_binding.specs.FirstCause.{first_cause}
use Rattle.mysql_flat_params.specs.FlatForm.{IsFormReading}
use Rattle.mysql_flat_params.specs.FormParams.{given_in_place}
use Rattle.mysql_flat_params.proofs.RowsLemmas.{refused_in_room}
use Rattle.mysql_flat_params.proofs.StringRoomLemmas.{form_in_room}
use Rattle.mysql_flat_params.proofs.rows.bind_read.Goals as goal

pub fill_string-requires : goal.fill_string-requires
fill_string-requires c = record { measured = (given_by_borrowed c.borrowed_params.result, c.in-Ok.ensures.measured) }

pub returns-in-Ok : goal.returns-in-Ok
returns-in-Ok c = λ form reads.
    form_in_room c.args.surveyed.now.reading c.args.surveyed.now.query.now form (given_by_borrowed c.borrowed_params.result) c.args.room.now c.fill_string.new.room
    (subst (λ (g : Given). IsFormReading form (Ok g)) (sym c.borrowed_params.ensures) reads)
    c.fill_string.result (c.fill_string.ensures (given_by_borrowed c.borrowed_params.result) c.in-Ok.ensures.measured)

pub returns-in-Err : goal.returns-in-Err
returns-in-Err c = λ form reads.
    refused_in_room c.args.surveyed.now.reading c.args.surveyed.now.query.now form c.args.room.now c.bind_outcome.result c.bind_outcome.ensures.no_answer
    (c.bind_outcome.ensures.outcome form (given_in_place c.args.params.now) reads
    (subst (λ (g : Given). OnTokensIn c.args.surveyed.now.reading c.args.surveyed.now.query.now (λ ts. IsCauseOrMemory (first_cause ts g) c.in-Err.error))
    c.borrowed_params.ensures c.in-Err.ensures.refused))
