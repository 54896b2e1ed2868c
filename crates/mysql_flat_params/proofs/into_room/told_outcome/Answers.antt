use Rattle.std.proofs.Common.{ap}
use Rattle.mysql_params_core.specs.Lookup.{missing}
use Rattle.mysql_binding.specs.BindErrors.{cause_of}
use Rattle.mysql_binding.specs.FirstCause.{refused_params}
use Rattle.mysql_flat_params.proofs.IntoRoomLemmas.{is_missing, refused_for, name_is_there, missing_told}
use Rattle.mysql_flat_params.proofs.into_room.told_outcome.Goals as goal

pub returns-in-Params-Missing-clause-outcome : goal.returns-in-Params-Missing-clause-outcome
returns-in-Params-Missing-clause-outcome c = λ form given reads o.
    missing_told c.args.reading c.args.query.now form c.as_slice.result.now c.missing_outcome.result
    (refused_for c.args.error (refused_params (missing c.as_slice.result.now))
    (is_missing _ _ _ _ c.in-Params-Missing.is c.in-Params-Missing.field-0-is c.as_slice.ensures.value)
    c.args.reading c.args.query.now form given reads o)
    c.missing_outcome.ensures.some

pub returns-in-Params-Missing-clause-none : goal.returns-in-Params-Missing-clause-none
returns-in-Params-Missing-clause-none c = λ why none.
    c.missing_outcome.ensures.none none
    (name_is_there c.args.reading c.args.query.now c.as_slice.result.now c.args.error
    (is_missing _ _ _ _ c.in-Params-Missing.is c.in-Params-Missing.field-0-is c.as_slice.ensures.value) why)

pub returns-in-Params-Missing-clause-other : goal.returns-in-Params-Missing-clause-other
returns-in-Params-Missing-clause-other c = λ none.
    (c.as_slice.result.now, is_missing _ _ _ _ c.in-Params-Missing.is c.in-Params-Missing.field-0-is c.as_slice.ensures.value, c.missing_outcome.ensures.absent none)

pub returns-in-MarkCount-clause-outcome : goal.returns-in-MarkCount-clause-outcome
returns-in-MarkCount-clause-outcome c = λ form given reads o.
    refused_for c.args.error _ (ap cause_of c.in-MarkCount.is) c.args.reading c.args.query.now form given reads o
