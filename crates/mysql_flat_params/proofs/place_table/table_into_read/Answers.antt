use Rattle.std.proofs.Common.{◌+◌, arith, refl}
use Rattle.std.proofs.lemmas.List.{length-take-le}
use Rattle.mysql_binding.proofs.SurveyedQueryLemmas.{on_survey}
use Rattle.mysql_flat_params.proofs.PlaceTableLemmas.{counted, table_made, no_table}
use Rattle.mysql_flat_params.proofs.place_table.table_into_read.Goals as goal

pub returns-then-len-eq0-clause-outcome : goal.returns-then-len-eq0-clause-outcome
returns-then-len-eq0-clause-outcome c = counted _ _ c.new-surveyed.result.survey (rw (c.new-surveyed.ensures.query, c.new-surveyed.ensures.reading) at (on_survey _ _ _ c.new-surveyed.result.surveyed))

pub returns-then-len-eq0-clause-made : goal.returns-then-len-eq0-clause-made
returns-then-len-eq0-clause-made c = (
  omega arith,
  no_table _ _ c.new-surveyed.result.survey (rw (c.new-surveyed.ensures.query, c.new-surveyed.ensures.reading) at (on_survey _ _ _ c.new-surveyed.result.surveyed)) c.head_of.result c.head_of.ensures (omega arith) _,
  refl,
)

pub returns-then-room-len-clause-outcome : goal.returns-then-room-len-clause-outcome
returns-then-room-len-clause-outcome c = counted _ _ c.new-surveyed.result.survey (rw (c.new-surveyed.ensures.query, c.new-surveyed.ensures.reading) at (on_survey _ _ _ c.new-surveyed.result.surveyed))

pub place_spans-requires : goal.place_spans-requires
place_spans-requires c =
    let n = c.new-surveyed.result.survey.names + c.new-surveyed.result.survey.marks in
    length-take-le n c.args.room.now (omega (arith, c.if-room-len.false))

pub returns-in-Ok-clause-outcome : goal.returns-in-Ok-clause-outcome
returns-in-Ok-clause-outcome c = counted _ _ c.new-surveyed.result.survey (rw (c.new-surveyed.ensures.query, c.new-surveyed.ensures.reading) at (on_survey _ _ _ c.new-surveyed.result.surveyed))

pub returns-in-Ok-clause-made : goal.returns-in-Ok-clause-made
returns-in-Ok-clause-made c =
    let n = c.new-surveyed.result.survey.names + c.new-surveyed.result.survey.marks in
    let made = table_made _ _ c.new-surveyed.result.survey (rw (c.new-surveyed.ensures.query, c.new-surveyed.ensures.reading) at (on_survey _ _ _ c.new-surveyed.result.surveyed)) c.head_of-in-Ok.result c.head_of-in-Ok.ensures
    c.place_spans.new.room c.args.room.now n (omega (arith, c.if-room-len.false))
    (omega (arith, c.place_spans.auto.room, length-take-le n c.args.room.now (omega (arith, c.if-room-len.false)))) (rw (c.new-surveyed.ensures.query, c.new-surveyed.ensures.reading) at c.in-Ok.ensures.spans) in
    (omega (arith, c.if-room-len.false), made.0, made.1)

pub returns-in-Err-clause-outcome : goal.returns-in-Err-clause-outcome
returns-in-Err-clause-outcome c =
    let o = counted _ _ c.new-surveyed.result.survey (rw (c.new-surveyed.ensures.query, c.new-surveyed.ensures.reading) at (on_survey _ _ _ c.new-surveyed.result.surveyed)) in
    (o.0, o.1, λ none. omega (arith, o.2, none, c.if-len-eq0.false))
