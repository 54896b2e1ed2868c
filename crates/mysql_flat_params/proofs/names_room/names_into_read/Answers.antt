use Rattle.std.proofs.Common.{◌<◌, arith, refl}
use Rattle.mysql_flat_params.proofs.IntoRoomLemmas.{names_told, names_written}
use Rattle.mysql_flat_params.proofs.NamesRoomLemmas.{answered, gathered_told}
use Rattle.mysql_flat_params.proofs.names_room.names_into_read.Goals as goal
use Rattle.mysql_flat_params.proofs.names_room.names_into_read.Goals.{else-survey-gt0-via-then-survey-gt0+else-survey-gt0-2, else-survey-gt0-via-else-survey-gt0}

pub returns-clause-outcome : goal.returns-clause-outcome
returns-clause-outcome c =
    let unmixed : (0 < c.names_survey-survey.result.names) × (0 < c.names_survey-survey.result.marks) → ⊥ =
    elim c.else-survey-gt0.branch [
      | else-survey-gt0-via-then-survey-gt0+else-survey-gt0-2 w ↦ λ both. omega (arith, both.1, w.if-survey-gt0-2.false)
      | else-survey-gt0-via-else-survey-gt0 w ↦ λ both. omega (arith, both.0, w.if-survey-gt0.false)
    ] in
    let a = answered _ _ _ _ _ _ c.names_survey-survey.ensures.survey unmixed c.answer_in_room.ensures in
    names_told _ _ _ _ _ _ a.1 a.2

pub returns-clause-written : goal.returns-clause-written
returns-clause-written c =
    let unmixed : (0 < c.names_survey-survey.result.names) × (0 < c.names_survey-survey.result.marks) → ⊥ =
    elim c.else-survey-gt0.branch [
      | else-survey-gt0-via-then-survey-gt0+else-survey-gt0-2 w ↦ λ both. omega (arith, both.1, w.if-survey-gt0-2.false)
      | else-survey-gt0-via-else-survey-gt0 w ↦ λ both. omega (arith, both.0, w.if-survey-gt0.false)
    ] in
    let a = answered _ _ _ _ _ _ c.names_survey-survey.ensures.survey unmixed c.answer_in_room.ensures in
    names_written _ _ _ _ _ _ a.1 a.2

pub returns-then-has_names_alone-clause-outcome : goal.returns-then-has_names_alone-clause-outcome
returns-then-has_names_alone-clause-outcome c =
    let o = c.if-has_names_alone.ensures in
    let told = gathered_told _ _ _ _ _ (o.0, o.1, (o.2 refl).1) c.gathered_in_room.ensures in
    told.0

pub returns-then-has_names_alone-clause-written : goal.returns-then-has_names_alone-clause-written
returns-then-has_names_alone-clause-written c =
    let o = c.if-has_names_alone.ensures in
    let told = gathered_told _ _ _ _ _ (o.0, o.1, (o.2 refl).1) c.gathered_in_room.ensures in
    told.1
