use Rattle.mysql_named_params.specs.Places.{names}
use Rattle.mysql_params_core.specs.Given.{named}
use Rattle.mysql_params_core.specs.GivenBorrowed.{pair_map}
use Rattle.mysql_binding.proofs.SurveyedQueryLemmas.{on_survey}
use Rattle.mysql_flat_params.proofs.RowNamesLemmas.{found_in_query}
use Rattle.mysql_flat_params.proofs.RowsLemmas.{refused_in_room}
use Rattle.mysql_flat_params.proofs.StringRoomLemmas.{form_in_room}
use Rattle.mysql_flat_params.proofs.rows.bind_found.Goals as goal

pub place_values-requires : goal.place_values-requires
place_values-requires c =
    let (ts, is, (unmixed, some, at)) = c.requires.found.at_places in
    (names ts, at)

pub bind_outcome-requires : goal.bind_outcome-requires
bind_outcome-requires c = (
  named (pair_map c.args.found.pairs.items),
  c.in-Err.ensures.refused c.args.surveyed.now.reading c.args.surveyed.now.query.now (named (pair_map c.args.found.pairs.items)) (on_survey _ _ _ c.args.surveyed.now.surveyed)
      (rw c.as_slice.ensures.value (found_in_query c.args.surveyed.now.reading c.args.surveyed.now.query.now c.args.found c.in-Some.values.items c.requires.found c.in-Some.ensures)),
)

pub fill_string-outcome-requires : goal.fill_string-outcome-requires
fill_string-outcome-requires c = record {
  measured = (
    named (pair_map c.args.found.pairs.items),
    c.in-Ok.ensures.measured c.args.surveyed.now.reading c.args.surveyed.now.query.now (named (pair_map c.args.found.pairs.items)) (on_survey _ _ _ c.args.surveyed.now.surveyed)
        (rw c.as_slice.ensures.value (found_in_query c.args.surveyed.now.reading c.args.surveyed.now.query.now c.args.found c.in-Some.values.items c.requires.found c.in-Some.ensures)),
  );
}

pub returns-in-Err-clause-form : goal.returns-in-Err-clause-form
returns-in-Err-clause-form c = λ form reads.
    refused_in_room c.args.surveyed.now.reading c.args.surveyed.now.query.now form c.args.room.now c.bind_outcome.result c.bind_outcome.ensures.no_answer
    (c.bind_outcome.ensures.outcome form (named (pair_map c.args.found.pairs.items)) reads
    (c.in-Err.ensures.refused c.args.surveyed.now.reading c.args.surveyed.now.query.now (named (pair_map c.args.found.pairs.items)) (on_survey _ _ _ c.args.surveyed.now.surveyed)
    (rw c.as_slice.ensures.value (found_in_query c.args.surveyed.now.reading c.args.surveyed.now.query.now c.args.found c.in-Some.values.items c.requires.found c.in-Some.ensures))))

pub returns-clause-form : goal.returns-clause-form
returns-clause-form c = λ form reads.
    form_in_room c.args.surveyed.now.reading c.args.surveyed.now.query.now form (named (pair_map c.args.found.pairs.items)) c.args.room.now c.fill_string-outcome.new.room reads
    c.fill_string-outcome.result
    (c.fill_string-outcome.ensures (named (pair_map c.args.found.pairs.items))
    (c.in-Ok.ensures.measured c.args.surveyed.now.reading c.args.surveyed.now.query.now (named (pair_map c.args.found.pairs.items)) (on_survey _ _ _ c.args.surveyed.now.surveyed)
    (rw c.as_slice.ensures.value (found_in_query c.args.surveyed.now.reading c.args.surveyed.now.query.now c.args.found c.in-Some.values.items c.requires.found c.in-Some.ensures))))
