use Rattle.mysql_binding.proofs.SurveyedQueryLemmas.{on_survey}
use Rattle.mysql_flat_params.specs.RowNames.{names_of_pairs}
use Rattle.mysql_flat_params.proofs.RowNamesLemmas.{some_unmixed, places_found}
use Rattle.mysql_flat_params.proofs.row_names.FoundNames.of_form.Goals as goal

pub returns : goal.returns
returns c = record {
  some = c.in_ok-pairs.ensures.0;
  own = c.in_ok-pairs.ensures.1;
  at_places = places_found c.args.surveyed.now.reading c.args.surveyed.now.query.now (names_of_pairs c.in_ok-pairs.pairs.items) c.in_ok-places.places.items
      (some_unmixed c.args.surveyed.now.reading c.args.surveyed.now.query.now c.args.surveyed.now.survey (on_survey _ _ _ c.args.surveyed.now.surveyed) c.if-surveyed-eq0.false c.if-surveyed-gt0.false)
      (rw c.as_slice.ensures.value at c.in_ok-places.ensures);
}

pub numbers_of_places-requires : goal.numbers_of_places-requires
numbers_of_places-requires c =
    let o = some_unmixed c.args.surveyed.now.reading c.args.surveyed.now.query.now c.args.surveyed.now.survey (on_survey _ _ _ c.args.surveyed.now.surveyed) c.if-surveyed-eq0.false c.if-surveyed-gt0.false in
    record { unmixed = (o.0, o.1, o.2.0) }
