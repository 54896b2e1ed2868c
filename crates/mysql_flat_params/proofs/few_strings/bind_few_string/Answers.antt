use Rattle.std.proofs.Common.{◌≡◌, ◌∙◌, length, refl, sym, arith}
use Rattle.std.proofs.lemmas.List.{length-map, length-take-le}
use Rattle.mysql_values.specs.BorrowedValue.{owned, owned_values}
use Rattle.mysql_params_core.specs.Given.{positional}
use Rattle.mysql_binding.proofs.SurveyedQueryLemmas.{on_survey}
use Rattle.mysql_flat_params.proofs.FewValuesLemmas.{value_for_each, values_looked_up}
use Rattle.mysql_flat_params.proofs.StringRoomLemmas.{form_if_string}
use Rattle.mysql_flat_params.proofs.few_strings.bind_few_string.Goals as goal

pub write_string-requires : goal.write_string-requires
write_string-requires c =
    let survey = c.args.surveyed.now.survey in
    let reading = c.args.surveyed.now.reading in
    let query = c.args.surveyed.now.query.now in
    let values = owned_values c.read_values.new.values in
    let marks : length c.read_values.new.values ≡ survey.marks = c.read_values.auto.values ∙ length-take-le _ _ (c.if-not-has_few_marks.ensures.few refl) in
    let as_many : survey.marks ≡ length values = sym (length-map c.read_values.new.values owned ∙ marks) in
    let surveyed = on_survey _ _ _ c.args.surveyed.now.surveyed in
    record {
      few = omega (arith, marks, c.if-not-has_few_marks.ensures.few refl);
      places = value_for_each survey reading query surveyed values (c.if-not-has_few_marks.ensures.no_names refl) as_many;
      looked_up = values_looked_up survey reading query surveyed values (c.if-not-has_few_marks.ensures.no_names refl) as_many (c.if-not-has_few_marks.ensures.alone refl);
    }

pub returns-clause-string : goal.returns-clause-string
returns-clause-string c =
    form_if_string c.args.surveyed.now.reading c.args.surveyed.now.query.now c.args.form.now (positional (owned_values c.read_values.new.values)) c.args.room.now c.write_string.new.room
    (c.if-not-read_values.ensures.read refl) c.write_string.result c.write_string.ensures.string
