use Rattle.std.proofs.Common.{arith, ◌∙◌}
use Rattle.std.proofs.lemmas.List.{length-take-le}
use Rattle.mysql_values.specs.BorrowedValue.{owned_values}
use Rattle.mysql_values.specs.Literal.{literal_of}
use Rattle.mysql_params_core.specs.Given.{positional}
use Rattle.mysql_binding.specs.LiteralForm.{IsPlainLiteral}
use Rattle.mysql_binding.proofs.BoundTextLemmas.{given_on}
use Rattle.mysql_binding.proofs.SurveyedQueryLemmas.{on_survey}
use Rattle.mysql_flat_params.proofs.StringRoomLemmas.{string_written}
use Rattle.mysql_flat_params.proofs.few_strings.write_string.Goals as goal

pub fill_marks-requires : goal.fill_marks-requires
fill_marks-requires c = record {
  no_float = c.in_ok-len.ensures.no_float;
  places = c.requires.places;
  lens = c.in_ok-len.ensures.lens;
  room =
      let o = on_survey _ _ _ c.args.surveyed.now.surveyed in (
        o.0,
        o.1,
        length-take-le c.in_ok-len.len c.split_at_mut-front.result.1.now (omega (arith, c.split_at_mut-front.ensures.back_len, c.if-room-len.false, c.in_ok-len.ensures.fits))
            ∙ omega (arith, c.in_ok-len.ensures.len, o.2.3),
      );
}

pub returns-clause-string : goal.returns-clause-string
returns-clause-string c =
    let values = owned_values c.args.values.now in
    let reading = c.args.surveyed.now.reading in
    string_written reading c.args.surveyed.now.query.now (positional values) c.copy_from_slice.new.self c.fill_marks.new.text c.split_at_mut-front.result.1.now c.args.room.now
    c.length_lead-count.result.1 c.in_ok-len.len (c.copy_from_slice.ensures.after ∙ c.length_lead-count.ensures.spelled) c.length_lead-count.ensures.count
    (c.fill_marks.auto.text ∙ length-take-le c.in_ok-len.len c.split_at_mut-front.result.1.now (omega (arith, c.split_at_mut-front.ensures.back_len, c.if-room-len.false, c.in_ok-len.ensures.fits)))
    c.split_at_mut-front.ensures.back (omega (arith, c.if-room-len.false, c.in_ok-len.ensures.fits))
    (given_on reading (literal_of reading.no_backslash_escape) (IsPlainLiteral reading.no_backslash_escape) c.args.surveyed.now.query.now (positional values) values c.fill_marks.new.text
    (c.requires.looked_up c.in_ok-len.ensures.no_float) c.fill_marks.ensures)
