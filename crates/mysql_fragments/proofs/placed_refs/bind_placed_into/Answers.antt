use Rattle.std.proofs.Common.{refl, arith}
use Rattle.std.proofs.lemmas.List.{length-take-le}
use Rattle.mysql_binding.specs.LiteralForm.{written_literal}
use Rattle.mysql_binding.proofs.SurveyedQueryLemmas.{on_survey}
use Rattle.mysql_fragments.proofs.RoomLemmas.{placed_length, placed_text, places_of, room_of, text_too_long}
use Rattle.mysql_fragments.proofs.placed_refs.bind_placed_into.Goals as goal

pub returns-in_err-len-clause-too_long : goal.returns-in_err-len-clause-too_long
returns-in_err-len-clause-too_long g c = λ none said s.
    text_too_long (g.F.LiteralForm.literal c.args.form.now) c.args.surveyed.now.reading c.args.surveyed.now.query.now c.args.surveyed.now.survey (on_survey _ _ _ c.args.surveyed.now.surveyed) c.args.placed.now said s
    (c.in_err-len.ensures.too_long refl)

pub returns-then-room-len-clause-text : goal.returns-then-room-len-clause-text
returns-then-room-len-clause-text g c = λ given said s p.
    let h = placed_length (g.F.LiteralForm.literal c.args.form.now) c.args.surveyed.now.reading c.args.surveyed.now.query.now c.args.surveyed.now.survey (on_survey _ _ _ c.args.surveyed.now.surveyed) c.args.placed.now said s given p
    c.in_ok-len.len c.in_ok-len.ensures.len c.in_ok-len.ensures.known in
    (h.0, h.1, (omega (arith, c.if-room-len.true), h.2, refl))

pub fill_borrowed-requires : goal.fill_borrowed-requires
fill_borrowed-requires g c = record {
  places = places_of c.args.surveyed.now.reading c.args.surveyed.now.query.now c.args.surveyed.now.survey c.args.placed.now (on_survey _ _ _ c.args.surveyed.now.surveyed) c.requires.places;
  room =
      room_of c.args.surveyed.now.reading (written_literal (g.F.LiteralForm.literal c.args.form.now)) c.args.surveyed.now.query.now c.args.surveyed.now.survey c.args.placed.now
      c.in_ok-len.len c.args.room.now (on_survey _ _ _ c.args.surveyed.now.surveyed) c.in_ok-len.ensures.len (omega (arith, c.if-room-len.false));
}

pub returns-clause-text : goal.returns-clause-text
returns-clause-text g c = λ given said s p.
    placed_text (g.F.LiteralForm.literal c.args.form.now) c.args.surveyed.now.reading c.args.surveyed.now.query.now c.args.surveyed.now.survey (on_survey _ _ _ c.args.surveyed.now.surveyed) c.args.placed.now said s given p
    c.in_ok-len.len (g.F.LiteralForm.IsKnown c.args.form.now) c.fill_borrowed.new.text c.args.room.now (omega (arith, c.if-room-len.false))
    (omega (arith, c.fill_borrowed.auto.text, c.if-room-len.false, length-take-le c.in_ok-len.len c.args.room.now (omega (arith, c.if-room-len.false))))
    c.fill_borrowed.ensures.text c.fill_borrowed.ensures.known
