use Rattle.std.proofs.Common.{arith}
use Rattle.mysql_binding.proofs.SurveyedQueryLemmas.{on_survey}
use Rattle.mysql_fragments.proofs.RoomLemmas.{places_of}
use Rattle.mysql_fragments.proofs.filled_refs.filled_borrowed.Goals as goal

pub fill_borrowed-requires-clause-places : goal.fill_borrowed-requires-clause-places
fill_borrowed-requires-clause-places g c =
    places_of c.args.surveyed.now.reading c.args.surveyed.now.query.now c.args.surveyed.now.survey c.args.fragments.now (on_survey _ _ _ c.args.surveyed.now.surveyed) c.requires.places

pub fill_borrowed-requires-clause-room : goal.fill_borrowed-requires-clause-room
fill_borrowed-requires-clause-room g c =
    let o = on_survey _ _ _ c.args.surveyed.now.surveyed in
    (o.0, o.1, omega (arith, o.2.3, c.in-Some.ensures.len, c.as_mut_slice.ensures.len, c.in_ok-text.ensures.len))
