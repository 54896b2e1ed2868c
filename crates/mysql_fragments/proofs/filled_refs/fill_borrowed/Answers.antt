use Rattle.std.proofs.Common.{◌+◌, drop, refl, arith}
use Rattle.mysql_binding.specs.FoundPlaces.{BeginWithPlaces}
use Rattle.mysql_binding.proofs.FoundPlacesLemmas.{rest_after}
use Rattle.mysql_binding.proofs.SurveyedQueryLemmas.{begin_with}
use Rattle.mysql_fragments.specs.BorrowedText.{borrowed_values}
use Rattle.mysql_fragments.proofs.FilledLemmas.{known_all, known_step}
use Rattle.mysql_fragments.proofs.FillLemmas.{filled_none, fill_place_left, piece_fits, fragment_fits, filled_more, last_fits, filled_all}
use Rattle.mysql_fragments.proofs.filled_refs.fill_borrowed.Goals as goal

pub loop-i-init : goal.loop-i-init
loop-i-init g c = (filled_none _ _ _ c.args.fragments.now _ c.requires.places c.requires.room, (begin_with _ _ _ c.args.surveyed.now.first), tt)

pub unreachable-requires : goal.unreachable-requires
unreachable-requires g c =
    let o = c.in_default.ensures.none in
    fill_place_left _ _ _ _ c.args.fragments.now _ _ _ c.loop-i.invariant.0 c.loop-i-test.true (o.0, o.1, o.2 refl)

pub append_piece-at-requires : goal.append_piece-at-requires
append_piece-at-requires g c = piece_fits _ _ _ _ c.args.fragments.now _ _ _ c.loop-i.invariant.0 c.loop-i-test.true _ c.index-fragments-i.is _ c.in-Some.ensures.place _ c.cut.ensures.before

pub append_borrowed-at-requires : goal.append_borrowed-at-requires
append_borrowed-at-requires g c = record {
  room = fragment_fits _ _ _ _ c.args.fragments.now _ _ _ c.loop-i.invariant.0 c.loop-i-test.true _ c.index-fragments-i.is _ c.in-Some.ensures.place _ c.cut.ensures.before
      _ _ c.append_piece-at.ensures.next c.append_piece-at.auto.text c.append_piece-at.ensures.front;
}

pub loop-i-preserved : goal.loop-i-preserved
loop-i-preserved g c = (
  filled_more _ _ _ _ c.args.fragments.now _ _ _ c.loop-i.invariant.0 c.loop-i-test.true _ c.index-fragments-i.is _ c.in-Some.ensures.place _ c.cut.ensures.before
      _ _ c.append_piece-at.ensures.next c.append_piece-at.auto.text c.append_piece-at.ensures.front _ _ _ c.cut.ensures.after
      c.append_borrowed-at.ensures.next c.append_borrowed-at.auto.text c.append_borrowed-at.ensures.front,
  rest_after c.args.surveyed.now.reading c.loop-i.rest.now _ (c.in-Some.found.before + c.in-Some.found.len) (BeginWithPlaces (drop (c.loop-i.i + 1) c.args.surveyed.now.known.now)) c.cut.ensures.after c.in-Some.ensures.next,
  known_step (g.F.LiteralForm.literal c.args.form.now) (g.F.LiteralForm.IsKnown c.args.form.now) borrowed_values c.args.fragments.now c.loop-i.i c.index-fragments-i.result
      c.loop-i-test.true c.index-fragments-i.is c.loop-i.invariant.2 c.append_borrowed-at.ensures.known,
)

pub append_piece-requires : goal.append_piece-requires
append_piece-requires g c = omega (arith, last_fits _ _ _ _ c.args.fragments.now _ _ _ c.loop-i.invariant.0 c.loop-i-test.false)

pub returns-clause-text : goal.returns-clause-text
returns-clause-text g c = filled_all _ _ _ _ c.args.fragments.now _ _ _ c.loop-i.invariant.0 c.loop-i-test.false _ _ c.append_piece.ensures.next c.append_piece.auto.text c.append_piece.ensures.front

pub returns-clause-known : goal.returns-clause-known
returns-clause-known g c =
    known_all (g.F.LiteralForm.literal c.args.form.now) (g.F.LiteralForm.IsKnown c.args.form.now) borrowed_values c.args.fragments.now c.loop-i.i
    c.loop-i-test.false c.loop-i.invariant.2
