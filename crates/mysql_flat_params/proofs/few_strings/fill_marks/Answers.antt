use Rattle.std.proofs.Common.{◌+◌, drop, refl, rules, arith}
use Rattle.mysql_value_core.specs.declared.value.ValueRef.TheVariants.{NULL}
use Rattle.mysql_binding.specs.FoundPlaces.{BeginWithPlaces}
use Rattle.mysql_binding.proofs.FoundPlacesLemmas.{rest_after}
use Rattle.mysql_binding.proofs.WrittenTextLemmas.{written_none}
use Rattle.mysql_binding.proofs.FilledTextLemmas.{owned_all, owned_below, owned_read, fill_place_left, fill_no_float, fill_len, piece_fits, literal_fits, filled_more, last_fits, filled_all}
use Rattle.mysql_binding.proofs.SurveyedQueryLemmas.{begin_with}
use Rattle.mysql_flat_params.proofs.few_strings.fill_marks.Goals as goal

pub loop-i-init : goal.loop-i-init
loop-i-init g c = (
  record {
    so_far = written_none _ _ _ _ _ _ _ _ c.requires.places c.requires.no_float c.requires.lens c.requires.room refl;
    in_range = omega arith;
  },
  begin_with _ _ _ c.args.surveyed.now.first,
)

pub unreachable-requires : goal.unreachable-requires
unreachable-requires g c =
    let o = c.in_default.ensures.none in
    fill_place_left _ _ _ _ _ _ _ _ _ c.loop-i.invariant.0 (owned_below c.args.values.now c.loop-i.i c.loop-i-test.true) (o.0, o.1, o.2 refl)

pub append_piece-at-requires : goal.append_piece-at-requires
append_piece-at-requires g c =
    piece_fits _ _ _ _ _ _ _ _ _ c.loop-i.invariant.0 (owned_below c.args.values.now c.loop-i.i c.loop-i-test.true) _ (owned_read c.args.values.now c.loop-i.i NULL c.loop-i-test.true) _ c.in-Some.ensures.place _ c.cut.ensures.before

pub append_literal-at-requires-clause-no_float : goal.append_literal-at-requires-clause-no_float
append_literal-at-requires-clause-no_float g c =
    fill_no_float _ _ _ _ _ _ _ _ _ c.loop-i.invariant.0 (owned_below c.args.values.now c.loop-i.i c.loop-i-test.true) _ (owned_read c.args.values.now c.loop-i.i NULL c.loop-i-test.true)

pub append_literal-at-requires-clause-len : goal.append_literal-at-requires-clause-len
append_literal-at-requires-clause-len g c =
    fill_len _ _ _ _ _ _ _ _ _ c.loop-i.invariant.0 (owned_below c.args.values.now c.loop-i.i c.loop-i-test.true) _ (owned_read c.args.values.now c.loop-i.i NULL c.loop-i-test.true) _ c.requires.lens

pub append_literal-at-requires-clause-room : goal.append_literal-at-requires-clause-room
append_literal-at-requires-clause-room g c =
    literal_fits _ _ _ _ _ _ _ _ _ c.loop-i.invariant.0 (owned_below c.args.values.now c.loop-i.i c.loop-i-test.true) _ (owned_read c.args.values.now c.loop-i.i NULL c.loop-i-test.true) _ c.in-Some.ensures.place _ c.cut.ensures.before
    _ _ c.append_piece-at.ensures.next (search rules) c.append_piece-at.ensures.front _
    (fill_len _ _ _ _ _ _ _ _ _ c.loop-i.invariant.0 (owned_below c.args.values.now c.loop-i.i c.loop-i-test.true) _ (owned_read c.args.values.now c.loop-i.i NULL c.loop-i-test.true) _ c.requires.lens)

pub loop-i-preserved : goal.loop-i-preserved
loop-i-preserved g c = (
  filled_more _ _ _ _ _ _ _ _ _ c.loop-i.invariant.0 (owned_below c.args.values.now c.loop-i.i c.loop-i-test.true) _ (owned_read c.args.values.now c.loop-i.i NULL c.loop-i-test.true) _ c.in-Some.ensures.place _ c.cut.ensures.before
      _ _ c.append_piece-at.ensures.next (search rules) c.append_piece-at.ensures.front _ _ _ _ c.cut.ensures.after
      (fill_len _ _ _ _ _ _ _ _ _ c.loop-i.invariant.0 (owned_below c.args.values.now c.loop-i.i c.loop-i-test.true) _ (owned_read c.args.values.now c.loop-i.i NULL c.loop-i-test.true) _ c.requires.lens)
      c.append_literal-at.ensures.next (search rules) c.append_literal-at.ensures.literal c.append_literal-at.ensures.known
      c.append_literal-at.ensures.front,
  rest_after c.args.surveyed.now.reading c.loop-i.rest.now _ (c.in-Some.found.before + c.in-Some.found.len) (BeginWithPlaces (drop (c.loop-i.i + 1) c.args.surveyed.now.known.now)) c.cut.ensures.after c.in-Some.ensures.next,
)

pub append_piece-requires : goal.append_piece-requires
append_piece-requires g c = omega (arith, last_fits _ _ _ _ _ _ _ _ _ c.loop-i.invariant.0 (owned_all c.args.values.now c.loop-i.i c.loop-i-test.false))

pub returns : goal.returns
returns g c =
    filled_all _ _ _ _ _ _ _ _ _ c.loop-i.invariant.0 (owned_all c.args.values.now c.loop-i.i c.loop-i-test.false) _ _ c.append_piece.ensures.next (search rules) c.append_piece.ensures.front
