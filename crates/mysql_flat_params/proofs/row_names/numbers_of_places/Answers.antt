use Rattle.std.proofs.Common.{◌+◌, refl, arith}
use Rattle.mysql_binding.proofs.SurveyedQueryLemmas.{begin_with, counted_names}
use Rattle.mysql_flat_params.specs.RowNames.{names_of_pairs}
use Rattle.mysql_binding.proofs.FoundPlacesLemmas.{none_passed, one_passed}
use Rattle.mysql_flat_params.proofs.RowNamesLemmas.{numbered_none, number_left, numbered_more, numbered_all}
use Rattle.mysql_flat_params.proofs.row_names.numbers_of_places.Goals as goal

pub loop-rest-init : goal.loop-rest-init
loop-rest-init c = (
  numbered_none _ _ _ (names_of_pairs c.args.pairs.now) _ (counted_names _ _ c.args.surveyed.now.survey c.args.surveyed.now.surveyed c.requires.unmixed) c.in-Ok.ensures.items,
  none_passed _ _ _ _ c.in-Ok.ensures.items (begin_with _ _ _ c.args.surveyed.now.first),
)

pub unreachable-requires : goal.unreachable-requires
unreachable-requires c =
    let o = c.in_default-place_after.ensures.none in
    number_left _ _ _ _ _ _ c.loop-rest.invariant.0 (omega arith) (o.0, o.1, o.2 refl)

pub returns : goal.returns
returns c = numbered_all _ _ _ _ _ _ c.loop-rest.invariant.0 (omega arith)

pub loop-rest-preserved : goal.loop-rest-preserved
loop-rest-preserved c = (
  numbered_more _ _ _ _ _ _ c.loop-rest.invariant.0 _ _ _ c.in_ok-number.number _ _ (omega arith) c.in-Some.ensures.place
      c.cut.ensures.place c.cut.ensures.after c.in-Ok-push.ensures.items refl c.in_ok-number.ensures,
  one_passed c.args.surveyed.now.reading c.loop-rest.rest.now _ c.args.surveyed.now.known.now (c.in-Some.found.before + c.in-Some.found.len) c.len-in-loop-rest.result _ _ _ c.in-Ok-push.ensures.items c.cut.ensures.after (omega arith) c.in-Some.ensures.next,
)
