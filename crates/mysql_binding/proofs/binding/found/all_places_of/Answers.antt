use Rattle.std.proofs.Common.{◌+◌, refl, arith}
use Rattle.mysql_binding.proofs.FoundPlacesLemmas.{none_passed, one_passed, collected_none, place_left, collected_more, collected_all}
use Rattle.mysql_binding.proofs.SurveyedQueryLemmas.{begin_with, counted_places}
use Rattle.mysql_binding.proofs.binding.found.all_places_of.Goals as goal

pub loop-rest-init : goal.loop-rest-init
loop-rest-init c =
    let surveyed = c.args.surveyed.now in (
      collected_none _ _ _ _ (counted_places _ _ surveyed.survey surveyed.surveyed) c.in_ok-places.ensures.items,
      none_passed _ _ _ _ c.in_ok-places.ensures.items (begin_with _ _ _ surveyed.first),
    )

pub unreachable-requires : goal.unreachable-requires
unreachable-requires c =
    let o = c.in_default.ensures.none in
    place_left _ _ _ _ _ c.loop-rest.invariant.0 (omega arith) (o.0, o.1, o.2 refl)

pub returns-clause-places : goal.returns-clause-places
returns-clause-places c = collected_all _ _ _ _ _ c.loop-rest.invariant.0 (omega arith)

pub loop-rest-preserved : goal.loop-rest-preserved
loop-rest-preserved c = (
  collected_more _ _ _ _ _ c.loop-rest.invariant.0 _ _ _ c.in-Some.ensures.place c.cut.ensures.after c.in_ok-push.ensures.items,
  one_passed c.args.surveyed.now.reading c.loop-rest.rest.now _ c.args.surveyed.now.known.now (c.in-Some.found.before + c.in-Some.found.len) c.len-in-loop-rest.result _ _ _ c.in_ok-push.ensures.items c.cut.ensures.after (omega arith) c.in-Some.ensures.next,
)
