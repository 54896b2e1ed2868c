use Rattle.std.proofs.Common.{◌≡◌, ◌+◌, ◌∙◌, [], ap, arith, length, map, refl, sym}
use Rattle.std.specs.Prelude.{Ok}
use Rattle.mysql_params_core.specs.Given.{named}
use Rattle.mysql_params_core.specs.Lookup.{lookup}
use Rattle.mysql_binding.proofs.FoundPlacesLemmas.{none_passed, one_passed}
use Rattle.mysql_binding.proofs.FoundValueLemmas.{looked_up_all, looked_up_in_map, looked_up_length, looked_up_more, looked_up_none}
use Rattle.mysql_binding.proofs.NameListLemmas.{listed_none, name_left, listed_more, listed_all}
use Rattle.mysql_binding.proofs.SurveyedQueryLemmas.{begin_with, counted_names}
use Rattle.mysql_binding.proofs.binding.found.values_in.Goals as goal

pub loop-rest-init : goal.loop-rest-init
loop-rest-init g c =
    let surveyed = c.args.surveyed.now in (
      (
        [],
        listed_none _ _ _ [] (counted_names _ _ surveyed.survey surveyed.surveyed c.requires.unmixed) refl,
        looked_up_none (g.M.KeptValues.value c.args.entries.now) (named (g.M.KeptValues.values c.args.entries.now)) _ c.in_ok-kept.ensures.items,
      ),
      none_passed _ _ _ _ c.in_ok-kept.ensures.items (begin_with _ _ _ surveyed.first),
    )

pub unreachable-requires : goal.unreachable-requires
unreachable-requires g c =
    let o = c.in_default.ensures.none in
    let so_far = c.loop-rest.invariant.0 in
    name_left _ _ _ _ _ so_far.1 (omega (arith, looked_up_length (g.M.KeptValues.value c.args.entries.now) (named (g.M.KeptValues.values c.args.entries.now)) so_far.0 c.loop-rest.kept.items so_far.2)) (o.0, o.1, o.2 refl)

pub loop-rest-preserved : goal.loop-rest-preserved
loop-rest-preserved g c =
    let so_far = c.loop-rest.invariant.0 in (
      (
        _,
        listed_more _ _ _ _ _ so_far.1 _ _ _ _ (omega (arith, looked_up_length (g.M.KeptValues.value c.args.entries.now) (named (g.M.KeptValues.values c.args.entries.now)) so_far.0 c.loop-rest.kept.items so_far.2)) c.in-Some.ensures.place
            c.cut.ensures.place c.cut.ensures.after refl,
        looked_up_more (g.M.KeptValues.value c.args.entries.now) (named (g.M.KeptValues.values c.args.entries.now)) so_far.0 _ c.loop-rest.kept.items _ _ so_far.2 (looked_up_in_map _ _ _ c.in-Some-find.ensures) c.in_ok-push.ensures.items,
      ),
      one_passed c.args.surveyed.now.reading c.loop-rest.rest.now _ c.args.surveyed.now.known.now (c.in-Some.found.before + c.in-Some.found.len) c.len-in-loop-rest.result _ _ _ c.in_ok-push.ensures.items c.cut.ensures.after (omega arith) c.in-Some.ensures.next,
    )

pub returns : goal.returns
returns g c =
    let given = named (g.M.KeptValues.values c.args.entries.now) in
    let so_far = c.loop-rest.invariant.0 in
    let vs = c.loop-rest.kept.items in
    let as_many : length so_far.0 ≡ length vs = looked_up_length (g.M.KeptValues.value c.args.entries.now) given so_far.0 vs so_far.2 in
    let all = listed_all _ _ _ _ _ so_far.1 (omega (arith, as_many)) in
    (all.0, all.1, ap (lookup given) (sym all.2) ∙ (looked_up_all given so_far.0 (map (g.M.KeptValues.value c.args.entries.now) vs) (omega (arith, as_many, c.requires.some)) so_far.2 ∙ ap (λ values. Ok values) (sym c.placed.ensures)))
