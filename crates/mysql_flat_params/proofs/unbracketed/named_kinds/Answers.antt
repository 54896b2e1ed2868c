use Rattle.std.proofs.Common.{◌≡◌, ◌+◌, ◌++◌, [], ◌∷◌, ap, arith, length, map, refl, sym, ◌∙◌}
use Rattle.std.proofs.lemmas.List.{length-map, map-append}
use Rattle.mysql_named_params.specs.Places.{names}
use Rattle.mysql_named_params.proofs.TokenEndLemmas.{slice_from}
use Rattle.mysql_binding.proofs.FoundPlacesLemmas.{none_passed, one_passed}
use Rattle.mysql_binding.proofs.NameListLemmas.{listed_all, listed_more, listed_none, name_left}
use Rattle.mysql_binding.proofs.SurveyedQueryLemmas.{begin_with}
use Rattle.mysql_flat_params.specs.KindsInPlace.{kind_under}
use Rattle.mysql_flat_params.proofs.PlacedLemmas.{unmixed_too}
use Rattle.mysql_flat_params.proofs.unbracketed.named_kinds.Goals as goal

pub loop-rest-init : goal.loop-rest-init
loop-rest-init c = (
  (
    [],
    (let o = c.requires in listed_none _ _ _ [] (o.0, o.1, ((c.args.surveyed.now.surveyed o.0 o.1).0, unmixed_too o.0 o.2)) refl),
    c.in_ok-list.ensures.items,
  ),
  none_passed _ _ _ _ c.in_ok-list.ensures.items (begin_with _ _ _ c.args.surveyed.now.first),
)

pub unreachable-requires : goal.unreachable-requires
unreachable-requires c =
    let (names, listed, kinds) = c.loop-rest.invariant.0 in
    let o = c.in_default.ensures.none in
    name_left _ _ _ _ names listed (omega (arith, ap length kinds, length-map names (kind_under c.args.by_name.now.entries), c.loop-rest-test.true, c.loop-rest.list.ok.0)) (o.0, o.1, o.2 refl)

pub loop-rest-preserved : goal.loop-rest-preserved
loop-rest-preserved c =
    let ((listed_names, listed, kinds), known) = c.loop-rest.invariant in
    let under = kind_under c.args.by_name.now.entries in
    let long : length listed_names ≡ length c.loop-rest.list.items = omega (arith, ap length kinds, length-map listed_names under) in
    let name = slice_from 1 c.cut.result.1.now in
    let pushed : c.push.new.self.items ≡ c.loop-rest.list.items ++ c.named_kind.result ∷ [] = c.in_ok-push.ensures.items in (
      (
        listed_names ++ name ∷ [],
        listed_more _ _ _ _ listed_names listed c.cut.result.1.now c.cut.result.2.now name c.in-Some.found
            (omega (arith, long, c.loop-rest-test.true, c.loop-rest.list.ok.0)) c.in-Some.ensures.place c.cut.ensures.place c.cut.ensures.after refl,
        pushed ∙ (ap (λ l. l ++ c.named_kind.result ∷ []) kinds ∙ (ap (λ k. map under listed_names ++ k ∷ []) c.named_kind.ensures ∙ sym (map-append under listed_names (name ∷ [])))),
      ),
      one_passed c.args.surveyed.now.reading c.loop-rest.rest.now _ c.args.surveyed.now.known.now (c.in-Some.found.before + c.in-Some.found.len) c.len-in-loop-rest.result _ _ _
          pushed c.cut.ensures.after (omega arith) c.in-Some.ensures.next,
    )

pub returns : goal.returns
returns c =
    let (listed_names, listed, kinds) = c.loop-rest.invariant.0 in
    let under = kind_under c.args.by_name.now.entries in
    let o = listed_all _ _ _ _ listed_names listed (omega (arith, ap length kinds, length-map listed_names under, c.loop-rest-test.false, c.loop-rest.list.ok.0)) in
    (o.0, o.1, kinds ∙ ap (map under) o.2)
