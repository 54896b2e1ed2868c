use Rattle.std.specs.Prelude.{Ok}
use Rattle.std.proofs.Common.{◌≡◌, ◌∙◌, ap, map, refl, subst, sym}
use Rattle.mysql_params_core.specs.Given.{named}
use Rattle.mysql_params_core.specs.Lookup.{lookup}
use Rattle.mysql_binding.specs.PlaceSpans.{names_at}
use Rattle.mysql_binding.proofs.FoundValueLemmas.{looked_up_in_map}
use Rattle.mysql_binding.proofs.SpanValueLemmas.{found_none, found_more, found_at_all, some_name_spans}
use Rattle.mysql_binding.proofs.binding.spans.values_in_at.Goals as goal

pub loop-span-init : goal.loop-span-init
loop-span-init g c = found_none _ _ _ _ _ c.name_spans-spans.ensures.fit c.in_ok-kept.ensures.items

pub loop-span-preserved : goal.loop-span-preserved
loop-span-preserved g c =
    found_more _ _ _ _ _ _ _ c.loop-span.invariant _ c.loop-span-test.true _ _ _ _ _ c.cut.ensures.place c.cut.ensures.after refl (looked_up_in_map _ _ _ c.in-Some.ensures) c.in_ok-push.ensures.items

pub returns : goal.returns
returns g c =
    subst (λ spans. lookup (named (g.M.KeptValues.values c.args.entries.now)) (names_at spans c.args.spanned.now.query.now) ≡ Ok (map (g.M.KeptValues.value c.args.entries.now) c.loop-span.kept.items)) c.name_spans-spans.ensures.spans
    (found_at_all _ _ _ _ _ _ _ c.loop-span.invariant c.loop-span-test.false (some_name_spans c.args.spanned.now _ c.name_spans-spans.ensures.spans c.requires.some))
    ∙ ap (λ values. Ok values) (sym c.placed.ensures)
