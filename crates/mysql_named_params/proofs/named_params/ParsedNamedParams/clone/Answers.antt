use Rattle.std.proofs.Common.{◌≡◌, map, take, ap, ◌∙◌, refl, take_all}
use Rattle.std.specs.Cow.{cow_slice_items}
use Rattle.std.proofs.lemmas.List.Elements.{same_from_all_zip}
use Rattle.mysql_named_params.proofs.ParsedLemmas.{parsed_is}
use Rattle.mysql_named_params.proofs.named_params.ParsedNamedParams.clone.Goals as goal
use Rattle.mysql_named_params.proofs.named_params.ParsedNamedParams.clone.Goals.{in-Borrowed-query, in-Owned-query+in_ok-clone-in-Owned-query}

pub returns-clause-equal : goal.returns-clause-equal
returns-clause-equal c =
    let query : cow_slice_items c.match-self.query ≡ cow_slice_items c.self.inside.query =
    elim c.match-self.branch [
      | in-Borrowed-query w ↦ rw (w.query-is, w.in-Borrowed-query.is) refl
      | in-Owned-query+in_ok-clone-in-Owned-query w ↦ rw (w.query-is, w.in-Owned-query.is) (same_from_all_zip _ _ _ w.in_ok-clone-in-Owned-query.ensures.cases.0 (λ x y e. e))
    ] in
    let all : take c.loop-param.param-index c.deref-param-items.result.now ≡ c.self.inside.params.items = take_all _ _ c.loop-param-test.false ∙ c.deref-param-items.ensures.value in
    rw (← c.self.view_is) (parsed_is _ _ _ query (c.loop-param.invariant.same ∙ ap (map cow_slice_items) all))
