use Rattle.std.proofs.Common.{map, ◌≡◌, ◌∙◌, ◌+◌, ◌++◌, ◌∷◌, [], ap, subst, sym, drop, rules, None, Some}
use Rattle.std.proofs.lemmas.List.{map-append}
use Rattle.json.specs.Value.{value_view}
use Rattle.mysql_bind_core.specs.Contents.{all_of, item_of, item_said}
use Rattle.mysql_bind_core.proofs.ContentLemmas.{before, one_more_of, one_none_of}
use Rattle.mysql_bind_core.proofs.fragment_type.items_of.Goals as goal

pub returns-in-None : goal.returns-in-None
returns-in-None c =
    let none : item_of (value_view c.json-item.result) ≡ None = search rules in
    sym (one_none_of value_view item_of c.args.values.now c.loop-json.json-index c.json-item.result (map item_said c.loop-json.items.items)
    c.loop-json-test.true c.json-item.is c.loop-json.invariant none)

pub loop-json-preserved : goal.loop-json-preserved
loop-json-preserved c =
    let values = map value_view c.args.values.now in
    let next = c.loop-json.json-index + 1 in
    let found : item_of (value_view c.json-item.result) ≡ Some (item_said c.in-Some.item) = search rules in
    let pushed : c.push.new.self.items ≡ c.loop-json.items.items ++ c.in-Some.item ∷ [] = search rules in
    subst (λ front. all_of item_of values ≡ before front (all_of item_of (drop next values)))
    (sym (ap (map item_said) pushed ∙ map-append item_said c.loop-json.items.items (c.in-Some.item ∷ [])))
    (one_more_of value_view item_of c.args.values.now c.loop-json.json-index c.json-item.result (map item_said c.loop-json.items.items)
    c.loop-json-test.true c.json-item.is c.loop-json.invariant (item_said c.in-Some.item) found)
