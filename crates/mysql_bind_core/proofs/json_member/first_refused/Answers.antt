use Rattle.std.proofs.Common.{rules, ◌≡◌, ◌∙◌, ◌+◌, sym, ap, map, drop, None, Some}
use Rattle.std.specs.Option.{option_or}
use Rattle.json.specs.Value.{value_view}
use Rattle.mysql_bind_core.specs.JsonMembers.{first_refused, refused_type}
use Rattle.mysql_bind_core.proofs.JsonMemberLemmas.{first_value_at}
use Rattle.mysql_bind_core.proofs.json_member.first_refused.Goals as goal

pub returns-in-Some : goal.returns-in-Some
returns-in-Some c =
    let d = c.args.decimals in
    let values = c.args.items.now in
    let i = c.loop-json.json-index in
    let found : refused_type d (value_view c.json-item.result) ≡ Some c.in-Some.value_type = search rules in
    sym (c.loop-json.invariant ∙ first_value_at d values i c.json-item.result c.loop-json-test.true c.json-item.is
    ∙ ap (λ o. option_or o (first_refused d (drop (i + 1) (map value_view values)))) found)

pub loop-json-preserved : goal.loop-json-preserved
loop-json-preserved c =
    let d = c.args.decimals in
    let values = c.args.items.now in
    let i = c.loop-json.json-index in
    let none : refused_type d (value_view c.json-item.result) ≡ None = search rules in
    c.loop-json.invariant ∙ first_value_at d values i c.json-item.result c.loop-json-test.true c.json-item.is
    ∙ ap (λ o. option_or o (first_refused d (drop (i + 1) (map value_view values)))) none
