use Rattle.std.proofs.Common.{◌≡◌, ◌∙◌, sym, ap, subst, map}
use Rattle.std.specs.Prelude.{IfOk, option_map}
use Rattle.json.specs.Value.{value_view}
use Rattle.mysql_bind_core.specs.JsonMembers.{list_said, member_said}
use Rattle.mysql_bind_core.proofs.ContentLemmas.{list_of-items_of, view_of_array}
use Rattle.mysql_bind_core.proofs.json_member.member_parts.Goals as goal

pub returns-in-Array : goal.returns-in-Array
returns-in-Array c =
    let d = c.args.decimals in
    let values = c.in-Array.items.items in
    let said : member_said d (value_view c.args.json.now) ≡ list_said d (map value_view values) =
    ap (λ j. member_said d (value_view j)) c.in-Array.is ∙ ap (member_said d) (view_of_array c.in-Array.items)
    ∙ ap (list_said d) (list_of-items_of (map value_view values)) in
    subst (λ said. IfOk c.list_parts.result (λ found. option_map (λ parts. (parts.0, parts.1.items)) found ≡ said))
    (sym (said ∙ ap (λ vs. list_said d (map value_view vs)) (sym c.as_slice.ensures.value))) c.list_parts.ensures
