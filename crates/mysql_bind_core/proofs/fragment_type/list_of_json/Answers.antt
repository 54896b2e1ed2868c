use Rattle.std.proofs.Common.{map, ◌≡◌, ◌∙◌, ◌<◌, ap, sym, length, rules, arith, None, Some}
use Rattle.std.specs.Prelude.{option_map}
use Rattle.std.proofs.lemmas.List.{length-map}
use Rattle.json.specs.Json.{array}
use Rattle.json.specs.Value.{items_of, value_view}
use Rattle.mysql_bind_core.specs.Contents.{all_of, item_of, item_said, list_content, list_of_json}
use Rattle.mysql_bind_core.proofs.ContentLemmas.{list_of_array, view_of_array}
use Rattle.mysql_bind_core.proofs.fragment_type.list_of_json.Goals as goal

pub returns-in-Some : goal.returns-in-Some
returns-in-Some c =
    let values = c.in-Array.values.items in
    let nonempty : 0 < length values = search rules in
    let some : 0 < length (map value_view values) = omega (arith, length-map values value_view, nonempty) in
    let all : all_of item_of (map value_view values) ≡ Some (map item_said c.in-Some.items.items) = search rules in
    let is_array : value_view c.args.json.now ≡ array (items_of (map value_view values)) = ap value_view c.in-Array.is ∙ view_of_array c.in-Array.values in
    sym (ap (λ j. list_of_json (Some j)) is_array ∙ list_of_array (map value_view values) some ∙ ap (option_map list_content) all)

pub returns-in-None : goal.returns-in-None
returns-in-None c =
    let values = c.in-Array.values.items in
    let nonempty : 0 < length values = search rules in
    let some : 0 < length (map value_view values) = omega (arith, length-map values value_view, nonempty) in
    let all : all_of item_of (map value_view values) ≡ None = search rules in
    let is_array : value_view c.args.json.now ≡ array (items_of (map value_view values)) = ap value_view c.in-Array.is ∙ view_of_array c.in-Array.values in
    sym (ap (λ j. list_of_json (Some j)) is_array ∙ list_of_array (map value_view values) some ∙ ap (option_map list_content) all)
