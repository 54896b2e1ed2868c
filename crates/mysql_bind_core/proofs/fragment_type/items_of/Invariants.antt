use Rattle.std.proofs.Common.{◌≡◌, drop, map}
use Rattle.json.specs.Value.{value_view}
use Rattle.mysql_bind_core.specs.Contents.{all_of, item_of, item_said}
use Rattle.mysql_bind_core.proofs.ContentLemmas.{before}
use Rattle.mysql_bind_core.proofs.fragment_type.items_of.Given as goal

-- what is found of all values is what was found, and before what is left to find
abbrev pub invariant-loop-json : goal.invariant-loop-json
invariant-loop-json l =
    all_of item_of (map value_view l.values)
    ≡ before (map item_said l.items.items) (all_of item_of (drop l.json-index (map value_view l.values)))
