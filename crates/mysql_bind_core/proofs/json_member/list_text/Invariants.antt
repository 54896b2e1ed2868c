use Rattle.std.proofs.Common.{◌≡◌, [], ◌∷◌, List, drop, map}
use Rattle.json.specs.Token.{Token, begin_array}
use Rattle.json.specs.Value.{value_view}
use Rattle.mysql_bind_core.specs.Contents.{all_of}
use Rattle.mysql_bind_core.specs.JsonMembers.{item_token}
use Rattle.mysql_bind_core.proofs.ContentLemmas.{before}
use Rattle.mysql_bind_core.proofs.json_member.list_text.Given as goal

-- the tokens of all items are those that are written, and before those of the items that are left
abbrev pub invariant-loop-json : goal.invariant-loop-json
invariant-loop-json l =
    (l.writer.before ≡ []) × (l.writer.tokens ≡ begin_array ∷ drop 1 l.writer.tokens)
    × (all_of (item_token l.decimals) (map value_view l.items)
    ≡ before (drop 1 l.writer.tokens) (all_of (item_token l.decimals) (drop l.json-index (map value_view l.items))))
