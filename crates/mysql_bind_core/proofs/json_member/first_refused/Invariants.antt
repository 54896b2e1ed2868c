use Rattle.std.proofs.Common.{◌≡◌, drop, map}
use Rattle.json.specs.Value.{value_view}
use Rattle.mysql_bind_core.specs.JsonMembers.{first_refused}
use Rattle.mysql_bind_core.proofs.json_member.first_refused.Given as goal

-- the first of all items is the first of those that are left
abbrev pub invariant-loop-json : goal.invariant-loop-json
invariant-loop-json l =
    first_refused l.decimals (map value_view l.items)
    ≡ first_refused l.decimals (drop l.json-index (map value_view l.items))
