use Rattle.std.proofs.Common.{◌≡◌, ◌++◌, take}
use Rattle.std.specs.List.{flat_map}
use Rattle.mysql_fragments.specs.FragmentText.{item_values}
use Rattle.mysql_fragments.proofs.written.push_item_values.Given as goal

abbrev pub invariant-loop-item : goal.invariant-loop-item
invariant-loop-item l = l.values.items ≡ l.fn.values.items ++ flat_map item_values (take l.item-index l.items)
