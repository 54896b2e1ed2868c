use Rattle.std.proofs.Common.{◌≡◌, map, take}
use Rattle.std.specs.Prelude.{Ok}
use Rattle.mysql_to_fragments.specs.FragmentContent.{items_content}
use Rattle.mysql_to_fragments.specs.Arguments.{all_said}
use Rattle.mysql_to_fragments.proofs.list.list_items.Given as goal

abbrev pub invariant-loop-argument : goal.invariant-loop-argument
invariant-loop-argument g l =
    all_said (take l.argument-index (map (g.T.ToItem.said_item) l.arguments)) ≡ Ok (items_content l.items.items)
