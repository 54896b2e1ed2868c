use Rattle.std.proofs.Common.{◌≡◌, ◌++◌, take}
use Rattle.std.specs.List.{flat_map}
use Rattle.mysql_fragments.specs.FragmentText.{item_values}
use Rattle.mysql_fragments.proofs.written.push_row_values.Given as goal

abbrev pub invariant-loop-row : goal.invariant-loop-row
invariant-loop-row l = l.values.items ≡ l.fn.values.items ++ flat_map (λ row. flat_map item_values row.items) (take l.row-index l.rows)
