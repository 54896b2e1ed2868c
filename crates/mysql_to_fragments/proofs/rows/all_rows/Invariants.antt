use Rattle.std.proofs.Common.{◌≡◌, map, take}
use Rattle.std.specs.Prelude.{Ok}
use Rattle.mysql_to_fragments.specs.FragmentContent.{items_content}
use Rattle.mysql_to_fragments.specs.Arguments.{all_said}
use Rattle.mysql_to_fragments.proofs.rows.all_rows.Given as goal

abbrev pub invariant-loop-argument : goal.invariant-loop-argument
invariant-loop-argument g l =
    all_said (take l.argument-index (map (g.R.ToRow.said_row) l.arguments)) ≡ Ok (map (λ row. items_content row.items) l.rows.items)
