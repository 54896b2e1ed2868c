use Rattle.std.proofs.Common.{◌≡◌, map, take}
use Rattle.std.specs.Prelude.{Ok}
use Rattle.mysql_params_core.specs.Referents.{referents}
use Rattle.mysql_to_fragments.specs.FragmentContent.{assignments_content}
use Rattle.mysql_to_fragments.specs.Arguments.{all_said, said_of_column}
use Rattle.mysql_to_fragments.proofs.assignments.all_assignments.Given as goal

abbrev pub invariant-loop-change : goal.invariant-loop-change
invariant-loop-change g l =
    all_said (take l.change-index (map (λ change. said_of_column (referents change.0.now) (g.T.ToItem.said_item change.1)) l.changes)) ≡ Ok (assignments_content l.made.items)
