use Rattle.std.proofs.Common.{◌<◌, ◌∙◌, [], length, arith, refl}
use Rattle.std.specs.Prelude.{Ok}
use Rattle.mysql_values.specs.ValueOf.{too_long_duration}
use Rattle.mysql_params_core.specs.Referents.{referents}
use Rattle.mysql_to_fragments.specs.FragmentContent.{assignments_content}
use Rattle.mysql_to_fragments.specs.Arguments.{said_of_column, with_one}
use Rattle.mysql_to_fragments.proofs.WalkLemmas.{error_is_handed_on, fold-take-next, refusal_of_walk}
use Rattle.mysql_to_fragments.proofs.assignments.all_assignments.Goals as goal

pub returns-in_err-push_assignment : goal.returns-in_err-push_assignment
returns-in_err-push_assignment g c =
    let below : c.loop-change.change-index < length c.args.changes.now = omega arith in
    error_is_handed_on (λ made. assignments_content made.items) too_long_duration _ c.from_residual.result
    c.in_err-push_assignment.field-0.0 c.from_residual.ensures.1
    (refusal_of_walk with_one (λ _ _. refl) (Ok []) (λ change. said_of_column (referents change.0.now) (g.T.ToItem.said_item change.1)) c.args.changes.now c.loop-change.change-index
    c.change-item.result below c.change-item.is (Ok (assignments_content c.loop-change.made.items))
    (too_long_duration c.in_err-push_assignment.field-0.0) c.loop-change.invariant c.in_err-push_assignment.ensures)

pub loop-change-preserved : goal.loop-change-preserved
loop-change-preserved g c =
    let below : c.loop-change.change-index < length c.args.changes.now = omega arith in
    fold-take-next with_one (λ _ _. refl) (Ok []) (λ change. said_of_column (referents change.0.now) (g.T.ToItem.said_item change.1)) c.args.changes.now
    c.loop-change.change-index c.change-item.result below c.change-item.is
    (Ok (assignments_content c.loop-change.made.items)) c.loop-change.invariant
    ∙ c.in_ok-push_assignment.ensures
