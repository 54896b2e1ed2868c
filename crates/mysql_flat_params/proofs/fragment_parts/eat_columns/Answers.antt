use Rattle.mysql_params_core.specs.Names.{names_of}
use Rattle.mysql_flat_params.specs.FlatFragments.{read_names}
use Rattle.mysql_flat_params.proofs.FormLemmas.{answer_handed_on}
use Rattle.mysql_flat_params.proofs.ReadEachLemmas.{one_more, next_refused}
use Rattle.mysql_flat_params.proofs.fragment_parts.eat_columns.Goals as goal

pub returns-in_err-eat_names : goal.returns-in_err-eat_names
returns-in_err-eat_names c =
    answer_handed_on _ _ _ c.from_residual-in_err-eat_names.result c.in_err-eat_names.field-0.0 c.from_residual-in_err-eat_names.ensures.1
    (next_refused (read_names c.args.spot.place c.args.spot.position) (λ names. names_of names.items) _ _ _ _ _ c.loop-count-test.true c.loop-count.invariant
    c.in_err-eat_names.ensures)

pub loop-count-preserved : goal.loop-count-preserved
loop-count-preserved c =
    one_more (read_names c.args.spot.place c.args.spot.position) (λ names. names_of names.items) _ _ _ _ _ _ _ c.loop-count-test.true c.loop-count.invariant
    c.in_ok-eat_names.ensures c.in_ok-push.ensures.items
