use Rattle.mysql_flat_params.specs.FlatForm.{read_name}
use Rattle.mysql_flat_params.proofs.FormLemmas.{answer_handed_on}
use Rattle.mysql_flat_params.proofs.ReadEachLemmas.{one_more, next_refused}
use Rattle.mysql_flat_params.proofs.fragment_parts.eat_names.Goals as goal

pub returns-in_err-eat_text : goal.returns-in_err-eat_text
returns-in_err-eat_text c =
    answer_handed_on _ _ _ c.from_residual-in_err-eat_text.result c.in_err-eat_text.field-0.0 c.from_residual-in_err-eat_text.ensures.1
    (next_refused (read_name c.args.spot.place c.args.spot.position) (λ name. name.items) _ _ _ _ _ c.loop-count-test.true c.loop-count.invariant
    c.in_err-eat_text.ensures)

pub loop-count-preserved : goal.loop-count-preserved
loop-count-preserved c =
    one_more (read_name c.args.spot.place c.args.spot.position) (λ name. name.items) _ _ _ _ _ _ _ c.loop-count-test.true c.loop-count.invariant
    c.in_ok-eat_text.ensures c.in_ok-push.ensures.items
