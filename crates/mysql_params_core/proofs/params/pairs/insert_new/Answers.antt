use Rattle.std.proofs.Common.{ap, sym, ◌∙◌}
use Rattle.std.specs.Prelude.{Ok}
use Rattle.std.specs.FinMap as finite
use Rattle.mysql_params_core.specs.Given.{value_map}
use Rattle.mysql_params_core.proofs.InsertLemmas.{value_map-insert}
use Rattle.mysql_params_core.proofs.MakingLemmas.{with_new-value}
use Rattle.mysql_params_core.proofs.params.pairs.insert_new.Goals as goal

pub returns-clause-made : goal.returns-clause-made
returns-clause-made c = λ meaning answers.
    with_new-value (value_map c.args.entries.now.entries) c.args.name.now meaning c.args.answer c.in_ok-value.value (rw c.in_ok-value.is at c.branch-value.ensures) answers
    ∙ ap (λ name. Ok (finite.insert (value_map c.args.entries.now.entries) name c.in_ok-value.value)) (sym c.in_ok-name.ensures.items)
    ∙ ap (λ m. Ok m) (sym (value_map-insert c.args.entries.now.entries c.insert.new.self.entries c.in_ok-name.name c.in_ok-value.value
    c.in_ok-insert.ensures.updates.3 c.in_ok-insert.ensures.updates.1))
