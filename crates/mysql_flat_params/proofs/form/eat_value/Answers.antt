use Rattle.std.proofs.Common.{subst, sym}
use Rattle.mysql_wire_part.specs.Answer.{IsExpectedRefusal}
use Rattle.mysql_flat_params.specs.FormErrors.{form_refusal}
use Rattle.mysql_flat_params.proofs.FormLemmas.{answer_handed_on}
use Rattle.mysql_flat_params.proofs.ValueLemmas.{value_typed}
use Rattle.mysql_flat_params.proofs.form.eat_value.Goals as goal

pub returns-in_err-value : goal.returns-in_err-value
returns-in_err-value c =
    answer_handed_on _ _ _ c.from_residual.result c.in_err-value.field-0.0 c.from_residual.ensures.1
    (subst (λ expected. IsExpectedRefusal expected ⊥ (form_refusal c.in_err-value.field-0.0))
    (sym (value_typed c.args.spot.place c.args.spot.position c.args.rest.now.0.now c.in-len2-up.len_at_least))
    c.in_err-value.ensures)
