use Rattle.std.proofs.Common.{refl, arith}
use Rattle.mysql_values.specs.BorrowedValue.{owned}
use Rattle.mysql_flat_params.specs.FormParams.{given_in_form}
use Rattle.mysql_flat_params.proofs.LeavesLemmas.{value_leaves}
use Rattle.mysql_flat_params.proofs.FormLemmas.{handed_on, memory_handed_on, first_is_ok, nothing_read, not_empty, first_name_refused, first_value_refused, params_after_first, refused_after_first, first_by_name, first_by_position}
use Rattle.mysql_flat_params.proofs.form.form_params.Goals as goal

pub returns-then-is_empty-clause-params : goal.returns-then-is_empty-clause-params
returns-then-is_empty-clause-params g c = nothing_read _ (c.if-is_empty.ensures.empty.0 refl)

pub positional_params-requires : goal.positional_params-requires
positional_params-requires g c = λ k. (
  (refl, tt),
  omega (arith, value_leaves 0 0 c.eat_name.new.rest.0.now (owned c.in_ok-value.value) c.eat_value.new.rest.0.now c.in_ok-value.ensures, c.in_ok-name.ensures.within),
)

pub named_params-requires : goal.named_params-requires
named_params-requires g c = λ k. (
  (refl, tt),
  omega (arith, value_leaves 0 0 c.eat_name.new.rest.0.now (owned c.in_ok-value.value) c.eat_value.new.rest.0.now c.in_ok-value.ensures, c.in_ok-name.ensures.within),
)

pub returns-then-is_empty-2-clause-params : goal.returns-then-is_empty-2-clause-params
returns-then-is_empty-2-clause-params g c =
    params_after_first _ _ _ c.in_ok-name.ensures.name _ _ c.in_ok-value.ensures (not_empty _ c.if-is_empty.ensures.empty.1) (given_in_form g.M.FormNames.values) _ (first_by_position _ _ c.if-is_empty-2.ensures) _ c.positional_params.ensures.params

pub returns-else-is_empty-2-clause-params : goal.returns-else-is_empty-2-clause-params
returns-else-is_empty-2-clause-params g c =
    params_after_first _ _ _ c.in_ok-name.ensures.name _ _ c.in_ok-value.ensures (not_empty _ c.if-is_empty.ensures.empty.1) (given_in_form g.M.FormNames.values) _ (first_by_name _ _ c.if-is_empty-2.ensures) _ c.named_params.ensures.params

pub returns-then-is_empty-2-clause-refused : goal.returns-then-is_empty-2-clause-refused
returns-then-is_empty-2-clause-refused g c =
    refused_after_first _ _ _ c.in_ok-name.ensures.name _ _ c.in_ok-value.ensures (not_empty _ c.if-is_empty.ensures.empty.1) _ (first_by_position _ _ c.if-is_empty-2.ensures) _ c.positional_params.ensures.refused

pub returns-else-is_empty-2-clause-refused : goal.returns-else-is_empty-2-clause-refused
returns-else-is_empty-2-clause-refused g c =
    refused_after_first _ _ _ c.in_ok-name.ensures.name _ _ c.in_ok-value.ensures (not_empty _ c.if-is_empty.ensures.empty.1) _ (first_by_name _ _ c.if-is_empty-2.ensures) _ c.named_params.ensures.refused

pub returns-then-is_empty-2-clause-memory : goal.returns-then-is_empty-2-clause-memory
returns-then-is_empty-2-clause-memory g c = λ _. first_is_ok c.args.form.now _ _ c.in_ok-name.ensures.name (rw c.in_ok-value.ensures refl)

pub returns-else-is_empty-2-clause-memory : goal.returns-else-is_empty-2-clause-memory
returns-else-is_empty-2-clause-memory g c = λ _. first_is_ok c.args.form.now _ _ c.in_ok-name.ensures.name (rw c.in_ok-value.ensures refl)

pub returns-in_err-name-clause-refused : goal.returns-in_err-name-clause-refused
returns-in_err-name-clause-refused g c =
    handed_on _ c.from_residual.result c.in_err-name.field-0.0 c.from_residual.ensures.1
    (first_name_refused _ _ (not_empty _ c.if-is_empty.ensures.empty.1) c.in_err-name.ensures.name)

pub returns-in_err-value-clause-refused : goal.returns-in_err-value-clause-refused
returns-in_err-value-clause-refused g c =
    handed_on _ c.from_residual-in_err-value.result c.in_err-value.field-0.0 c.from_residual-in_err-value.ensures.1
    (first_value_refused _ _ _ c.in_ok-name.ensures.name _ (not_empty _ c.if-is_empty.ensures.empty.1) c.in_err-value.ensures)

pub returns-in_err-value-clause-memory : goal.returns-in_err-value-clause-memory
returns-in_err-value-clause-memory g c =
    λ is. absurd
    (memory_handed_on _ _ c.from_residual-in_err-value.result c.in_err-value.field-0.0 c.from_residual-in_err-value.ensures.1 c.in_err-value.ensures is)
