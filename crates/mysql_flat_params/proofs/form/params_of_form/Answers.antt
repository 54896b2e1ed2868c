use Rattle.std.proofs.Common.{inl, refl}
use Rattle.std.specs.Prelude.{alloc_error}
use Rattle.mysql_values.specs.BorrowedValue.{owned_values}
use Rattle.mysql_flat_params.specs.FormErrors.{IsFormRefusal}
use Rattle.mysql_flat_params.specs.declared.form_error.FormError.TheVariants.{Memory}
use Rattle.mysql_flat_params.proofs.FormLemmas.{handed_on, positional_has_first}
use Rattle.mysql_flat_params.proofs.form.params_of_form.Goals as goal

pub returns-in_err-form_params-clause-refused : goal.returns-in_err-form_params-clause-refused
returns-in_err-form_params-clause-refused c =
    handed_on (IsFormRefusal c.args.form.now) c.from_residual.result c.in_err-form_params.field-0.0 c.from_residual.ensures.1
    c.in_err-form_params.ensures.refused

pub returns-in_err-own_values-in-Positional-clause-refused : goal.returns-in_err-own_values-in-Positional-clause-refused
returns-in_err-own_values-in-Positional-clause-refused c =
    handed_on (IsFormRefusal c.args.form.now) c.from_residual-in_err-own_values-in-Positional.result (Memory alloc_error) c.from_residual-in_err-own_values-in-Positional.ensures.1
    (inl refl)

pub returns-in_err-own_values-in-Positional-clause-memory : goal.returns-in_err-own_values-in-Positional-clause-memory
returns-in_err-own_values-in-Positional-clause-memory c = λ _.
    positional_has_first c.args.form.now (owned_values c.in-Positional.values.items)
    (rw c.in-Positional.is at c.in_ok-form_params.ensures.params)
