use Rattle.std.proofs.Common.{refl, arith, inl}
use Rattle.std.specs.Prelude.{alloc_error}
use Rattle.mysql_flat_params.specs.declared.form_error.FormError.TheVariants.{Memory}
use Rattle.mysql_flat_params.proofs.FormLemmas.{handed_on, not_empty, parameter_read, parameter_refused, whole_read}
use Rattle.mysql_flat_params.proofs.form.named_params.Goals as goal

pub loop-rest-smaller : goal.loop-rest-smaller
loop-rest-smaller g c =
    (parameter_read _ _ _ _ _ _ _ _ _ _ c.loop-rest.invariant.0 (not_empty _ c.loop-rest-test.ensures.empty.1)
    c.in_ok-insert_parameter.ensures refl).1

pub loop-rest-preserved : goal.loop-rest-preserved
loop-rest-preserved g c =
    let next = parameter_read _ _ _ _ _ _ _ _ _ _ c.loop-rest.invariant.0 (not_empty _ c.loop-rest-test.ensures.empty.1)
    c.in_ok-insert_parameter.ensures refl in
    (next.0, omega (arith, next.1, c.loop-rest.invariant.1))

pub returns-clause-params : goal.returns-clause-params
returns-clause-params g c = whole_read _ _ _ _ _ _ _ c.loop-rest.invariant.0 (c.loop-rest-test.ensures.empty.0 refl)

pub returns-in_err-names-clause-refused : goal.returns-in_err-names-clause-refused
returns-in_err-names-clause-refused g c = handed_on _ c.from_residual.result (Memory alloc_error) c.from_residual.ensures.1 (inl refl)

pub returns-in_err-insert_parameter-clause-refused :
    goal.returns-in_err-insert_parameter-clause-refused
returns-in_err-insert_parameter-clause-refused g c =
    handed_on _ c.from_residual-in_err-insert_parameter.result c.in_err-insert_parameter.field-0.0 c.from_residual-in_err-insert_parameter.ensures.1
    (parameter_refused _ _ _ _ _ _ _ _ c.loop-rest.invariant.0 (not_empty _ c.loop-rest-test.ensures.empty.1) c.in_err-insert_parameter.ensures)
