use Rattle.std.proofs.Common.{arith, inl, refl}
use Rattle.mysql_flat_params.specs.FragmentsFormErrors.{IsFormRefusal}
use Rattle.mysql_flat_params.proofs.FormLemmas.{handed_on, not_empty}
use Rattle.mysql_flat_params.proofs.FragmentsFormLemmas.{never_left, parameter_read, parameter_refused, whole_read}
use Rattle.mysql_flat_params.proofs.fragments_form.form_fragments.Goals as goal

pub returns-in_err-name-clause-refused : goal.returns-in_err-name-clause-refused
returns-in_err-name-clause-refused c =
    handed_on (IsFormRefusal c.args.form.now) c.from_residual.result c.in_err-name.field-0.0 c.from_residual.ensures.1
    (parameter_refused c.args.form.now _ _ _ c.in_err-name.field-0.0 c.loop-rest.invariant.0 (not_empty _ c.loop-rest-test.ensures.empty.1)
    c.in_err-name.ensures)

pub returns-in_err-name-clause-empty : goal.returns-in_err-name-clause-empty
returns-in_err-name-clause-empty c = λ none.
    never_left c.args.form.now _ c.loop-rest.place none c.loop-rest.invariant.1 (not_empty _ c.loop-rest-test.ensures.empty.1)

pub returns-in_err-insert_fragment-clause-refused : goal.returns-in_err-insert_fragment-clause-refused
returns-in_err-insert_fragment-clause-refused c =
    handed_on (IsFormRefusal c.args.form.now) c.from_residual-in_err-insert_fragment.result c.in_err-insert_fragment.field-0.0
    c.from_residual-in_err-insert_fragment.ensures.1 (inl c.in_err-insert_fragment.ensures.memory)

pub returns-in_err-insert_fragment-clause-empty : goal.returns-in_err-insert_fragment-clause-empty
returns-in_err-insert_fragment-clause-empty c = λ none.
    never_left c.args.form.now _ c.loop-rest.place none c.loop-rest.invariant.1 (not_empty _ c.loop-rest-test.ensures.empty.1)

pub loop-rest-smaller : goal.loop-rest-smaller
loop-rest-smaller c =
    (parameter_read c.args.form.now _ _ _ _ _ _ _ c.loop-rest.invariant.0 (not_empty _ c.loop-rest-test.ensures.empty.1) c.in_ok-name.ensures
    c.in_ok-insert_fragment.ensures.inserted).1

pub loop-rest-preserved : goal.loop-rest-preserved
loop-rest-preserved c =
    let next = parameter_read c.args.form.now _ _ _ _ _ _ _ c.loop-rest.invariant.0 (not_empty _ c.loop-rest-test.ensures.empty.1) c.in_ok-name.ensures
    c.in_ok-insert_fragment.ensures.inserted in
    (next.0, omega (arith, next.1, c.loop-rest.invariant.1))

pub returns-clause-fragments : goal.returns-clause-fragments
returns-clause-fragments c = whole_read c.args.form.now _ _ _ c.loop-rest.invariant.0 (c.loop-rest-test.ensures.empty.0 refl)
