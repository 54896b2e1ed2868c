use Rattle.std.proofs.Common.{[], ap, arith, inl, length, refl, subst, sym}
use Rattle.std.specs.Prelude.{alloc_error}
use Rattle.mysql_fragments.specs.GivenFragments.{positional}
use Rattle.mysql_flat_params.specs.FragmentsFormErrors.{IsFormRefusal}
use Rattle.mysql_flat_params.specs.declared.form_error.FormError.TheVariants.{Memory}
use Rattle.mysql_flat_params.proofs.FormLemmas.{handed_on, not_empty}
use Rattle.mysql_flat_params.specs.FormInPlace.{AreKeptAs}
use Rattle.mysql_flat_params.specs.FormKinds.{no_kinds}
use Rattle.mysql_flat_params.proofs.FormKindsLemmas.{nothing_known, parameter_known, whole_known}
use Rattle.mysql_flat_params.proofs.FragmentsFormLemmas.{all_of_it, parameter_read, parameter_refused, whole_read}
use Rattle.mysql_flat_params.proofs.fragments_in_place.form_in_place.Goals as goal

pub loop-rest-init : goal.loop-rest-init
loop-rest-init c = (
  (
    positional [],
    no_kinds,
    ([], refl, subst (λ list. AreKeptAs list []) (sym c.new.ensures.items) tt),
    nothing_known _ c.new-2.ensures.items c.new-3.ensures.empty,
    all_of_it c.args.form.now (positional []) refl,
    λ all h. h,
  ),
  omega (arith, ap length c.new-2.ensures.items),
  omega arith,
)

pub returns-in_err-name-clause-refused : goal.returns-in_err-name-clause-refused
returns-in_err-name-clause-refused c =
    let ((given, kinds, kept, known, leads, known_leads), few, within) = c.loop-rest.invariant in
    handed_on (IsFormRefusal c.args.form.now) c.from_residual.result c.in_err-name.field-0.0 c.from_residual.ensures.1
    (parameter_refused c.args.form.now _ given _ c.in_err-name.field-0.0 leads (not_empty _ c.loop-rest-test.ensures.empty.1)
    (c.in_err-name.ensures.refused given kept))

pub returns-in_err-keep-clause-refused : goal.returns-in_err-keep-clause-refused
returns-in_err-keep-clause-refused c =
    handed_on (IsFormRefusal c.args.form.now) c.from_residual-in_err-keep.result (Memory alloc_error) c.from_residual-in_err-keep.ensures.1 (inl refl)

pub returns-in_err-insert-clause-refused : goal.returns-in_err-insert-clause-refused
returns-in_err-insert-clause-refused c =
    handed_on (IsFormRefusal c.args.form.now) c.from_residual-in_err-insert.result (Memory alloc_error) c.from_residual-in_err-insert.ensures.1 (inl refl)

pub loop-rest-smaller : goal.loop-rest-smaller
loop-rest-smaller c =
    let ((given, kinds, kept, known, leads, known_leads), few, within) = c.loop-rest.invariant in
    let (said, says, read) = c.in_ok-name.ensures.read given kept in
    (parameter_read c.args.form.now _ given _ _ said _ _ leads (not_empty _ c.loop-rest-test.ensures.empty.1) read refl).1

pub loop-rest-preserved : goal.loop-rest-preserved
loop-rest-preserved c =
    let ((given, kinds, kept, known, leads, known_leads), few, within) = c.loop-rest.invariant in
    let (said, says, read) = c.in_ok-name.ensures.read given kept in
    let some = not_empty _ c.loop-rest-test.ensures.empty.1 in
    let next = parameter_read c.args.form.now _ given _ _ said _ _ leads some read refl in
    let known_next = parameter_known c.args.form.now _ given kinds _ _ _ _ _ known_leads some (_, said, read, refl) (c.in_ok-name.ensures.kind kinds) in
    ((_, _, c.in_ok-keep.ensures given said kept says, c.in_ok-insert.ensures.kept kinds known, next.0, known_next), c.in_ok-insert.ensures.room, omega (arith, next.1, within))

pub returns-clause-read : goal.returns-clause-read
returns-clause-read c =
    let ((given, kinds, kept, known, leads, known_leads), few, within) = c.loop-rest.invariant in
    let none = c.loop-rest-test.ensures.empty.0 refl in
    (given, kinds, (kept, known), (whole_read c.args.form.now _ given _ leads none, whole_known c.args.form.now _ given kinds _ known_leads none))
