use Rattle.std.specs.Prelude.{⊤, alloc_error}
use Rattle.std.proofs.Common.{inl, inr, subst, sym}
use Rattle.mysql_wire_part.specs.Answer.{IsExpectedRefusal}
use Rattle.mysql_flat_params.specs.FlatFragments.{read_fragment}
use Rattle.mysql_flat_params.specs.FormErrors.{form_refusal}
use Rattle.mysql_flat_params.specs.declared.form_error.FormError.TheVariants.{Memory}
use Rattle.mysql_flat_params.proofs.FormLemmas.{handed_on}
use Rattle.mysql_flat_params.proofs.FragmentsFormLemmas.{fragment_typed}
use Rattle.mysql_flat_params.proofs.FragmentInPlaceLemmas.{kept_read, value_refused}
use Rattle.mysql_flat_params.proofs.fragment_in_place.eat_in_place.Goals.{then-number-lt-NUMBER-via-then-number-lt-NUMBER, then-number-lt-NUMBER-via-else-number-lt-NUMBER+then-number-gt-ASSIGNMENTS}
use Rattle.mysql_flat_params.proofs.fragment_in_place.eat_in_place.Goals as goal

pub returns-in_err-value-clause-refused : goal.returns-in_err-value-clause-refused
returns-in_err-value-clause-refused c =
    handed_on (λ error. IsExpectedRefusal (read_fragment c.args.spot.place c.args.spot.position c.args.rest.now.0.now) ⊤ (form_refusal error))
    c.from_residual.result c.in_err-value.field-0.0 c.from_residual.ensures.1
    (subst (λ expected. IsExpectedRefusal expected ⊤ (form_refusal c.in_err-value.field-0.0))
    (sym (fragment_typed c.args.spot.place c.args.spot.position c.args.rest.now.0.now _ c.layout_type-number.ensures c.in-len2-up.len_at_least))
    (value_refused c.args.spot.place c.args.spot.position _ _ _ _
    (elim c.then-number-lt-NUMBER.branch [ then-number-lt-NUMBER-via-then-number-lt-NUMBER w ↦ inl w.if-number-lt-NUMBER.true | then-number-lt-NUMBER-via-else-number-lt-NUMBER+then-number-gt-ASSIGNMENTS w ↦ inr w.if-number-gt-ASSIGNMENTS.true ])
    c.in_err-value.ensures))

pub returns-in_err-read-clause-refused : goal.returns-in_err-read-clause-refused
returns-in_err-read-clause-refused c =
    handed_on (λ error. IsExpectedRefusal (read_fragment c.args.spot.place c.args.spot.position c.args.rest.now.0.now) ⊤ (form_refusal error))
    c.from_residual-in_err-read.result (Memory alloc_error) c.from_residual-in_err-read.ensures.1 tt

pub returns-in_err-eat_fragment-in-None-clause-refused : goal.returns-in_err-eat_fragment-in-None-clause-refused
returns-in_err-eat_fragment-in-None-clause-refused c =
    handed_on (λ error. IsExpectedRefusal (read_fragment c.args.spot.place c.args.spot.position c.args.rest.now.0.now) ⊤ (form_refusal error))
    c.from_residual-in_err-eat_fragment-in-None.result c.in_err-eat_fragment-in-None.field-0.0 c.from_residual-in_err-eat_fragment-in-None.ensures.1
    c.in_err-eat_fragment-in-None.ensures

pub returns-in-Some-clause-read : goal.returns-in-Some-clause-read
returns-in-Some-clause-read c =
    kept_read c.args.spot.place c.args.spot.position c.args.rest.now.0.now _ _ c.layout_type-number.ensures c.in_ok-read.field-0 c.in-Some.read c.in-len2-up.len_at_least c.in-Some.is
    c.in_ok-read.ensures
