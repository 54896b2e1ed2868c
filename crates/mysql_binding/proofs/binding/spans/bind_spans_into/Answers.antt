use Rattle.std.specs.Prelude.{IsErrAnd, Result, Ok, Err}
use Rattle.std.proofs.Common.{◌≡◌, ◌∙◌, ap, refl, arith}
use Rattle.std.proofs.lemmas.List.{length-take-le}
use Rattle.mysql_params_core.specs.GivenBorrowed.{given_by_borrowed}
use Rattle.mysql_binding.specs.BindErrors.{IsCauseOrMemory}
use Rattle.mysql_binding.specs.FirstCause.{first_cause}
use Rattle.mysql_binding.proofs.AppendedTextLemmas.{handed_on}
use Rattle.mysql_binding.proofs.MeasuredTextLemmas.{measured_length, front_text}
use Rattle.mysql_binding.proofs.SpanBindLemmas.{own_given_text}
use Rattle.mysql_binding.proofs.CauseLemmas.{never_refused}
use Rattle.mysql_binding.proofs.binding.spans.bind_spans_into.Goals as goal

pub returns-then-room-len-clause-text : goal.returns-then-room-len-clause-text
returns-then-room-len-clause-text g c = λ reading own.
    let o = c.in_ok-measured.ensures.measured reading own in
    (o.0, o.1, (omega (arith, c.if-room-len.true), measured_length (g.F.LiteralForm.literal c.args.form.now) o.0 (given_by_borrowed c.args.params) c.in_ok-measured.measured o.2 (g.met.F.LiteralForm.floats c.args.form.now), refl))

pub returns-clause-text : goal.returns-clause-text
returns-clause-text g c = λ reading own.
    front_text reading (g.F.LiteralForm.literal c.args.form.now) (g.F.LiteralForm.IsKnown c.args.form.now) c.args.spanned.now.query.now (given_by_borrowed c.args.params) c.in_ok-measured.measured.len
    c.fill_spans.new.room c.args.room.now (omega (arith, c.if-room-len.false)) (omega (arith, c.fill_spans.auto.room, c.if-room-len.false, length-take-le c.in_ok-measured.measured.len c.args.room.now (omega (arith, c.if-room-len.false))))
    (own_given_text c.args.spanned.now.survey c.args.spanned.now.spans.now reading c.args.spanned.now.query.now own (g.F.LiteralForm.literal c.args.form.now) (g.F.LiteralForm.IsKnown c.args.form.now) (given_by_borrowed c.args.params) c.in_ok-measured.measured c.fill_spans.new.room (c.in_ok-measured.ensures.measured reading own) c.fill_spans.ensures)

-- an error that is passed on is the same, whatever the result would be without it
same_error : {T U E : Type 0} → (r : Result U E) (e f : E) → IsErrAnd r (λ t. t ≡ e) → ◌≡◌ {A = Result T E} (Err e) (Err f) → ◌≡◌ {A = Result U E} r (Err f)
same_error (Ok a) e f is h = absurd is
same_error (Err t) e f is h =
    let same : e ≡ f = cc in
    ap (λ x. Err x) (is ∙ same)

pub returns-in_err-measured-clause-mixed : goal.returns-in_err-measured-clause-mixed
returns-in_err-measured-clause-mixed g c = λ reading own.
    let o = c.in_err-measured.ensures.mixed reading own in
    (o.0, o.1, λ both. same_error c.from_residual.result _ _ c.from_residual.ensures.1 (o.2 both))

pub returns-in_err-measured-clause-refused : goal.returns-in_err-measured-clause-refused
returns-in_err-measured-clause-refused g c = λ reading own.
    let o = c.in_err-measured.ensures.refused reading own in
    (o.0, o.1, handed_on (IsCauseOrMemory (first_cause o.0 (given_by_borrowed c.args.params))) c.from_residual.result c.in_err-measured.field-0.0 c.from_residual.ensures.1 o.2)

pub returns-then-room-len-clause-mixed : goal.returns-then-room-len-clause-mixed
returns-then-room-len-clause-mixed g c = λ reading own.
    let o = c.in_ok-measured.ensures.mixed reading own in
    (o.0, o.1, λ both. never_refused _ _ (o.2 both))

pub returns-clause-mixed : goal.returns-clause-mixed
returns-clause-mixed g c = λ reading own.
    let o = c.in_ok-measured.ensures.mixed reading own in
    (o.0, o.1, λ both. never_refused _ _ (o.2 both))
