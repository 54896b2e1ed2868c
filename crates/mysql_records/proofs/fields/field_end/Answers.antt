use Rattle.std.proofs.Common.{◌≡◌, ◌∙◌, sym, ap, ◌∷◌, eqb, length, true≢false}
use Rattle.std.proofs.lemmas.Bool.{eqb-true}
use Rattle.std.proofs.lemmas.List.{nil_from_length}
use Rattle.mysql_records.specs.Formats.{carriage_return, newline}
use Rattle.mysql_records.proofs.FieldLemmas.{no_end, record_ends_empty, record_ends_line, record_ends_return}
use Rattle.mysql_records.proofs.fields.field_end.Goals as goal

pub returns-then-is_empty-clause-some : goal.returns-then-is_empty-clause-some
returns-then-is_empty-clause-some c =
    record_ends_empty c.args.format c.args.text.now
    (nil_from_length c.args.text.now (eqb-true (length c.args.text.now) 0 (sym c.if-is_empty.ensures)))

pub returns-in-Some-behind-clause-some : goal.returns-in-Some-behind-clause-some
returns-in-Some-behind-clause-some c = record_ends_line c.args.format c.args.text.now c.in-Some-behind.rest.now c.in-Some-behind.ensures.some

pub returns-then-has_escapes-clause-none : goal.returns-then-has_escapes-clause-none
returns-then-has_escapes-clause-none c =
    no_end c.args.format c.args.text.now
    (λ e. true≢false (sym (ap (λ x. eqb (length x) 0) e) ∙ sym c.if-is_empty.ensures))
    (λ rest e. c.in_default.ensures.none rest (e ∙ ap (λ x. x ∷ rest) (sym c.separator.ensures)))
    c.in_default-behind.ensures.none (λ rest h e. true≢false (c.if-has_escapes.ensures ∙ h))

pub returns-in_err-behind-clause-none : goal.returns-in_err-behind-clause-none
returns-in_err-behind-clause-none c =
    rw c.from_residual.ensures
    (no_end c.args.format c.args.text.now
    (λ e. true≢false (sym (ap (λ x. eqb (length x) 0) e) ∙ sym c.if-is_empty.ensures))
    (λ rest e. c.in_default.ensures.none rest (e ∙ ap (λ x. x ∷ rest) (sym c.separator.ensures)))
    c.in_default-behind.ensures.none (λ rest h. c.in_err-behind.ensures.none (newline ∷ rest)))

pub returns-in_err-rest-clause-none : goal.returns-in_err-rest-clause-none
returns-in_err-rest-clause-none c =
    rw c.from_residual-in_err-rest.ensures
    (no_end c.args.format c.args.text.now
    (λ e. true≢false (sym (ap (λ x. eqb (length x) 0) e) ∙ sym c.if-is_empty.ensures))
    (λ rest e. c.in_default.ensures.none rest (e ∙ ap (λ x. x ∷ rest) (sym c.separator.ensures)))
    c.in_default-behind.ensures.none
    (λ rest h e. let text : c.args.text.now ≡ carriage_return ∷ c.in_ok-behind.field-0.now = c.in_ok-behind.ensures.some in
    let more : c.in_ok-behind.field-0.now ≡ newline ∷ rest = cc in c.in_err-rest.ensures.none rest more))

pub returns-clause-some : goal.returns-clause-some
returns-clause-some c =
    let text : c.args.text.now ≡ carriage_return ∷ c.in_ok-behind.field-0.now = c.in_ok-behind.ensures.some in
    let more : c.in_ok-behind.field-0.now ≡ newline ∷ c.in_ok-rest.rest.now = c.in_ok-rest.ensures.some in
    record_ends_return c.args.format c.args.text.now c.in_ok-rest.rest.now (sym c.if-has_escapes.ensures) (text ∙ ap (λ x. carriage_return ∷ x) more)
