use Rattle.std.proofs.Common.{◌≡◌, ◌∙◌, sym, ap, [], ◌∷◌, Some, None, arith, length, refl, true≢false}
use Rattle.mysql_records.specs.Formats.{backslash, escape_value, quote}
use Rattle.mysql_records.specs.Records.{doubled, escape}
use Rattle.mysql_records.proofs.PieceLemmas.{none_doubled, none_escape}
use Rattle.mysql_records.proofs.pieces.pair.Goals as goal

pub returns-in_err-behind-clause-none : goal.returns-in_err-behind-clause-none
returns-in_err-behind-clause-none c =
    rw c.from_residual.ensures
    (none_doubled c.args.format c.args.quoted c.args.text.now c.requires (sym c.if-doubles_quotes.ensures)
    (λ rest. c.in_err-behind.ensures.none (quote ∷ rest)))

pub returns-in_err-rest-clause-none : goal.returns-in_err-rest-clause-none
returns-in_err-rest-clause-none c =
    rw c.from_residual-in_err-rest.ensures
    (none_doubled c.args.format c.args.quoted c.args.text.now c.requires (sym c.if-doubles_quotes.ensures)
    (λ rest e. let text : c.args.text.now ≡ quote ∷ c.in_ok-behind.field-0.now = c.in_ok-behind.ensures.some in
    let more : c.in_ok-behind.field-0.now ≡ quote ∷ rest = cc in c.in_err-rest.ensures.none rest more))

pub returns-then-doubles_quotes-clause-some : goal.returns-then-doubles_quotes-clause-some
returns-then-doubles_quotes-clause-some c =
    let first : c.args.text.now ≡ quote ∷ c.in_ok-behind.field-0.now = c.in_ok-behind.ensures.some in
    let second : c.in_ok-behind.field-0.now ≡ quote ∷ c.in_ok-rest.rest.now = c.in_ok-rest.ensures.some in
    (quote ∷ quote ∷ [], doubled (sym c.if-doubles_quotes.ensures), first ∙ ap (λ x. quote ∷ x) second, refl)

pub returns-in_err-behind-2-clause-none : goal.returns-in_err-behind-2-clause-none
returns-in_err-behind-2-clause-none c =
    rw c.from_residual-in_err-behind-2.ensures
    (none_escape c.args.format c.args.quoted c.args.text.now c.requires (sym c.if-doubles_quotes.ensures)
    (λ b v rest h m. c.in_err-behind-2.ensures.none (b ∷ rest)))

pub returns-in_err-second-clause-none : goal.returns-in_err-second-clause-none
returns-in_err-second-clause-none c =
    rw c.from_residual-in_err-second.ensures
    (none_escape c.args.format c.args.quoted c.args.text.now c.requires (sym c.if-doubles_quotes.ensures)
    (λ b v rest h m e.
    let text : c.args.text.now ≡ backslash ∷ c.in_ok-behind-2.field-0.now = c.in_ok-behind-2.ensures.some in
    let more : c.in_ok-behind-2.field-0.now ≡ b ∷ rest = cc in
    let none : length c.in_ok-behind-2.field-0.now ≡ 0 = c.in_err-second.ensures.cases in
    absurd (omega (arith, ap length more, none))))

pub returns-in_err-escape_value-clause-none : goal.returns-in_err-escape_value-clause-none
returns-in_err-escape_value-clause-none c =
    rw c.from_residual-in_err-escape_value.ensures
    (none_escape c.args.format c.args.quoted c.args.text.now c.requires (sym c.if-doubles_quotes.ensures)
    (λ b v rest h m e.
    let text : c.args.text.now ≡ backslash ∷ c.in_ok-behind-2.field-0.now = c.in_ok-behind-2.ensures.some in
    let more : c.in_ok-behind-2.field-0.now ≡ c.in_ok-second.second.now ∷ c.in_ok-second.rest.now = c.in_ok-second.ensures.cases.0 in
    let same : c.in_ok-second.second.now ≡ b = cc in
    let none : None ≡ Some v = c.in_err-escape_value.ensures ∙ ap escape_value same ∙ m in
    cc))

pub returns-then-has_escapes-clause-some : goal.returns-then-has_escapes-clause-some
returns-then-has_escapes-clause-some c =
    let text : c.args.text.now ≡ backslash ∷ c.in_ok-behind-2.field-0.now = c.in_ok-behind-2.ensures.some in
    let more : c.in_ok-behind-2.field-0.now ≡ c.in_ok-second.second.now ∷ c.in_ok-second.rest.now = c.in_ok-second.ensures.cases.0 in (
      backslash ∷ c.in_ok-second.second.now ∷ [],
      escape c.in_ok-second.second.now c.in_ok-escape_value.field-0 (sym c.if-has_escapes.ensures) (sym c.in_ok-escape_value.ensures),
      text ∙ ap (λ x. backslash ∷ x) more,
      refl,
    )

pub returns-clause-none : goal.returns-clause-none
returns-clause-none c =
    none_escape c.args.format c.args.quoted c.args.text.now c.requires (sym c.if-doubles_quotes.ensures)
    (λ b v rest h m e. true≢false (sym h ∙ sym c.if-has_escapes.ensures))
