use Rattle.std.proofs.Common.{◌≡◌, ◌∙◌, sym, ap, ◌∷◌}
use Rattle.mysql_records.specs.Formats.{backslash}
use Rattle.mysql_records.proofs.ReadFieldLemmas.{ends_if_some}
use Rattle.mysql_records.proofs.fields.behind_null.Goals as goal

pub returns-then-is_some-clause-some : goal.returns-then-is_some-clause-some
returns-then-is_some-clause-some c =
    let text : c.args.text.now ≡ backslash ∷ c.in_ok-behind.field-0.now = c.in_ok-behind.ensures.some in
    let more : c.in_ok-behind.field-0.now ≡ 78 ∷ c.in_ok-rest.rest.now = c.in_ok-rest.ensures.some in (
      sym c.if-not-has_escapes.ensures,
      text ∙ ap (λ x. backslash ∷ x) more,
      ends_if_some c.args.format c.in_ok-rest.rest.now c.field_end.result c.if-is_some.ensures c.field_end.ensures.some,
    )
