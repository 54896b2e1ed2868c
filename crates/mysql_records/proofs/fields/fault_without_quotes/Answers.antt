use Rattle.std.proofs.Common.{◌≡◌, ◌∷◌, ◌++◌, ◌∙◌, ap}
use Rattle.mysql_records.specs.Formats.{backslash, quote}
use Rattle.mysql_records.specs.Faults.{return_bare, quote_bare, escape_bare}
use Rattle.mysql_records.proofs.FieldLemmas.{fault_bare, fault_escape, has_quotes_at, has_escapes_at}
use Rattle.mysql_records.proofs.ReadFieldLemmas.{some_of, none_of}
use Rattle.mysql_records.proofs.fields.fault_without_quotes.Goals as goal

pub returns-then-is_some-clause-before : goal.returns-then-is_some-clause-before
returns-then-is_some-clause-before c =
    let found = some_of c.behind.result (λ rest. c.args.back.now ≡ quote ∷ rest.now) c.if-is_some.ensures c.behind.ensures.some in
    λ bytes front p no_quote no_null.
    quote_bare bytes front (has_quotes_at c.args.format c.args.back.now found.0.now found.1 c.requires.longest) p
    (λ e. no_quote found.0.now (has_quotes_at c.args.format c.args.back.now found.0.now found.1 c.requires.longest) (ap (λ x. x ++ c.args.back.now) e ∙ found.1))

pub returns-then-is_some-2-clause-before : goal.returns-then-is_some-2-clause-before
returns-then-is_some-2-clause-before c =
    let found = some_of c.behind-else-is_some.result (λ rest. c.args.back.now ≡ backslash ∷ rest.now) c.if-is_some-2.ensures c.behind-else-is_some.ensures.some in
    λ bytes front p no_quote no_null.
    escape_bare bytes front (has_escapes_at c.args.format c.args.back.now found.0.now found.1 c.requires.longest) p
    (no_null (has_escapes_at c.args.format c.args.back.now found.0.now found.1 c.requires.longest))

pub returns-then-is_some-2-clause-stands : goal.returns-then-is_some-2-clause-stands
returns-then-is_some-2-clause-stands c =
    let found = some_of c.behind-else-is_some.result (λ rest. c.args.back.now ≡ backslash ∷ rest.now) c.if-is_some-2.ensures c.behind-else-is_some.ensures.some in
    fault_escape c.args.format c.args.back.now found.0.now found.1 c.requires.longest

pub returns-else-is_some-2-clause-before : goal.returns-else-is_some-2-clause-before
returns-else-is_some-2-clause-before c =
    λ bytes front p no_quote no_null.
    return_bare bytes front
    (fault_bare c.args.format c.args.back.now c.requires.no_end
    (none_of c.behind.result _ c.if-is_some.ensures c.behind.ensures.none)
    (none_of c.behind-else-is_some.result _ c.if-is_some-2.ensures c.behind-else-is_some.ensures.none) c.requires.longest).1 p

pub returns-else-is_some-2-clause-stands : goal.returns-else-is_some-2-clause-stands
returns-else-is_some-2-clause-stands c =
    (fault_bare c.args.format c.args.back.now c.requires.no_end
    (none_of c.behind.result _ c.if-is_some.ensures c.behind.ensures.none)
    (none_of c.behind-else-is_some.result _ c.if-is_some-2.ensures c.behind-else-is_some.ensures.none) c.requires.longest).0
