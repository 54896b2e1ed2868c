use Rattle.std.proofs.Common.{◌≡◌, ◌≢◌, ◌∙◌, ℕ, List, sym, ◌∷◌, false, true≢false}
use Rattle.mysql_records.specs.Formats.{carriage_return, has_escapes}
use Rattle.mysql_records.specs.Faults.{return_enclosed, behind_quote}
use Rattle.mysql_records.proofs.FieldLemmas.{fault_behind, fault_return}
use Rattle.mysql_records.proofs.ReadFieldLemmas.{some_of, none_of}
use Rattle.mysql_records.proofs.fields.fault_behind_quote.Goals as goal
use Rattle.mysql_records.proofs.fields.fault_behind_quote.Goals.{else-not-has_escapes-via-then-not-has_escapes+else-is_some, else-not-has_escapes-via-else-not-has_escapes}

no_return : (c : goal.Joined-else-not-has_escapes) (tail : List ℕ) → has_escapes c.args.format ≡ false → c.args.rest.now ≢ carriage_return ∷ tail
no_return c tail h =
    elim c.else-not-has_escapes.branch [
      | else-not-has_escapes-via-then-not-has_escapes+else-is_some w ↦ none_of w.behind.result _ w.if-is_some.ensures w.behind.ensures.none tail
      | else-not-has_escapes-via-else-not-has_escapes w ↦ absurd (true≢false (w.if-not-has_escapes.ensures ∙ h))
    ]

pub returns-then-is_some-clause-before : goal.returns-then-is_some-clause-before
returns-then-is_some-clause-before c =
    λ bytes front h p. return_enclosed bytes front (sym c.if-not-has_escapes.ensures) h p

pub returns-then-is_some-clause-stands : goal.returns-then-is_some-clause-stands
returns-then-is_some-clause-stands c =
    let found = some_of c.behind.result (λ rest. c.args.rest.now ≡ carriage_return ∷ rest.now) c.if-is_some.ensures c.behind.ensures.some in
    fault_return c.args.format c.args.rest.now found.0.now (sym c.if-not-has_escapes.ensures) found.1 c.requires.no_end

pub returns-else-not-has_escapes-clause-before : goal.returns-else-not-has_escapes-clause-before
returns-else-not-has_escapes-clause-before c = λ bytes front h p. behind_quote bytes front h p

pub returns-else-not-has_escapes-clause-stands : goal.returns-else-not-has_escapes-clause-stands
returns-else-not-has_escapes-clause-stands c = fault_behind c.args.format c.args.rest.now c.requires.no_end (no_return c) c.requires.longest
