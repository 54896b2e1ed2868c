use Rattle.std.proofs.Common.{◌≡◌, ◌∙◌, ap, sym, Some, inl, inr, false}
use Rattle.std.specs.Str.{is_utf8}
use Rattle.std.proofs.lemmas.Bool.{cond-true, cond-false, cases_Bool}
use Rattle.std.proofs.lemmas.Str.{IsUtf8-from_is_utf8, is_utf8-from_IsUtf8}
use Rattle.mysql_values.proofs.value.convert.from_ref.RefStrFromValueRef.from_value_ref.Goals as goal

pub returns-in-Ok : goal.returns-in-Ok
returns-in-Ok c =
    let bytes = c.in-Bytes.bytes.now in
    let utf8 = is_utf8-from_IsUtf8 bytes c.in-Ok.ensures.cases.1 in
    rw c.in-Bytes.is (ap (λ t. Some t) c.in-Ok.ensures.cases.0 ∙ sym (cond-true (is_utf8 bytes) _ _ utf8))

pub returns-in-Err : goal.returns-in-Err
returns-in-Err c =
    let bytes = c.in-Bytes.bytes.now in
    let other : is_utf8 bytes ≡ false = elim (cases_Bool (is_utf8 bytes)) [
      | inl h ↦ absurd (c.in-Err.ensures.cases.0 (IsUtf8-from_is_utf8 bytes h))
      | inr h ↦ h
    ] in
    rw c.in-Bytes.is (sym (cond-false (is_utf8 bytes) _ _ other))
