use Rattle.std.proofs.Common.{◌≡◌, ◌∙◌, ℕ, List, true, inl, inr, ap, sym, subst, rules, None}
use Rattle.std.specs.Prelude.{option_map, IfOk, if◌then◌else◌}
use Rattle.std.specs.Str.{IsUtf8, is_utf8}
use Rattle.std.proofs.lemmas.Bool.{cases_Bool}
use Rattle.std.proofs.lemmas.Str.{is_utf8-from_IsUtf8, IsUtf8-from_is_utf8}
use Rattle.json.specs.Json.{document}
use Rattle.mysql_bind_core.specs.Contents.{list_in, list_of_json, said}
use Rattle.mysql_bind_core.proofs.fragment_type.list_in.Goals as goal

list_in-utf8 : (bs : List ℕ) → is_utf8 bs ≡ true → list_of_json (document bs) ≡ list_in bs
list_in-utf8 bs valid = sym (ap (λ b. if b then list_of_json (document bs) else None) valid)

list_in-none : (bs : List ℕ) → (IsUtf8 bs → ⊥) → None ≡ list_in bs
list_in-none bs never =
    elim (cases_Bool (is_utf8 bs)) [
      | inl e ↦ absurd (never (IsUtf8-from_is_utf8 bs e))
      | inr e ↦ sym (ap (λ b. if b then list_of_json (document bs) else None) e)
    ]

pub returns-in-Ok : goal.returns-in-Ok
returns-in-Ok c =
    let bytes = c.args.bytes.now in
    let is : c.in-Ok.text.now ≡ bytes = search rules in
    let valid : is_utf8 bytes ≡ true = is_utf8-from_IsUtf8 _ c.in-Ok.ensures.cases.1 in
    subst (λ content. IfOk c.list_of_text.result (λ found. option_map said found ≡ content))
    (ap (λ bs. list_of_json (document bs)) is ∙ list_in-utf8 bytes valid) c.list_of_text.ensures

pub returns-in-Err : goal.returns-in-Err
returns-in-Err c = list_in-none _ c.in-Err.ensures.cases.0
