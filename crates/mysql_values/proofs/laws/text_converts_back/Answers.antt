use Rattle.std.proofs.Common.{◌≡◌, true, refl, subst, string_bytes}
use Rattle.std.specs.Str.{is_utf8}
use Rattle.std.proofs.lemmas.Str.{is_utf8-from_IsUtf8}
use Rattle.mysql_values.proofs.laws.text_converts_back.Goals as goal

pub returns : goal.returns
returns c =
    let utf8 : is_utf8 (string_bytes c.args.text.now) ≡ true =
    subst (λ bytes. is_utf8 bytes ≡ true) c.as_str-text.ensures.value (is_utf8-from_IsUtf8 _ c.as_str-text.utf8) in
    record { converts_back = (rw utf8 refl, λ e. cc) }
