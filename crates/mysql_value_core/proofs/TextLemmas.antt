-- Values whose bytes are a text, or are none.
use Rattle.std.proofs.Common.{◌≡◌, ℕ, true, false, refl, ap, List, Some, None}
use Rattle.std.specs.Str.{is_utf8}
use Rattle.std.proofs.lemmas.Str.{IsUtf8-from_is_utf8}
use Rattle.mysql_value_core.specs.declared.value.Value.TheVariants.{Bytes}
use Rattle.mysql_value_core.specs.FromValue.{value_text}

-- bytes that are UTF-8 are a text
pub value_text-is_utf8 : (bytes text : List ℕ) → bytes ≡ text → is_utf8 bytes ≡ true → value_text (Bytes bytes) ≡ Some text
value_text-is_utf8 bytes text same utf8 = rw utf8 (ap Some same)

-- other bytes are none
pub value_text-not_utf8 : (bytes : List ℕ) → is_utf8 bytes ≡ false → value_text (Bytes bytes) ≡ None
value_text-not_utf8 bytes other = rw other refl

-- the lemmas that prove `text_of`
pub ruleset text_rules = (value_text-is_utf8, value_text-not_utf8, IsUtf8-from_is_utf8)
