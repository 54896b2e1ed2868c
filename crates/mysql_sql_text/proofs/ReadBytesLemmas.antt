-- The literal of bytes reads as these bytes.
use Rattle.std.proofs.Common.{◌≡◌, ℕ, ◌<◌, Bool, true, false, List, [], ◌∷◌, ◌++◌, length, get_or, sym, ◌∙◌, ap, append-nil, arith, suc, zero}
use Rattle.std.specs.Prelude.{Some}
use Rattle.std.specs.Str.{is_utf8}
use Rattle.std.proofs.lemmas.Bool.{cond_both, cond-true, both_ways}
use Rattle.std.proofs.lemmas.Bool.Decides.{nat_tests}
use Rattle.std.proofs.lemmas.Str.{IsUtf8-nil, is_utf8-from_IsUtf8}
use Rattle.mysql_sql_text.specs.LiteralText.{bytes_literal}
use Rattle.mysql_sql_text.specs.ReadLiteral.{byte_string, read_literal}
use Rattle.mysql_sql_text.specs.LiteralEnd.{is_single_quote, continues_literal, BeginsWithout, ReadsBefore}
use Rattle.mysql_sql_text.proofs.ReadNumberLemmas.{begins_narrower}
use Rattle.mysql_sql_text.proofs.ReadStringLemmas.{read_quoted}
use Rattle.mysql_sql_text.proofs.HexadecimalLemmas.{hexadecimal_reads}

-- bytes that are not UTF-8 are not empty
pub length-not_utf8 : (bytes : List ℕ) → is_utf8 bytes ≡ false → 0 < length bytes
length-not_utf8 [] h = absurd (both_ways (is_utf8 []) h (is_utf8-from_IsUtf8 [] IsUtf8-nil))
length-not_utf8 (b ∷ bytes) h = omega arith

not_quote : (b : ℕ) → continues_literal b ≡ false → is_single_quote b ≡ false
not_quote b h = grind (arith, nat_tests)

pub begins_without_quote : (rest : List ℕ) → BeginsWithout continues_literal rest → BeginsWithout is_single_quote rest
begins_without_quote rest h = begins_narrower continues_literal is_single_quote not_quote rest h

pub bytes_read : (mode : Bool) (bytes : List ℕ) → ((i : ℕ) → get_or bytes i 0 < 256)
    → ReadsBefore continues_literal mode (bytes_literal mode bytes) (byte_string bytes)
bytes_read mode bytes small =
    cond_both (is_utf8 bytes) _ _ (λ t. ReadsBefore continues_literal mode t (byte_string bytes))
    (λ _ rest h. read_quoted mode bytes rest (begins_without_quote rest h))
    (λ other. hexadecimal_reads mode bytes small (length-not_utf8 bytes other))

pub utf8_bytes_read : (mode : Bool) (bytes : List ℕ) → is_utf8 bytes ≡ true
    → ReadsBefore is_single_quote mode (bytes_literal mode bytes) (byte_string bytes)
utf8_bytes_read mode bytes utf8 rest h =
    ap (λ t. read_literal mode (t ++ rest)) (cond-true (is_utf8 bytes) _ _ utf8) ∙ read_quoted mode bytes rest h

one_byte_fits : (b : ℕ) → b < 256 → (i : ℕ) → get_or (b ∷ []) i 0 < 256
one_byte_fits b h zero = h
one_byte_fits b h (suc i) = omega arith

pub single_bytes_read_back : (mode : Bool) (b : ℕ) → b < 256
    → read_literal mode (bytes_literal mode (b ∷ [])) ≡ Some (byte_string (b ∷ []), [])
single_bytes_read_back mode b h =
    ap (read_literal mode) (sym (append-nil (bytes_literal mode (b ∷ []))))
    ∙ bytes_read mode (b ∷ []) (one_byte_fits b h) [] tt
