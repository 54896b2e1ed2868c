-- Bytes in hexadecimal: they read as these bytes, are pairs of hexadecimal digits, and are ASCII.
use Rattle.std.proofs.Common.{◌≡◌, ℕ, ◌+◌, ◌*◌, ◌/◌, ◌%◌, ◌<◌, Bool, true, false, ◌&&◌, eqb, List, [], ◌∷◌, ◌++◌, length, get_or, refl, ◌∙◌, ap, arith, suc}
use Rattle.std.specs.Prelude.{codes}
use Rattle.std.specs.Option.{option_or}
use Rattle.std.specs.Str.{IsAscii}
use Rattle.std.proofs.lemmas.Bool.{eqb-true, cond-false, cond-true, and_from, agree_below_at}
use Rattle.std.proofs.lemmas.Bool.Decides.{nat_tests}
use Rattle.std.proofs.lemmas.Str.Ascii.{IsAscii-cons, IsAscii-nil}
use Rattle.mysql_sql_text.specs.LiteralText.{hexadecimal_digit, hexadecimal}
use Rattle.mysql_sql_text.specs.ReadLiteral.{byte_string, is_hexadecimal_digit, hexadecimal_digit_value, read_pairs, if_any, read_negative, read_unsigned, read_string}
use Rattle.mysql_sql_text.specs.LiteralEnd.{continues_literal, BeginsWithout, ReadsBefore}
use Rattle.mysql_sql_text.specs.LiteralShape.{AreHexadecimalPairs}
use Rattle.mysql_sql_text.proofs.ReadNumberLemmas.{begins_narrower}

is_hexadecimal_digit-hexadecimal_digit : (n : ℕ) → n < 16 → is_hexadecimal_digit (hexadecimal_digit n) ≡ true
is_hexadecimal_digit-hexadecimal_digit n h = agree_below_at (λ k. is_hexadecimal_digit (hexadecimal_digit k)) (λ _. true) 16 n refl h

hexadecimal_digit_value-hexadecimal_digit : (n : ℕ) → n < 16 → hexadecimal_digit_value (hexadecimal_digit n) ≡ n
hexadecimal_digit_value-hexadecimal_digit n h =
    eqb-true _ _ (agree_below_at (λ k. eqb (hexadecimal_digit_value (hexadecimal_digit k)) k) (λ _. true) 16 n refl h)

-- both digits of a byte are hexadecimal digits
are_hexadecimal_digits : (b : ℕ) → b < 256 → (is_hexadecimal_digit (hexadecimal_digit (b / 16)) && is_hexadecimal_digit (hexadecimal_digit (b % 16))) ≡ true
are_hexadecimal_digits b small =
    and_from (is_hexadecimal_digit (hexadecimal_digit (b / 16))) (is_hexadecimal_digit (hexadecimal_digit (b % 16)))
    (is_hexadecimal_digit-hexadecimal_digit (b / 16) (omega arith)) (is_hexadecimal_digit-hexadecimal_digit (b % 16) (omega arith))

-- the pairs read as the bytes
read_pairs-hexadecimal : (bytes rest : List ℕ) → ((i : ℕ) → get_or bytes i 0 < 256) → BeginsWithout is_hexadecimal_digit rest
    → read_pairs (hexadecimal bytes ++ rest) ≡ (bytes, rest)
read_pairs-hexadecimal [] [] small h = refl
read_pairs-hexadecimal [] (a ∷ []) small h = refl
read_pairs-hexadecimal [] (a ∷ b ∷ rest) small h =
    cond-false (is_hexadecimal_digit a && is_hexadecimal_digit b) _ _ (ap (λ t. t && is_hexadecimal_digit b) h)
read_pairs-hexadecimal (b ∷ bytes) rest small h =
    let below : b < 256 = small 0 in
    let high = hexadecimal_digit_value-hexadecimal_digit (b / 16) (omega arith) in
    let low = hexadecimal_digit_value-hexadecimal_digit (b % 16) (omega arith) in
    let whole : 16 * hexadecimal_digit_value (hexadecimal_digit (b / 16)) + hexadecimal_digit_value (hexadecimal_digit (b % 16)) ≡ b = omega arith in
    cond-true (is_hexadecimal_digit (hexadecimal_digit (b / 16)) && is_hexadecimal_digit (hexadecimal_digit (b % 16))) _ _ (are_hexadecimal_digits b below)
    ∙ ap (λ r. ((16 * hexadecimal_digit_value (hexadecimal_digit (b / 16)) + hexadecimal_digit_value (hexadecimal_digit (b % 16))) ∷ r.0, r.1))
    (read_pairs-hexadecimal bytes rest (λ i. small (suc i)) h)
    ∙ ap (λ n. (n ∷ bytes, rest)) whole

not_hexadecimal_digit : (b : ℕ) → continues_literal b ≡ false → is_hexadecimal_digit b ≡ false
not_hexadecimal_digit b h = grind (arith, nat_tests)

pub hexadecimal_reads : (mode : Bool) (bytes : List ℕ) → ((i : ℕ) → get_or bytes i 0 < 256) → 0 < length bytes
    → ReadsBefore continues_literal mode (codes "0x" ++ hexadecimal bytes) (byte_string bytes)
hexadecimal_reads mode [] small nonempty rest h = absurd (omega arith)
hexadecimal_reads mode (b ∷ bytes) small nonempty rest h =
    let text : List ℕ = codes "0x" ++ (hexadecimal (b ∷ bytes) ++ rest) in
    ap (λ read. option_or (if_any read) (option_or (read_negative text) (option_or (read_unsigned text) (read_string mode text))))
    (read_pairs-hexadecimal (b ∷ bytes) rest small (begins_narrower continues_literal is_hexadecimal_digit not_hexadecimal_digit rest h))

pub AreHexadecimalPairs-hexadecimal : (bytes : List ℕ) → ((i : ℕ) → get_or bytes i 0 < 256) → 0 < length bytes
    → AreHexadecimalPairs (hexadecimal bytes)
AreHexadecimalPairs-hexadecimal [] small nonempty = absurd (omega arith)
AreHexadecimalPairs-hexadecimal (b ∷ []) small nonempty =
    let below : b < 256 = small 0 in
    (is_hexadecimal_digit-hexadecimal_digit (b / 16) (omega arith), is_hexadecimal_digit-hexadecimal_digit (b % 16) (omega arith))
AreHexadecimalPairs-hexadecimal (b ∷ c ∷ bytes) small nonempty =
    let below : b < 256 = small 0 in (
      is_hexadecimal_digit-hexadecimal_digit (b / 16) (omega arith),
      is_hexadecimal_digit-hexadecimal_digit (b % 16) (omega arith),
      AreHexadecimalPairs-hexadecimal (c ∷ bytes) (λ i. small (suc i)) (omega arith),
    )

hexadecimal_digit_ascii : (n : ℕ) → n < 16 → hexadecimal_digit n < 128
hexadecimal_digit_ascii n h = grind (arith, nat_tests)

pub IsAscii-hexadecimal : (bytes : List ℕ) → ((i : ℕ) → get_or bytes i 0 < 256) → IsAscii (hexadecimal bytes)
IsAscii-hexadecimal [] small = IsAscii-nil
IsAscii-hexadecimal (b ∷ bytes) small =
    let below : b < 256 = small 0 in
    IsAscii-cons (hexadecimal_digit (b / 16)) (hexadecimal_digit (b % 16) ∷ hexadecimal bytes) (hexadecimal_digit_ascii (b / 16) (omega arith))
    (IsAscii-cons (hexadecimal_digit (b % 16)) (hexadecimal bytes) (hexadecimal_digit_ascii (b % 16) (omega arith))
    (IsAscii-hexadecimal bytes (λ i. small (suc i))))
