-- Which of its three forms the literal of bytes has, and how long digits are.
use Rattle.std.proofs.Common.{◌≡◌, ◌++◌, ℕ, ◌+◌, ◌*◌, true, false, List, length, ◌∙◌, arith}
use Rattle.std.specs.Prelude.{codes}
use Rattle.std.specs.List.{list_all}
use Rattle.std.specs.Str.{IsUtf8, is_utf8}
use Rattle.std.proofs.lemmas.Bool.{cond-true, cond-false, false_from_ne_true}
use Rattle.std.proofs.lemmas.Str.{IsUtf8-from_is_utf8, is_utf8-from_IsUtf8}
use Rattle.mysql_sql_text.specs.LiteralText.{escaped, hexadecimal, quoted}
use Rattle.mysql_sql_text.proofs.StringLemmas.{length-hexadecimal}
use Rattle.mysql_steady_text.specs.SteadyLiteral.{is_spelled_out, steady_bytes_literal}

pub literal-string : (bytes : List ℕ) → list_all is_spelled_out bytes ≡ true →
    steady_bytes_literal bytes ≡ codes "_utf8mb4" ++ quoted (escaped true bytes)
literal-string bytes h = cond-true (list_all is_spelled_out bytes) _ _ h

pub literal-introduced : (bytes : List ℕ) → list_all is_spelled_out bytes ≡ false → IsUtf8 bytes →
    steady_bytes_literal bytes ≡ codes "_utf8mb4 0x" ++ hexadecimal bytes
literal-introduced bytes h utf8 =
    cond-false (list_all is_spelled_out bytes) _ _ h ∙ cond-true (is_utf8 bytes) _ _ (is_utf8-from_IsUtf8 bytes utf8)

pub literal-bare : (bytes : List ℕ) → list_all is_spelled_out bytes ≡ false → (IsUtf8 bytes → ⊥) →
    steady_bytes_literal bytes ≡ codes "0x" ++ hexadecimal bytes
literal-bare bytes h other =
    cond-false (list_all is_spelled_out bytes) _ _ h
    ∙ cond-false (is_utf8 bytes) _ _ (false_from_ne_true (is_utf8 bytes) (λ utf8. other (IsUtf8-from_is_utf8 bytes utf8)))

pub introduced_len : (bytes : List ℕ) → length (codes "_utf8mb4 0x" ++ hexadecimal bytes) ≡ 11 + 2 * length bytes
introduced_len bytes = omega (arith, length-hexadecimal bytes)

pub bare_len : (bytes : List ℕ) → length (codes "0x" ++ hexadecimal bytes) ≡ 2 + 2 * length bytes
bare_len bytes = omega (arith, length-hexadecimal bytes)
