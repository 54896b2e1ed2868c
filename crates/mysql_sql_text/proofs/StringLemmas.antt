-- Literals of bytes: which they are, and how long.
use Rattle.std.proofs.Common.{◌≡◌, ℕ, ◌+◌, ◌*◌, ◌<◌, Bool, true, false, List, [], ◌∷◌, length, refl, arith}
use Rattle.std.proofs.Common.{length-append}
use Rattle.std.specs.Prelude.{codes, ◌++◌}
use Rattle.std.specs.Str.{is_utf8}
use Rattle.std.proofs.lemmas.Bool.{cond_both, cond-true, cond-false}
use Rattle.mysql_sql_text.specs.LiteralText.{bytes_literal, escaped, hexadecimal, quoted}

pub bytes_literal-is_utf8 : (mode : Bool) (bytes : List ℕ) → is_utf8 bytes ≡ true → bytes_literal mode bytes ≡ quoted (escaped mode bytes)
bytes_literal-is_utf8 mode bytes utf8 = cond-true (is_utf8 bytes) _ _ utf8

pub bytes_literal-not_utf8 : (mode : Bool) (bytes : List ℕ) → is_utf8 bytes ≡ false → bytes_literal mode bytes ≡ codes "0x" ++ hexadecimal bytes
bytes_literal-not_utf8 mode bytes other = cond-false (is_utf8 bytes) _ _ other

pub length-quoted : (text : List ℕ) → length (quoted text) ≡ 2 + length text
length-quoted text = omega (arith, length-append text (codes "'"))

pub length-hexadecimal : (bytes : List ℕ) → length (hexadecimal bytes) ≡ 2 * length bytes
length-hexadecimal [] = refl
length-hexadecimal (b ∷ bytes) = omega (arith, length-hexadecimal bytes)

-- a literal that is shorter than hexadecimal is a string
pub bytes_literal-short : (mode : Bool) (bytes : List ℕ) → length (bytes_literal mode bytes) < 2 + 2 * length bytes
    → bytes_literal mode bytes ≡ quoted (escaped mode bytes)
bytes_literal-short mode bytes short =
    let hexadecimal_text : List ℕ = codes "0x" ++ hexadecimal bytes in
    cond_both (is_utf8 bytes) (quoted (escaped mode bytes)) hexadecimal_text
    (λ t. length t < 2 + 2 * length bytes → t ≡ quoted (escaped mode bytes))
    (λ _ _. refl) (λ _ h. absurd (omega (arith, length-hexadecimal bytes))) short
