-- The escaped bytes of UTF-8 are UTF-8.
use Rattle.std.proofs.Common.{◌≡◌, ℕ, ◌<◌, ◌≤◌, Bool, true, false, eqb, ltb, List, [], ◌∷◌, ◌++◌, refl, sym, ◌∙◌, ap, subst, arith, inl, inr}
use Rattle.std.specs.Str.{IsUtf8, IsAscii, byte}
use Rattle.std.proofs.lemmas.Bool.{cond_both, cond-false, and_parts, ne_eqb, ltb-true, cases_lt}
use Rattle.std.proofs.lemmas.Str.{IsUtf8-nil, IsUtf8-append, IsUtf8-encode, IsUtf8-from_ascii, encode_ascii, IsAscii-append}
use Rattle.std.proofs.lemmas.Str.Ascii.{IsAscii-cons, IsAscii-nil}
use Rattle.std.proofs.lemmas.Grind.{flat_map-append}
use lib.Utf8.{encode, encodes, scalars, scalar}
use Rattle.mysql_sql_text.specs.LiteralText.{control_z, escaped_byte, escaped, quoted}
use Rattle.mysql_sql_text.proofs.ByteNames.{newline, carriage_return, backslash, single_quote, double_quote}

IsAscii-two_bytes : (a b : ℕ) → a < 128 → b < 128 → IsAscii (a ∷ b ∷ [])
IsAscii-two_bytes a b h k = IsAscii-cons a (b ∷ []) h (IsAscii-cons b [] k IsAscii-nil)

IsAscii-escaped_byte : (mode : Bool) (b : ℕ) → b < 128 → IsAscii (escaped_byte mode b)
IsAscii-escaped_byte true b h =
    cond_both (eqb b single_quote) _ _ IsAscii (λ _. IsAscii-two_bytes single_quote single_quote (omega arith) (omega arith))
    (λ _. IsAscii-cons b [] h IsAscii-nil)
IsAscii-escaped_byte false b h =
    let two : (c : ℕ) → c < 128 → IsAscii (backslash ∷ c ∷ []) = λ c l. IsAscii-two_bytes backslash c (omega arith) l in
    cond_both (eqb b 0) _ _ IsAscii (λ _. two (byte "0") (omega arith)) (λ _.
    cond_both (eqb b newline) _ _ IsAscii (λ _. two (byte "n") (omega arith)) (λ _.
    cond_both (eqb b carriage_return) _ _ IsAscii (λ _. two (byte "r") (omega arith)) (λ _.
    cond_both (eqb b control_z) _ _ IsAscii (λ _. two (byte "Z") (omega arith)) (λ _.
    cond_both (eqb b backslash) _ _ IsAscii (λ _. two backslash (omega arith)) (λ _.
    cond_both (eqb b single_quote) _ _ IsAscii (λ _. two single_quote (omega arith)) (λ _.
    cond_both (eqb b double_quote) _ _ IsAscii (λ _. two double_quote (omega arith)) (λ _. IsAscii-cons b [] h IsAscii-nil)))))))

-- a byte that is not ASCII stays
escaped_byte-high : (mode : Bool) (b : ℕ) → 128 ≤ b → escaped_byte mode b ≡ b ∷ []
escaped_byte-high true b h = cond-false (eqb b single_quote) _ _ (ne_eqb b single_quote (λ e. omega arith))
escaped_byte-high false b h =
    cond-false (eqb b 0) _ _ (ne_eqb b 0 (λ e. omega arith))
    ∙ cond-false (eqb b newline) _ _ (ne_eqb b newline (λ e. omega arith))
    ∙ cond-false (eqb b carriage_return) _ _ (ne_eqb b carriage_return (λ e. omega arith))
    ∙ cond-false (eqb b control_z) _ _ (ne_eqb b control_z (λ e. omega arith))
    ∙ cond-false (eqb b backslash) _ _ (ne_eqb b backslash (λ e. omega arith))
    ∙ cond-false (eqb b single_quote) _ _ (ne_eqb b single_quote (λ e. omega arith))
    ∙ cond-false (eqb b double_quote) _ _ (ne_eqb b double_quote (λ e. omega arith))

escaped-high_cons : (mode : Bool) (b : ℕ) (bs : List ℕ) → 128 ≤ b → escaped mode bs ≡ bs → escaped mode (b ∷ bs) ≡ b ∷ bs
escaped-high_cons mode b bs h e = ap (λ t. t ++ escaped mode bs) (escaped_byte-high mode b h) ∙ ap (λ t. b ∷ t) e

-- so does a character that is not ASCII
escaped-high_character : (mode : Bool) (c : ℕ) → 128 ≤ c → escaped mode (encode c) ≡ encode c
unfolding encode
escaped-high_character mode c h =
    let P : List ℕ → Type 0 = λ t. escaped mode t ≡ t in
    cond_both (ltb c 128) _ _ P (λ e. absurd (omega (arith, ltb-true c 128 e))) (λ _.
    cond_both (ltb c 2048) _ _ P (λ _. escaped-high_cons mode _ _ (omega arith) (escaped-high_cons mode _ _ (omega arith) refl)) (λ _.
    cond_both (ltb c 65536) _ _ P
    (λ _. escaped-high_cons mode _ _ (omega arith) (escaped-high_cons mode _ _ (omega arith) (escaped-high_cons mode _ _ (omega arith) refl)))
    (λ _. escaped-high_cons mode _ _ (omega arith) (escaped-high_cons mode _ _ (omega arith)
    (escaped-high_cons mode _ _ (omega arith) (escaped-high_cons mode _ _ (omega arith) refl))))))

IsUtf8-escaped_character : (mode : Bool) (c : ℕ) → scalar c ≡ true → IsUtf8 (escaped mode (encode c))
IsUtf8-escaped_character mode c s =
    elim (cases_lt c 128) [
      | inl low ↦ subst (λ t. IsUtf8 (escaped mode t)) (sym (encode_ascii c low))
          (IsUtf8-from_ascii _ (IsAscii-append _ _ (IsAscii-escaped_byte mode c low) IsAscii-nil))
      | inr high ↦ subst IsUtf8 (sym (escaped-high_character mode c high)) (IsUtf8-encode c s)
    ]

IsUtf8-escaped_characters : (mode : Bool) (cs : List ℕ) → scalars cs ≡ true → IsUtf8 (escaped mode (encodes cs))
IsUtf8-escaped_characters mode [] s = IsUtf8-nil
IsUtf8-escaped_characters mode (c ∷ cs) s =
    let parts = and_parts (scalar c) (scalars cs) s in
    subst IsUtf8 (sym (flat_map-append (escaped_byte mode) (encode c) (encodes cs)))
    (IsUtf8-append _ _ (IsUtf8-escaped_character mode c parts.0) (IsUtf8-escaped_characters mode cs parts.1))

pub IsUtf8-escaped : (mode : Bool) (bytes : List ℕ) → IsUtf8 bytes → IsUtf8 (escaped mode bytes)
IsUtf8-escaped mode bytes u = subst (λ t. IsUtf8 (escaped mode t)) u.1.1 (IsUtf8-escaped_characters mode u.0 u.1.0)

pub IsUtf8-quoted : (text : List ℕ) → IsUtf8 text → IsUtf8 (quoted text)
IsUtf8-quoted text u =
    let quote : IsUtf8 (single_quote ∷ []) = IsUtf8-from_ascii _ (IsAscii-cons single_quote [] (omega arith) IsAscii-nil) in
    IsUtf8-append (single_quote ∷ []) (text ++ single_quote ∷ []) quote (IsUtf8-append text (single_quote ∷ []) u quote)
