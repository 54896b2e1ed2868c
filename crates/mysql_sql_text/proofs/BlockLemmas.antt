-- Blocks of 16 bytes: which of their bytes are escaped, how many, and that a block without escapes stands for itself.
use Rattle.std.proofs.Common.{◌≡◌, ℕ, ◌+◌, ◌*◌, ◌≤◌, eqb, Bool, true, false, cond, List, [], ◌∷◌, ◌++◌, map, length, drop, refl, sym, ap, ap₂, ◌∙◌, arith, length-append}
use Rattle.std.specs.List.{count_by}
use Rattle.std.proofs.lemmas.Bool.{cond_both, false≢true}
use Rattle.std.proofs.lemmas.List.Sums.{sum_by-cons}
use Rattle.std.proofs.lemmas.Grind.{flat_map-append}
use Rattle.std.proofs.lemmas.Simd.{ones-mask_l, chunk-drop, length-chunk}
use Rattle.std.proofs.lemmas.Nat.{zero_from_ones}
use lib.Lanes.{chunk, mask_l}
use Rattle.mysql_sql_text.specs.LiteralText.{control_z, escaped, escaped_byte, needs_escape}
use Rattle.mysql_sql_text.proofs.ByteNames.{newline, carriage_return, backslash, single_quote, double_quote}

-- one byte: two for an escaped one, else itself
on_escaped_byte : (P : List ℕ → Type 0) (mode : Bool) (b : ℕ) → ((x y : ℕ) → P (x ∷ y ∷ [])) → P (b ∷ []) → P (escaped_byte mode b)
on_escaped_byte P true b two one = cond_both (eqb b single_quote) _ _ P (λ _. two _ _) (λ _. one)
on_escaped_byte P false b two one =
    cond_both (eqb b 0) _ _ P (λ _. two _ _) (λ _.
    cond_both (eqb b newline) _ _ P (λ _. two _ _) (λ _.
    cond_both (eqb b carriage_return) _ _ P (λ _. two _ _) (λ _.
    cond_both (eqb b control_z) _ _ P (λ _. two _ _) (λ _.
    cond_both (eqb b backslash) _ _ P (λ _. two _ _) (λ _.
    cond_both (eqb b single_quote) _ _ P (λ _. two _ _) (λ _.
    cond_both (eqb b double_quote) _ _ P (λ _. two _ _) (λ _. one)))))))

length-escaped_byte : (mode : Bool) (b : ℕ) → length (escaped_byte mode b) ≡ 1 + cond (needs_escape mode b) 1 0
length-escaped_byte mode b = on_escaped_byte (λ t. length t ≡ 1 + cond (eqb (length t) 2) 1 0) mode b (λ x y. refl) refl

pub escaped_byte-plain : (mode : Bool) (b : ℕ) → needs_escape mode b ≡ false → escaped_byte mode b ≡ b ∷ []
escaped_byte-plain mode b =
    on_escaped_byte (λ t. eqb (length t) 2 ≡ false → t ≡ b ∷ []) mode b (λ x y h. absurd (false≢true (sym h))) (λ h. refl)

-- escaped bytes are longer by one for each that is escaped
pub length-escaped : (mode : Bool) (bytes : List ℕ) → length (escaped mode bytes) ≡ length bytes + count_by (needs_escape mode) bytes
length-escaped mode [] = refl
length-escaped mode (b ∷ bytes) =
    omega (
      arith,
      length-append (escaped_byte mode b) (escaped mode bytes),
      length-escaped_byte mode b,
      length-escaped mode bytes,
      sum_by-cons (λ x. cond (needs_escape mode x) 1 0) b bytes,
    )

pub length-escaped-le : (mode : Bool) (bytes : List ℕ) → length bytes ≤ length (escaped mode bytes)
length-escaped-le mode bytes = omega (arith, length-escaped mode bytes)

-- the step over a block
pub escaped-block : (mode : Bool) (d : List ℕ) (i : ℕ)
    → escaped mode (drop i d) ≡ escaped mode (chunk i 16 d) ++ escaped mode (drop (i + 16) d)
escaped-block mode d i =
    ap (escaped mode) (chunk-drop i 16 d) ∙ flat_map-append (escaped_byte mode) (chunk i 16 d) (drop (i + 16) d)

pub length-escaped-cut : (mode : Bool) (d : List ℕ) (i : ℕ)
    → length (escaped mode (drop i d)) ≡ length (escaped mode (chunk i 16 d)) + length (escaped mode (drop (i + 16) d))
length-escaped-cut mode d i =
    ap length (escaped-block mode d i) ∙ length-append (escaped mode (chunk i 16 d)) (escaped mode (drop (i + 16) d))

-- the same, its escapes counted
pub length-escaped-block : (mode : Bool) (d : List ℕ) (i : ℕ) → i + 16 ≤ length d
    → length (escaped mode (drop i d)) ≡ 16 + count_by (needs_escape mode) (chunk i 16 d) + length (escaped mode (drop (i + 16) d))
length-escaped-block mode d i buffer =
    omega (arith, length-escaped-cut mode d i, length-escaped mode (chunk i 16 d), length-chunk i 16 d buffer)

-- an empty mask has no bit of the first byte, and none of the others
pub no_bits : (first : Bool) (others : ℕ) → cond first 1 0 + 2 * others ≡ 0 → (first ≡ false) × (others ≡ 0)
no_bits true others h = absurd (omega arith)
no_bits false others h = (refl, omega arith)

-- bytes whose mask is empty stand for themselves
pub escaped-none : (mode : Bool) (bytes : List ℕ) → mask_l (map (needs_escape mode) bytes) ≡ 0 → escaped mode bytes ≡ bytes
escaped-none mode [] h = refl
escaped-none mode (b ∷ bytes) h =
    let bits = no_bits (needs_escape mode b) (mask_l (map (needs_escape mode) bytes)) h in
    ap₂ (λ a t. a ++ t) (escaped_byte-plain mode b bits.0) (escaped-none mode bytes bits.1)

-- so do bytes that are no longer when they are escaped
pub escaped-as_long : (mode : Bool) (bytes : List ℕ) → length (escaped mode bytes) ≡ length bytes → escaped mode bytes ≡ bytes
escaped-as_long mode bytes same =
    escaped-none mode bytes
    (zero_from_ones _ (ones-mask_l (needs_escape mode) bytes ∙ omega (arith, length-escaped mode bytes)))
