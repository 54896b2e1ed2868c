-- Guarded strings by runs: bytes up to a quote or a backslash stay.
use Rattle.std.proofs.Common.{◌≡◌, ◌++◌, ◌+◌, ◌-◌, ◌<◌, ◌≤◌, ◌&&◌, ℕ, zero, suc, Bool, true, false, List, [], ◌∷◌, length, take, drop, refl, sym, ap, ◌∙◌, arith, append_assoc, length-append}
use Rattle.std.specs.Prelude.{nat_le, nat_lt, slice_index}
use Rattle.std.specs.Str.{byte}
use Rattle.std.proofs.Math.Seq.{take-length, drop-length}
use Rattle.std.proofs.lemmas.List.{append-nil, drop_more, length-take-le, take_rest}
use Rattle.std.proofs.lemmas.Bool.{false_from_ne_true}
use Rattle.std.proofs.lemmas.Bool.Decides.{nat_tests}
use Rattle.memchr.specs.Find.{is_byte2, Nowhere, Passes}
use Rattle.mysql_steady_text.specs.GuardedLiteral.{guarded, guarded_byte}

-- whether a byte from 128 on is directly before the index, if `high` says so of the front
high_at : Bool → List ℕ → ℕ → Bool
high_at high bytes zero = high
high_at high bytes (suc n) = nat_le 128 (slice_index bytes n)

-- a byte that is neither a quote nor a backslash
stays : (high : Bool) (b : ℕ) → is_byte2 39 92 b ≡ false → guarded_byte high b ≡ b ∷ []
stays high b h = grind (arith, nat_tests)

high_later : (high : Bool) (b : ℕ) (bytes : List ℕ) (n : ℕ) →
    high_at (nat_le 128 b) bytes n ≡ high_at high (b ∷ bytes) (suc n)
unfolding high_at
high_later high b bytes zero = refl
high_later high b bytes (suc n) = refl

-- up to the first quote or backslash
run : (n : ℕ) (high : Bool) (bytes : List ℕ) → n ≤ length bytes →
    Nowhere (Passes (is_byte2 39 92) bytes) 0 n →
    guarded high bytes ≡ take n bytes ++ guarded (high_at high bytes n) (drop n bytes)
unfolding high_at
run zero high bytes le none = refl
run (suc n) high [] le none = cc
run (suc n) high (b ∷ bytes) le none =
    let first = stays high b (false_from_ne_true _ (none 0 (omega arith) (omega arith))) in
    let later = run n (nat_le 128 b) bytes (omega arith) (λ k low high p. none (suc k) (omega arith) (omega arith) p) in
    rw first (ap (λ t. b ∷ t) (later ∙ ap (λ h. take n bytes ++ guarded h (drop n bytes)) (high_later high b bytes n)))

-- the flag that code computes
flag : (bytes : List ℕ) (n : ℕ) →
    high_at false bytes n ≡ (nat_lt 0 n && nat_le 128 (slice_index bytes (n - 1)))
unfolding high_at
flag bytes zero = refl
flag bytes (suc n) =
    let before : suc n - 1 ≡ n = omega arith in
    let some : nat_lt 0 (suc n) ≡ true = grind (arith, nat_tests) in
    rw (before, some) refl

low_after : (high : Bool) (b : ℕ) (bytes : List ℕ) → is_byte2 39 92 b ≡ true →
    guarded high (b ∷ bytes) ≡ guarded_byte high b ++ guarded false bytes
low_after high b bytes h = ap (λ low. guarded_byte high b ++ guarded low bytes) (low_of b h)
  where
    low_of : (b : ℕ) → is_byte2 39 92 b ≡ true → nat_le 128 b ≡ false
    low_of b h = grind (arith, nat_tests)

-- a run, the byte behind it, and the bytes behind that
pub step : (bytes : List ℕ) (n : ℕ) (high : Bool) → n < length bytes →
    Nowhere (Passes (is_byte2 39 92) bytes) 0 n → Passes (is_byte2 39 92) bytes n →
    high ≡ (nat_lt 0 n && nat_le 128 (slice_index bytes (n - 1))) →
    guarded false bytes ≡ take n bytes ++ (guarded_byte high (slice_index bytes n)
    ++ guarded false (take (length bytes - (n + 1)) (drop (n + 1) bytes)))
step bytes n high lt none here is =
    run n false bytes (omega arith) none
    ∙ ap (λ t. take n bytes ++ t) (
    ap (λ h. guarded h (drop n bytes)) (flag bytes n ∙ sym is)
    ∙ (ap (guarded high) (drop_more bytes n 0 lt)
    ∙ (low_after high (slice_index bytes n) (drop (n + 1) bytes) here
    ∙ ap (λ t. guarded_byte high (slice_index bytes n) ++ guarded false t) (sym (take_rest bytes (n + 1))))))

pub step-len : (bytes : List ℕ) (n : ℕ) (high : Bool) → n < length bytes →
    Nowhere (Passes (is_byte2 39 92) bytes) 0 n → Passes (is_byte2 39 92) bytes n →
    high ≡ (nat_lt 0 n && nat_le 128 (slice_index bytes (n - 1))) →
    length (guarded false bytes) ≡ n + (length (guarded_byte high (slice_index bytes n))
    + length (guarded false (take (length bytes - (n + 1)) (drop (n + 1) bytes))))
step-len bytes n high lt none here is =
    let byte = guarded_byte high (slice_index bytes n) in
    let later = guarded false (take (length bytes - (n + 1)) (drop (n + 1) bytes)) in
    ap length (step bytes n high lt none here is)
    ∙ (length-append (take n bytes) (byte ++ later)
    ∙ (ap (λ k. k + length (byte ++ later)) (length-take-le n bytes (omega arith))
    ∙ ap (λ k. n + k) (length-append byte later)))

-- bytes with neither a quote nor a backslash
pub guarded-last : (bytes : List ℕ) → Nowhere (Passes (is_byte2 39 92) bytes) 0 (length bytes) →
    guarded false bytes ≡ bytes
guarded-last bytes none =
    run (length bytes) false bytes (omega arith) none
    ∙ rw (take-length bytes, drop-length bytes) (append-nil bytes)

-- what is written before the bytes that are left
pub joined : (front run byte later : List ℕ) {front_run front_byte whole text : List ℕ} →
    front_byte ≡ front_run ++ byte → front_run ≡ front ++ run → whole ≡ run ++ (byte ++ later) →
    front ++ whole ≡ text → front_byte ++ later ≡ text
joined front run byte later second first parts so =
    ap (λ t. t ++ later) (second ∙ ap (λ t. t ++ byte) first)
    ∙ (append_assoc (front ++ run) byte later
    ∙ (append_assoc front run (byte ++ later) ∙ (ap (λ t. front ++ t) (sym parts) ∙ so)))
