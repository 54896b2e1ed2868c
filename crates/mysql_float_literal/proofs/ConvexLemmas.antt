-- What lies between two numbers that read as a double reads as it too.
use Rattle.std.proofs.Common.{◌≡◌, ◌⊎◌, ℕ, ◌+◌, ◌-◌, ◌*◌, ◌/◌, ◌^◌, ◌≤◌, Bool, true, false, cond, T, ltb, eqb, ◌&&◌, ◌||◌, inl, inr, refl, sym, ap, ◌∙◌, subst, arith, true≢false}
use native.Mathlib.Nat.{le_antisymm}
use lib.Dec.{ltb→lt, eqb→eq}
use lib.Ieee.{Float, nan, inf, fin, Format, binary64, prec, low, hid, top, up, down, size, neg, le, lt, eq, fits, of_bits, to_bits}
use lib.Ieee.Bits.{of_bits-to_bits}
use lib.Ieee.Fits.{down_pos, round-fits}
use lib.Ieee.Nearest.{div_same}
use lib.Ieee.Order.{round_mono}
use Rattle.core.proofs.dec2flt.Patterns.{neg-round}
use Rattle.mysql_float_literal.specs.DoubleDigits.{Decimal, nearest_double, AreSameDecimal, size_above, size_below, distance}
use Rattle.mysql_float_literal.proofs.DigitLemmas.{ten_pos}
use Rattle.mysql_float_literal.proofs.OneWrittenLemmas.{is_minus, round_minus}

-- ---- floats between each other

or_split : (a b : Bool) → T (a || b) → T a ⊎ T b
or_split true b t = inl tt
or_split false b t = inr t

at_most : (a b : ℕ) → T (ltb a b || (eqb a b && true)) → a ≤ b
at_most a b t = elim (or_split (ltb a b) (eqb a b && true) t) [ inl l ↦ omega (arith, ltb→lt a b l) | inr e ↦ omega (arith, eqb→eq a b (left (eqb a b) e)) ]
  where
    left : (x : Bool) → T (x && true) → T x
    left true t = tt
    left false t = t

bits_by_size : (f : Format) (s : Bool) (m n : ℕ) (e d : Rattle.std.specs.Prelude.ℤ) → m * up e * 2 ^ low f / down e ≡ n * up d * 2 ^ low f / down d → to_bits f (fin s m e) ≡ to_bits f (fin s n d)
unfolding to_bits
bits_by_size f s m n e d h = ap (λ n. let k = size n - prec f in cond s (top f) 0 + k * hid f + n / 2 ^ k) h

same_size : (f : Format) (m n : ℕ) (e d : Rattle.std.specs.Prelude.ℤ) → T (fits f (fin false m e)) → T (fits f (fin false n d)) → m * up e * down d ≡ n * up d * down e → fin false m e ≡ fin false n d
same_size f m n e d p q h =
    let scaled : m * up e * 2 ^ low f * down d ≡ n * up d * 2 ^ low f * down e = swapped (m * up e) (n * up d) (down e) (down d) (2 ^ low f) h in
    sym (of_bits-to_bits f (fin false m e) p)
    ∙ (ap (of_bits f) (bits_by_size f false m n e d (div_same _ _ _ _ (down_pos e) (down_pos d) scaled))
    ∙ of_bits-to_bits f (fin false n d) q)
  where
    swapped : (a b x y l : ℕ) → a * y ≡ b * x → a * l * y ≡ b * l * x
    swapped a b x y l h = let left : a * l * y ≡ a * y * l = omega arith in let right : b * x * l ≡ b * l * x = omega arith in left ∙ (ap (λ n. n * l) h ∙ right)

pub both_ways : (f : Format) (x y : Float) → T (fits f x) → T (fits f y) → is_minus x ≡ false → is_minus y ≡ false → T (le x y) → T (le y x) → x ≡ y
unfolding le lt eq
both_ways f nan y p q s t h k = absurd h
both_ways f (inf true) y p q s t h k = absurd (true≢false s)
both_ways f (inf false) nan p q s t h k = absurd h
both_ways f (inf false) (inf true) p q s t h k = absurd (true≢false t)
both_ways f (inf false) (inf false) p q s t h k = refl
both_ways f (inf false) (fin b n d) p q s t h k = absurd h
both_ways f (fin true m e) y p q s t h k = absurd (true≢false s)
both_ways f (fin false m e) nan p q s t h k = absurd h
both_ways f (fin false m e) (inf true) p q s t h k = absurd (true≢false t)
both_ways f (fin false m e) (inf false) p q s t h k = absurd k
both_ways f (fin false m e) (fin true n d) p q s t h k = absurd (true≢false t)
both_ways f (fin false m e) (fin false n d) p q s t h k = same_size f m n e d p q (le_antisymm (at_most _ _ h) (at_most _ _ k))

-- ---- numbers between each other

-- d is at most e
abbrev pub IsAtMost : Decimal → Decimal → Type 0
IsAtMost d e = d.digits * 10 ^ d.tens * 10 ^ e.places ≤ e.digits * 10 ^ e.tens * 10 ^ d.places

abbrev pub reads : Decimal → Float
reads d = nearest_double false d

pub reads_in_order : (d e : Decimal) → IsAtMost d e → T (le (reads d) (reads e))
reads_in_order d e h = round_mono binary64 _ _ _ _ (ten_pos d.places) (ten_pos e.places) h

pub reads_between : (x : Float) (d e f : Decimal) → IsAtMost d e → IsAtMost e f → reads d ≡ x → reads f ≡ x → reads e ≡ x
reads_between x d e f h k low high =
    let to : T (le (reads e) (reads d)) = subst (λ y. T (le (reads e) y)) (high ∙ sym low) (reads_in_order e f k) in
    both_ways binary64 (reads e) (reads d) (round-fits binary64 false _ _) (round-fits binary64 false _ _) (round_minus binary64 false _ _) (round_minus binary64 false _ _) to (reads_in_order d e h) ∙ low

-- ---- signs

neg-neg : (x : Float) → neg (neg x) ≡ x
unfolding neg
neg-neg nan = refl
neg-neg (inf true) = refl
neg-neg (inf false) = refl
neg-neg (fin true m e) = refl
neg-neg (fin false m e) = refl

pub reads_signed : (d : Decimal) → neg (reads d) ≡ nearest_double true d
reads_signed d = neg-round binary64 _ _

-- numbers that read alike with a sign read alike without it, and the other way round
pub alike_unsigned : (negative : Bool) (d e : Decimal) → nearest_double negative d ≡ nearest_double negative e → reads d ≡ reads e
alike_unsigned false d e h = h
alike_unsigned true d e h = sym (neg-neg (reads d)) ∙ (ap neg (reads_signed d ∙ (h ∙ sym (reads_signed e))) ∙ neg-neg (reads e))

neg_size : (x : Float) → (size_above (neg x) ≡ size_above x) × (size_below (neg x) ≡ size_below x)
unfolding neg
neg_size nan = (refl, refl)
neg_size (inf s) = (refl, refl)
neg_size (fin s m e) = (refl, refl)

pub distance_unsigned : (negative : Bool) (d e : Decimal) → distance (nearest_double negative d) e ≡ distance (reads d) e
distance_unsigned false d e = refl
distance_unsigned true d e =
    let s = neg_size (reads d) in
    ap (λ x. distance x e) (sym (reads_signed d)) ∙ (λ i. Rattle.mysql_float_literal.specs.DoubleDigits.apart (e.digits * 10 ^ e.tens * s.1 i) (s.0 i * 10 ^ e.places))
