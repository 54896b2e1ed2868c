-- One text is spelled, reads as the double, and has the shortest and the closest digits.
use Rattle.std.proofs.Common.{◌≡◌, ℕ, ◌+◌, ◌*◌, ◌^◌, ◌<◌, ◌++◌, Bool, true, false, cond, List, [], ◌∷◌, length, drop, Some, inl, inr, refl, sym, ap, ◌∙◌, subst, arith, ltb}
use Rattle.std.proofs.Math.Logic.{∥∥₁_elim}
use Rattle.std.proofs.lemmas.Float.Parse.{scan_numeral-text_of, parse_float-text_of}
use base.Stored.{Coded-set}
use Rattle.std.specs.Coded.{coded_ℕ, coded_list}
use Rattle.std.specs.Fmt.{sign_text}
use Rattle.std.specs.Float.{binary64}
use Rattle.std.specs.Float.Numeral.{Parts, scan_numeral, text_of, exponent_text}
use Rattle.std.specs.Float.Parse.{parse_float, sign_len}
use lib.Ieee.{Float, nan, inf, fin, Format, low, prec, emax, odd, units, round}
use Rattle.mysql_float_literal.specs.DoubleSpelling.{DoubleSpelling, IsSpelled, IsSpelledDouble}
use Rattle.mysql_float_literal.specs.DoubleDigits.{decimal_of, nearest_double, IsShortest, IsClosest, number_in, begins_minus, HasShortestDigits, HasClosestDigits}
use Rattle.mysql_float_literal.proofs.ReadBeforeLemmas.{first_digit}
use Rattle.mysql_float_literal.proofs.OneTextLemmas.{one_text}
use Rattle.mysql_float_literal.proofs.OneDigitsLemmas.{one_decimal}

-- ---- the number in a spelled text

pub some_whole : (p : Parts) → IsSpelled p → 0 < length p.whole
some_whole p s = elim s.near_or_far [ inl n ↦ n.whole_is.0.0 | inr f ↦ omega (arith, f.whole_is.0) ]

-- what std reads in it
pub record Reading (text : List ℕ) (negative : Bool) (p : Parts) : Type 0 where
  pub parts : scan_numeral (drop (sign_len text) text) ≡ p
  pub minus : begins_minus text ≡ negative
  pub parsed : parse_float binary64 text ≡ Some (nearest_double negative (decimal_of p))

reading_of : (negative : Bool) (p : Parts) → IsSpelled p → Reading (sign_text negative ++ text_of p) negative p
reading_of true p s = record { parts = scan_numeral-text_of p s.well_formed; minus = refl; parsed = parse_float-text_of binary64 true p s.well_formed (some_whole p s) }
reading_of false p s =
    let first = first_digit p.whole (cond p.point (46 ∷ p.fraction) [] ++ exponent_text p.exponent_negative p.exponent) s.well_formed.whole_digits (some_whole p s) in
    record {
      parts = rw (first.0, first.1) (scan_numeral-text_of p s.well_formed);
      minus = first.0;
      parsed = parse_float-text_of binary64 false p s.well_formed (some_whole p s);
    }

pub reading : (text : List ℕ) (x : DoubleSpelling text) → Reading text x.negative x.parts
reading text x = subst (λ t. Reading t x.negative x.parts) (sym x.text_is) (reading_of x.negative x.parts x.spelled)

-- ---- the sign of a rounded number

abbrev pub is_minus : Float → Bool
is_minus nan = false
is_minus (inf s) = s
is_minus (fin s m e) = s

odd_minus : (d : ℕ) (s : Bool) (q k l : ℕ) → is_minus (odd d s q k l) ≡ s
unfolding odd
odd_minus d s Prim.Native.Nat.zero k l = refl
odd_minus d s (Prim.Native.Nat.suc q) k l = refl

either_minus : (b s : Bool) (x y : Float) → is_minus x ≡ s → is_minus y ≡ s → is_minus (cond b x y) ≡ s
either_minus true s x y h k = h
either_minus false s x y h k = k

units_minus : (f : Format) (s : Bool) (q k : ℕ) → is_minus (units f s q k) ≡ s
unfolding units
units_minus f s q k = either_minus (ltb (q * 2 ^ k) (2 ^ (low f + Prim.Native.Nat.suc (emax f)))) s (odd (Prim.Native.Nat.suc (prec f)) s q k (low f)) (inf s) (odd_minus (Prim.Native.Nat.suc (prec f)) s q k (low f)) refl

pub round_minus : (f : Format) (s : Bool) (a b : ℕ) → is_minus (round f s a b) ≡ s
unfolding round
round_minus f s a b = units_minus f s _ _

-- ---- the law

shortest_of : (text : List ℕ) (negative : Bool) (p : Parts) → Reading text negative p → IsShortest (begins_minus text) (number_in text) → IsShortest negative (decimal_of p)
shortest_of text negative p r h = subst (λ q. IsShortest negative (decimal_of q)) r.parts (subst (λ n. IsShortest n (number_in text)) r.minus h)

closest_of : (text : List ℕ) (negative : Bool) (p : Parts) → Reading text negative p → IsClosest (begins_minus text) (number_in text) → IsClosest negative (decimal_of p)
closest_of text negative p r h = subst (λ q. IsClosest negative (decimal_of q)) r.parts (subst (λ n. IsClosest n (number_in text)) r.minus h)

value_of : {A : Type 0} (x y : A) → Some x ≡ Some y → x ≡ y
value_of x y e = cc

same_text : (a b : List ℕ) (x : Float) (s : DoubleSpelling a) (t : DoubleSpelling b) → parse_float binary64 a ≡ Some x → parse_float binary64 b ≡ Some x
    → IsShortest (begins_minus a) (number_in a) → IsShortest (begins_minus b) (number_in b) → IsClosest (begins_minus a) (number_in a) → IsClosest (begins_minus b) (number_in b) → a ≡ b
same_text a b x s t read_a read_b short_a short_b close_a close_b =
    let p = reading a s in
    let q = reading b t in
    let same : nearest_double s.negative (decimal_of s.parts) ≡ nearest_double t.negative (decimal_of t.parts) = value_of _ _ (sym p.parsed ∙ (read_a ∙ (sym read_b ∙ q.parsed))) in
    let sign : s.negative ≡ t.negative = sym (round_minus binary64 s.negative _ _) ∙ (ap is_minus same ∙ round_minus binary64 t.negative _ _) in
    let here : nearest_double s.negative (decimal_of s.parts) ≡ nearest_double s.negative (decimal_of t.parts) = same ∙ ap (λ n. nearest_double n (decimal_of t.parts)) (sym sign) in
    let number = one_decimal s.negative (decimal_of s.parts) (decimal_of t.parts) here
    (shortest_of a s.negative s.parts p short_a) (shortest_of b s.negative t.parts (turned sign q) short_b)
    (closest_of a s.negative s.parts p close_a) (closest_of b s.negative t.parts (turned sign q) close_b) in
    one_text a b s t sign number
  where
    turned : s.negative ≡ t.negative → Reading b t.negative t.parts → Reading b s.negative t.parts
    turned sign q = subst (λ n. Reading b n t.parts) (sym sign) q

pub one_written : (a b : List ℕ) (x : Float) → IsSpelledDouble a → IsSpelledDouble b → parse_float binary64 a ≡ Some x → parse_float binary64 b ≡ Some x
    → HasShortestDigits a → HasShortestDigits b → HasClosestDigits a → HasClosestDigits b → a ≡ b
one_written a b x s t read_a read_b short_a short_b close_a close_b =
    let set : IsSet (List ℕ) = Coded-set (coded_list coded_ℕ) in
    let one = set a b in
    ∥∥₁_elim s one (λ s. ∥∥₁_elim t one (λ t. ∥∥₁_elim short_a one (λ short_a. ∥∥₁_elim short_b one (λ short_b.
    ∥∥₁_elim close_a one (λ close_a. ∥∥₁_elim close_b one (λ close_b. same_text a b x s t read_a read_b short_a short_b close_a close_b))))))
