-- Texts that read as a double, but aren't in its spelling.
use Rattle.std.proofs.Common.{◌≡◌, ◌≢◌, ℕ, ◌++◌, Bool, true, false, List, [], length, get_or, inl, inr, refl, sym, ap, ◌∙◌, subst, arith}
use Rattle.std.proofs.Math.Logic.{∥∥₁_elim}
use Rattle.std.proofs.lemmas.Float.Parse.{scan_numeral-text_of}
use Rattle.std.specs.Prelude.{codes}
use Rattle.std.specs.Fmt.{sign_text}
use Rattle.std.specs.Float.Numeral.{Parts, scan_numeral, text_of}
use Rattle.mysql_float_literal.specs.DoubleSpelling.{DoubleSpelling, IsSpelled, IsSpelledDouble, IsSpelledFar, IsSpelledNear}

abbrev parts : List ℕ → Bool → List ℕ → Bool → List ℕ → ℕ → Parts
parts whole point fraction negative exponent len = record { whole = whole; point = point; fraction = fraction; exponent_negative = negative; exponent = exponent; len = len }

-- a spelling without a minus has the parts that std reads
read_parts : (text : List ℕ) (x : DoubleSpelling text) → get_or text 0 0 ≢ 45 → scan_numeral text ≡ x.parts
read_parts text x first = go x.negative x.text_is
  where
    go : (negative : Bool) → text ≡ sign_text negative ++ text_of x.parts → scan_numeral text ≡ x.parts
    go true e = absurd (first (ap (λ bytes. get_or bytes 0 0) e))
    go false e = ap scan_numeral e ∙ scan_numeral-text_of x.parts x.spelled.well_formed

refused : (text : List ℕ) (p : Parts) → get_or text 0 0 ≢ 45 → scan_numeral text ≡ p → (IsSpelledNear p → ⊥) → (IsSpelledFar p → ⊥) → IsSpelledDouble text → ⊥
refused text p first read near far h =
    ∥∥₁_elim h (λ a b. absurd a) (λ x.
    let spelled : IsSpelled p = subst IsSpelled (sym (read_parts text x first) ∙ read) x.spelled in
    elim spelled.near_or_far [ inl n ↦ near n | inr n ↦ far n ])

-- two digits before the point
pub two_digits : IsSpelledDouble (codes "15e-1") → ⊥
unfolding scan_numeral
two_digits =
    refused (codes "15e-1") (parts (codes "15") false [] true (codes "1") 5) (λ e. omega (arith, e)) refl
    (λ n. omega (arith, ap (λ bytes. get_or bytes 0 0) n.exponent_is.0))
    (λ n. omega (arith, n.whole_is.0))

-- zeros in front
pub zeros_in_front : IsSpelledDouble (codes "0001.5e0") → ⊥
unfolding scan_numeral
zeros_in_front =
    refused (codes "0001.5e0") (parts (codes "0001") true (codes "5") false (codes "0") 8) (λ e. omega (arith, e)) refl
    (λ n. let one : 4 ≡ 1 = n.whole_is.0.1 refl in omega (arith, one))
    (λ n. omega (arith, n.whole_is.0))

-- a zero at the end
pub zero_at_the_end : IsSpelledDouble (codes "1.50e0") → ⊥
unfolding scan_numeral
zero_at_the_end =
    refused (codes "1.50e0") (parts (codes "1") true (codes "50") false (codes "0") 6) (λ e. omega (arith, e)) refl
    (λ n. elim n.fraction_is.1 [
      | inl e ↦ omega (arith, ap length e)
      | inr above ↦ omega (arith, above)
    ])
    (λ n. omega (arith, n.exponent_is.1))
