-- The test for a double tests for its shape.
use Rattle.std.proofs.Common.{◌≡◌, ◌++◌, ◌==◌, ◌&&◌, not, ℕ, Bool, true, false, List, [], ◌∷◌, refl, sym, ap, ◌∙◌, subst, append_assoc, true≢false, inl, inr}
use Rattle.std.proofs.lemmas.Bool.{and_parts, and_from, cases_Bool, eqb-true}
use Rattle.std.specs.Char.{is_ascii_digit}
use Rattle.std.specs.List.{list_all}
use Rattle.std.specs.Str.{byte}
use Rattle.std.specs.Prelude.{codes}
use Rattle.mysql_sql_text.specs.LiteralShape.{AreDigits}
use Rattle.mysql_float_literal.specs.DoubleShape.{IsSign, no_sign, minus_sign, IsFraction, no_fraction, point_and_digits, IsDouble, double_shape}
use Rattle.mysql_float_literal.specs.DoubleTest.{ends_in_digits, is_exponent, is_double_from, is_double}
use Rattle.mysql_sql_text.proofs.DigitLemmas.{digits_push, digits_all}

-- ---- from the shape

other_than : (b k : ℕ) → is_ascii_digit b ≡ true → is_ascii_digit k ≡ false → (b == k) ≡ false
other_than b k h f =
    elim (cases_Bool (b == k)) [
      | inl e ↦ absurd (true≢false (sym h ∙ (ap is_ascii_digit (eqb-true b k e) ∙ f)))
      | inr e ↦ e
    ]

all_digits_end : (digits : List ℕ) → list_all is_ascii_digit digits ≡ true → ends_in_digits true digits ≡ true
all_digits_end [] h = refl
all_digits_end (b ∷ digits) h = let p = and_parts (is_ascii_digit b) (list_all is_ascii_digit digits) h in and_from _ _ p.0 (all_digits_end digits p.1)

digits_end : (digit : Bool) (digits : List ℕ) → AreDigits digits → ends_in_digits digit digits ≡ true
digits_end digit [] h = absurd h
digits_end digit (b ∷ digits) h = and_from _ _ h.0 (all_digits_end digits h.1)

exponent_of : {sign : List ℕ} (digits : List ℕ) → IsSign sign → AreDigits digits → is_exponent (sign ++ digits) ≡ true
exponent_of digits no_sign h = go digits h
  where
    go : (digits : List ℕ) → AreDigits digits → is_exponent digits ≡ true
    go [] h = absurd h
    go (b ∷ digits) h = rw (other_than b (byte "-") h.0 refl) (digits_end false (b ∷ digits) h)
exponent_of digits minus_sign h = digits_end false digits h

after_all : (point_passed : Bool) (digits rest : List ℕ) → list_all is_ascii_digit digits ≡ true →
    is_double_from true point_passed (digits ++ rest) ≡ is_double_from true point_passed rest
after_all point_passed [] rest h = refl
after_all point_passed (b ∷ digits) rest h =
    let p = and_parts (is_ascii_digit b) (list_all is_ascii_digit digits) h in rw p.0 (after_all point_passed digits rest p.1)

after_digits : (digit point_passed : Bool) (digits rest : List ℕ) → AreDigits digits →
    is_double_from digit point_passed (digits ++ rest) ≡ is_double_from true point_passed rest
after_digits digit point_passed [] rest h = absurd h
after_digits digit point_passed (b ∷ digits) rest h = rw h.0 (after_all point_passed digits rest h.1)

fraction_of : {fraction : List ℕ} (exponent : List ℕ) → IsFraction fraction → is_exponent exponent ≡ true →
    is_double_from true false (fraction ++ (byte "e" ∷ exponent)) ≡ true
fraction_of exponent no_fraction h = h
fraction_of exponent (point_and_digits digits d) h = after_digits false true digits (byte "e" ∷ exponent) d ∙ h

number_of : (whole : List ℕ) {fraction : List ℕ} (exponent : List ℕ) → AreDigits whole → IsFraction fraction → is_exponent exponent ≡ true →
    is_double_from false false (whole ++ (fraction ++ (byte "e" ∷ exponent))) ≡ true
number_of whole {fraction} exponent w f h = after_digits false false whole (fraction ++ (byte "e" ∷ exponent)) w ∙ fraction_of exponent f h

signed_of : {sign : List ℕ} (whole rest : List ℕ) → IsSign sign → AreDigits whole → is_double_from false false (whole ++ rest) ≡ true →
    is_double (sign ++ (whole ++ rest)) ≡ true
signed_of [] rest s w h = absurd w
signed_of (b ∷ whole) rest no_sign w h = rw (other_than b (byte "-") w.0 refl) h
signed_of (b ∷ whole) rest minus_sign w h = h

pub tested : {text : List ℕ} → IsDouble text → is_double text ≡ true
tested (double_shape sign whole fraction exponent_sign exponent s w f es e) =
    signed_of whole _ s w (number_of whole (exponent_sign ++ exponent) w f (exponent_of exponent es e))

-- ---- to the shape

ends_parts : (digit : Bool) (bytes : List ℕ) → ends_in_digits digit bytes ≡ true →
    (list_all is_ascii_digit bytes ≡ true) × (digit ≡ false → AreDigits bytes)
ends_parts digit [] h = (refl, λ e. absurd (true≢false (sym h ∙ e)))
ends_parts digit (b ∷ bytes) h =
    let p = and_parts (is_ascii_digit b) (ends_in_digits true bytes) h in
    let all = (ends_parts true bytes p.1).0 in
    (and_from _ _ p.0 all, λ e. (p.0, all))

-- an exponent, after its `e`
pub data IsExponent : List ℕ → Type 0 where
  exponent_shape : (sign digits : List ℕ) → IsSign sign → AreDigits digits → IsExponent (sign ++ digits)

exponent_parts : (bytes : List ℕ) → is_exponent bytes ≡ true → IsExponent bytes
exponent_parts [] h = absurd (true≢false (sym h))
exponent_parts (b ∷ bytes) h =
    elim (cases_Bool (b == byte "-")) [
      | inl e ↦
          subst (λ x. IsExponent (x ∷ bytes)) (sym (eqb-true b (byte "-") e))
          (exponent_shape (codes "-") bytes minus_sign ((ends_parts false bytes (rw e at h)).1 refl))
      | inr e ↦ exponent_shape [] (b ∷ bytes) no_sign ((ends_parts false (b ∷ bytes) (rw e at h)).1 refl)
    ]

-- digits, and then perhaps a point and digits, and then an exponent
pub data IsUnsigned : List ℕ → Type 0 where
  unsigned_shape : (whole fraction exponent : List ℕ) → AreDigits whole → IsFraction fraction → IsExponent exponent →
      IsUnsigned (whole ++ (fraction ++ (byte "e" ∷ exponent)))

not_both : (a : Bool) → (a && not true) ≡ true → ⊥
not_both true e = true≢false (sym e)
not_both false e = true≢false (sym e)

-- after the point, behind these digits
fraction_parts : (whole front bytes : List ℕ) (digit : Bool) → AreDigits whole → list_all is_ascii_digit front ≡ true → (digit ≡ true → AreDigits front) →
    is_double_from digit true bytes ≡ true → IsUnsigned (whole ++ (codes "." ++ (front ++ bytes)))
fraction_parts whole front [] digit w all some h = absurd (true≢false (sym h))
fraction_parts whole front (b ∷ bytes) digit w all some h =
    elim (cases_Bool (is_ascii_digit b)) [
      | inl e ↦
          let more = digits_push front b all e in
          subst (λ x. IsUnsigned (whole ++ (codes "." ++ x))) (append_assoc front (b ∷ []) bytes) (fraction_parts whole (front ++ b ∷ []) bytes true w (digits_all (front ++ b ∷ []) more) (λ t. more) (rw e at h))
      | inr e ↦ elim (cases_Bool (b == byte ".")) [
        | inl d ↦
            let k : ((digit && not true) && is_double_from false true bytes) ≡ true = rw (e, d) at h in
            absurd (not_both digit (and_parts (digit && not true) (is_double_from false true bytes) k).0)
        | inr d ↦
            let k : ((b == byte "e" && digit) && is_exponent bytes) ≡ true = rw (e, d) at h in
            let p = and_parts (b == byte "e" && digit) (is_exponent bytes) k in
            let q = and_parts (b == byte "e") digit p.0 in
            subst (λ x. IsUnsigned (whole ++ (codes "." ++ (front ++ x ∷ bytes)))) (sym (eqb-true b (byte "e") q.0))
            (unsigned_shape whole (codes "." ++ front) bytes w (point_and_digits front (some q.1)) (exponent_parts bytes p.1))
      ]
    ]

number_parts : (front bytes : List ℕ) (digit : Bool) → list_all is_ascii_digit front ≡ true → (digit ≡ true → AreDigits front) →
    is_double_from digit false bytes ≡ true → IsUnsigned (front ++ bytes)
number_parts front [] digit all some h = absurd (true≢false (sym h))
number_parts front (b ∷ bytes) digit all some h =
    elim (cases_Bool (is_ascii_digit b)) [
      | inl e ↦
          let more = digits_push front b all e in
          subst IsUnsigned (append_assoc front (b ∷ []) bytes) (number_parts (front ++ b ∷ []) bytes true (digits_all (front ++ b ∷ []) more) (λ t. more) (rw e at h))
      | inr e ↦ elim (cases_Bool (b == byte ".")) [
        | inl d ↦
            let k : ((digit && not false) && is_double_from false true bytes) ≡ true = rw (e, d) at h in
            let p = and_parts (digit && not false) (is_double_from false true bytes) k in
            subst (λ x. IsUnsigned (front ++ x ∷ bytes)) (sym (eqb-true b (byte ".") d))
            (fraction_parts front [] bytes false (some (and_parts digit (not false) p.0).0) refl (λ t. absurd (true≢false (sym t))) p.1)
        | inr d ↦
            let k : ((b == byte "e" && digit) && is_exponent bytes) ≡ true = rw (e, d) at h in
            let p = and_parts (b == byte "e" && digit) (is_exponent bytes) k in
            let q = and_parts (b == byte "e") digit p.0 in
            subst (λ x. IsUnsigned (front ++ x ∷ bytes)) (sym (eqb-true b (byte "e") q.0))
            (unsigned_shape front [] bytes (some q.1) no_fraction (exponent_parts bytes p.1))
      ]
    ]

signed : {sign bytes : List ℕ} → IsSign sign → IsUnsigned bytes → IsDouble (sign ++ bytes)
signed {sign} s (unsigned_shape whole fraction _ w f (exponent_shape exponent_sign exponent es e)) =
    double_shape sign whole fraction exponent_sign exponent s w f es e

pub shaped : (text : List ℕ) → is_double text ≡ true → IsDouble text
shaped [] h = absurd (true≢false (sym h))
shaped (b ∷ bytes) h =
    elim (cases_Bool (b == byte "-")) [
      | inl e ↦
          subst (λ x. IsDouble (x ∷ bytes)) (sym (eqb-true b (byte "-") e))
          (signed minus_sign (number_parts [] bytes false refl (λ t. absurd (true≢false (sym t))) (rw e at h)))
      | inr e ↦ signed no_sign (number_parts [] (b ∷ bytes) false refl (λ t. absurd (true≢false (sym t))) (rw e at h))
    ]
