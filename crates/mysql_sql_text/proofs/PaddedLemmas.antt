-- A number after zeros is a given number of digits, found from the last one.
use Rattle.std.proofs.Common.{◌≡◌, ℕ, ◌+◌, ◌-◌, ◌*◌, ◌/◌, ◌%◌, ◌^◌, ◌<◌, ◌≤◌, Bool, true, ◌&&◌, eqb, get_or, List, [], ◌∷◌, ◌++◌, length, refl, sym, ◌∙◌, ap, append_assoc, arith, suc, zero, length-append, inl, inr}
use Rattle.std.specs.Prelude.{replicate}
use Rattle.std.specs.Fmt.{decimal}
use Rattle.std.proofs.lemmas.Fmt.{decimal_digit, decimal_step, decimal_nonempty, length-decimal-le}
use Rattle.std.proofs.lemmas.Bool.{cases_lt, agree_below, agree_below_at, and_parts, eqb-true}
use Rattle.std.proofs.Math.Nat.{one-le-pow, pow-succ'}
use Rattle.mysql_sql_text.specs.LiteralText.{padded}
use Rattle.mysql_sql_text.proofs.ByteNames.{digit_zero}

-- the last digits of a number
abbrev pub last_digits : ℕ → ℕ → List ℕ
last_digits zero n = []
last_digits (suc width) n = last_digits width (n / 10) ++ (digit_zero + n % 10) ∷ []

abbrev zeros : ℕ → List ℕ
zeros count = replicate count digit_zero

zeros-end : (count : ℕ) → zeros count ++ digit_zero ∷ [] ≡ digit_zero ∷ zeros count
zeros-end zero = refl
zeros-end (suc count) = ap (λ t. digit_zero ∷ t) (zeros-end count)

last_digits-zero : (width : ℕ) → last_digits width 0 ≡ zeros width
last_digits-zero zero = refl
last_digits-zero (suc width) = ap (λ t. t ++ digit_zero ∷ []) (last_digits-zero width) ∙ zeros-end width

pub length-decimal-step : (n : ℕ) → 10 ≤ n → n < 2 ^ 64 → length (decimal n) ≡ length (decimal (n / 10)) + 1
length-decimal-step n ten h = ap length (decimal_step n ten h) ∙ length-append (decimal (n / 10)) ((digit_zero + n % 10) ∷ [])

pub last_digits-padded : (width n : ℕ) → n < 2 ^ 64 → length (decimal n) ≤ width → last_digits width n ≡ padded width n
last_digits-padded zero n h fits = absurd (omega (arith, decimal_nonempty n h))
last_digits-padded (suc width) n h fits =
    elim (cases_lt n 10) [
      | inl small ↦
          let front : last_digits width (n / 10) ≡ zeros width = ap (last_digits width) (omega arith) ∙ last_digits-zero width in
          let last : digit_zero + n % 10 ≡ digit_zero + n = omega arith in
          let one : length (decimal n) ≡ 1 = ap length (decimal_digit n small) in
          let count : suc width - length (decimal n) ≡ width = omega (arith, one) in
          ap (λ t. t ++ (digit_zero + n % 10) ∷ []) front ∙ ap (λ d. zeros width ++ d ∷ []) last
          ∙ ap (λ t. zeros width ++ t) (sym (decimal_digit n small)) ∙ ap (λ m. zeros m ++ decimal n) (sym count)
      | inr large ↦
          let step = length-decimal-step n large h in
          let before = last_digits-padded width (n / 10) (omega arith) (omega (arith, step)) in
          let count : width - length (decimal (n / 10)) ≡ suc width - length (decimal n) = omega (arith, step) in
          ap (λ t. t ++ (digit_zero + n % 10) ∷ []) before
          ∙ append_assoc (zeros (width - length (decimal (n / 10)))) (decimal (n / 10)) ((digit_zero + n % 10) ∷ [])
          ∙ ap (λ t. zeros (width - length (decimal (n / 10))) ++ t) (sym (decimal_step n large h))
          ∙ ap (λ m. zeros m ++ decimal n) count
    ]

-- a number that reaches a power of ten has more digits than its zeros
length-decimal-power_gt : (k n : ℕ) → 10 ^ k ≤ n → n < 2 ^ 64 → k < length (decimal n)
length-decimal-power_gt zero n reached h = decimal_nonempty n h
length-decimal-power_gt (suc k) n reached h =
    let tens : 10 ^ suc k ≡ 10 * 10 ^ k = pow-succ' 10 k in
    let some : 1 ≤ 10 ^ k = one-le-pow k 10 (omega arith) in
    let before = length-decimal-power_gt k (n / 10) (omega arith) (omega arith) in
    omega (arith, length-decimal-step n (omega arith) h)

-- from one power of ten to the next, all numbers are as long
pub length-decimal-power : (k n : ℕ) → 10 ^ k ≤ n → n < 10 * 10 ^ k → n < 2 ^ 64 → length (decimal n) ≡ k + 1
length-decimal-power k n reached below h =
    let tens : 10 ^ suc k ≡ 10 * 10 ^ k = pow-succ' 10 k in
    let most = length-decimal-le (suc k) n (omega arith) (omega arith) h in
    omega (arith, length-decimal-power_gt k n reached h)

-- the last two of the digits are those of the rest by a hundred
pub last_digits-two : (width n : ℕ)
    → last_digits (width + 2) n ≡ last_digits width (n / 100) ++ (digit_zero + n % 100 / 10) ∷ (digit_zero + n % 100 % 10) ∷ []
last_digits-two width n =
    let two : width + 2 ≡ suc (suc width) = omega arith in
    let front : n / 10 / 10 ≡ n / 100 = omega arith in
    let tens : n / 10 % 10 ≡ n % 100 / 10 = omega arith in
    let ones : n % 10 ≡ n % 100 % 10 = omega arith in
    ap (λ w. last_digits w n) two
    ∙ append_assoc (last_digits width (n / 10 / 10)) ((digit_zero + n / 10 % 10) ∷ []) ((digit_zero + n % 10) ∷ [])
    ∙ ap (λ m. last_digits width m ++ (digit_zero + n / 10 % 10) ∷ (digit_zero + n % 10) ∷ []) front
    ∙ ap (λ d. last_digits width (n / 100) ++ (digit_zero + d) ∷ (digit_zero + n % 10) ∷ []) tens
    ∙ ap (λ d. last_digits width (n / 100) ++ (digit_zero + n % 100 / 10) ∷ (digit_zero + d) ∷ []) ones

-- whether a table has the two digits of a number at twice the number
abbrev has_two_digits : List ℕ → ℕ → Bool
has_two_digits table n = eqb (get_or table (2 * n) 0) (digit_zero + n / 10) && eqb (get_or table (2 * n + 1) 0) (digit_zero + n % 10)

-- a table that was held against the digits of each number below 100
pub two_digits-by_table : (table : List ℕ) → agree_below (has_two_digits table) (λ _. true) 100 ≡ true → (n : ℕ) → n < 100
    → (get_or table (2 * n) 0 ≡ digit_zero + n / 10) × (get_or table (2 * n + 1) 0 ≡ digit_zero + n % 10)
two_digits-by_table table all n h =
    let parts = and_parts _ _ (agree_below_at (has_two_digits table) (λ _. true) 100 n all h) in
    (eqb-true _ _ parts.0, eqb-true _ _ parts.1)
