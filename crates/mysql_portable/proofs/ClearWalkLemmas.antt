-- The walk over a text that looks whether it is clear.
use Rattle.std.specs.Prelude.{cond, not, Bool}
use Rattle.std.proofs.Common.{◌≡◌, ◌≢◌, ◌==◌, ◌&&◌, ◌+◌, ◌-◌, ◌<◌, ◌≤◌, ℕ, zero, suc, true, false, List, length, drop, get_or, refl, sym, ap, ◌∙◌, arith, ne_eqb}
use Rattle.std.proofs.lemmas.Bool.{and_parts, or_parts, not-true, not-false}
use Rattle.std.proofs.lemmas.List.{drop_more}
use Rattle.std.proofs.lemmas.Simd.{none_from_empty_mask}
use lib.Count.{count_trailing_zeros}
use Rattle.mysql_sql_text.proofs.MaskLemmas.{IsMask}
use Rattle.mysql_named_params.proofs.LaneLemmas.{lowest_bit}
use Rattle.std.specs.Str.{byte}
use Rattle.mysql_named_params.specs.Bytes.{bracket, carriage_return, colon, dash, dollar, question_mark, slash, space}
use Rattle.mysql_portable.specs.Steady.{is_steady}
use Rattle.mysql_portable.specs.Clear.{is_never_in_doubt, is_of_client, may_be_in_doubt, is_in_doubt, is_in_doubt_for, is_in_doubt_in_client, is_clear_after, byte_before, is_clear_from, AreNeverInDoubt}
use Rattle.mysql_portable.proofs.ClearLemmas.{and_false}

never_in_doubt_on_servers : (before b : ℕ) (rest : List ℕ) → is_never_in_doubt b ≡ true → is_in_doubt before b rest ≡ false
never_in_doubt_on_servers before b rest h =
    let p = and_parts (is_steady b) _ h in
    let q0 = or_parts (b == carriage_return) _ (not-true _ p.1) in
    let q1 = or_parts (b == bracket) _ q0.1 in
    let q2 = or_parts (b == dollar) _ q1.1 in
    let q3 = or_parts (b == slash) _ q2.1 in
    let q4 = or_parts (b == dash) _ q3.1 in
    let q5 = or_parts (b == colon) (b == question_mark) q4.1 in
    rw (p.0, q0.0, q1.0, q2.0, q3.0, q4.0, q5.0, q5.1) (and_false _)

never_in_doubt_in_client : (b : ℕ) (rest : List ℕ) → is_never_in_doubt b ≡ true → is_of_client b ≡ false → is_in_doubt_in_client b rest ≡ false
never_in_doubt_in_client b rest h k =
    let p = and_parts (is_steady b) _ h in
    let q0 = or_parts (b == carriage_return) _ (not-true _ p.1) in
    let q1 = or_parts (b == bracket) _ q0.1 in
    let q2 = or_parts (b == dollar) _ q1.1 in
    let q3 = or_parts (b == slash) _ q2.1 in
    let q4 = or_parts (b == dash) _ q3.1 in
    let r0 = or_parts (b == 0) _ k in
    let r1 = or_parts (b == byte ";") _ r0.1 in
    rw (q3.0, q4.0, r0.0, r1.0, r1.1) refl

never_in_doubt_for : (client : Bool) (before b : ℕ) (rest : List ℕ) → may_be_in_doubt client b ≡ false → is_in_doubt_for client before b rest ≡ false
never_in_doubt_for client before b rest h =
    let p = or_parts (not (is_never_in_doubt b)) (client && is_of_client b) h in
    let never_in_doubt : is_never_in_doubt b ≡ true = not-false _ p.0 in
    go client p.1 never_in_doubt
  where
    go : (client : Bool) → (client && is_of_client b) ≡ false → is_never_in_doubt b ≡ true → is_in_doubt_for client before b rest ≡ false
    go false e never_in_doubt = rw (never_in_doubt_on_servers before b rest never_in_doubt) refl
    go true e never_in_doubt = rw (never_in_doubt_on_servers before b rest never_in_doubt) (never_in_doubt_in_client b rest never_in_doubt e)

before_next : (text : List ℕ) (k : ℕ) → byte_before text (k + 1) ≡ get_or text k 0
before_next text k =
    let back : k + 1 - 1 ≡ k = omega arith in
    let some : (k + 1 == 0) ≡ false = ne_eqb (k + 1) 0 (omega arith) in
    ap (λ x. cond x space (get_or text (k + 1 - 1) 0)) some ∙ ap (λ i. get_or text i 0) back

module _ (client : Bool) where
  clear_here : (text : List ℕ) (k : ℕ) → k < length text →
      is_clear_from client text k ≡ (not (is_in_doubt_for client (byte_before text k) (get_or text k 0) (drop (k + 1) text)) && is_clear_from client text (k + 1))
  clear_here text k lt =
      ap (is_clear_after client (byte_before text k)) (drop_more text k 0 lt)
      ∙ ap (λ b. not (is_in_doubt_for client (byte_before text k) (get_or text k 0) (drop (k + 1) text)) && is_clear_after client b (drop (k + 1) text)) (sym (before_next text k))

  pub doubt_here : (text : List ℕ) (k : ℕ) → k < length text →
      is_in_doubt_for client (byte_before text k) (get_or text k 0) (drop (k + 1) text) ≡ true → is_clear_from client text k ≡ false
  doubt_here text k lt h = clear_here text k lt ∙ ap (λ d. not d && is_clear_from client text (k + 1)) h

  pub passed_here : (text : List ℕ) (k : ℕ) → k < length text →
      is_in_doubt_for client (byte_before text k) (get_or text k 0) (drop (k + 1) text) ≡ false →
      is_clear_from client text (k + 1) ≡ is_clear_from client text k
  passed_here text k lt h = sym (clear_here text k lt ∙ ap (λ d. not d && is_clear_from client text (k + 1)) h)

  pub never_in_doubt_here : (text : List ℕ) (k : ℕ) → k < length text → may_be_in_doubt client (get_or text k 0) ≡ false →
      is_clear_from client text (k + 1) ≡ is_clear_from client text k
  never_in_doubt_here text k lt h = passed_here text k lt (never_in_doubt_for client (byte_before text k) (get_or text k 0) (drop (k + 1) text) h)

  never_in_doubt_run : (text : List ℕ) (from n : ℕ) → from + n ≤ length text → AreNeverInDoubt client text from (from + n) →
      is_clear_from client text (from + n) ≡ is_clear_from client text from
  never_in_doubt_run text from zero le h = ap (is_clear_from client text) (omega arith)
  never_in_doubt_run text from (suc n) le h =
      let last : from + suc n ≡ (from + n) + 1 = omega arith in
      ap (is_clear_from client text) last
      ∙ (never_in_doubt_here text (from + n) (omega arith) (h (from + n) (omega arith) (omega arith)))
      ∙ never_in_doubt_run text from n (omega arith) (λ k lo hi. h k lo (omega arith))

  -- ---- the bytes of a block that may be in doubt

  module _ (text : List ℕ) (at end mask : ℕ) (le : at ≤ end) (room : end ≤ length text) (few : end - at ≤ 64) (is : IsMask (may_be_in_doubt client) text at end mask) where
    -- the next byte that may be in doubt, by the lowest bit
    abbrev pub next : ℕ
    next = at + count_trailing_zeros 64 mask

    -- the bytes before it are never in doubt
    pub next_in_mask : mask ≢ 0 → (next < end) × (is_clear_from client text next ≡ is_clear_from client text at)
    next_in_mask some =
        let low = lowest_bit (may_be_in_doubt client) text at (end - at) mask (omega arith) few is some in
        (omega (arith, low.0), never_in_doubt_run text at (count_trailing_zeros 64 mask) (omega (arith, low.0)) (λ k first last. low.1 k first last))

    -- no byte that may be in doubt is left
    pub none_left : mask ≡ 0 → is_clear_from client text end ≡ is_clear_from client text at
    none_left empty =
        let whole : at + (end - at) ≡ end = omega arith in
        let none = none_from_empty_mask (may_be_in_doubt client) text at (end - at) 0 (omega arith) (sym is ∙ empty) in
        ap (is_clear_from client text) (sym whole) ∙ never_in_doubt_run text at (end - at) (omega arith) (λ k first last. none k first last)
