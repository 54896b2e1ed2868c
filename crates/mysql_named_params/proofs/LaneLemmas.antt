-- From the mask of 16 bytes that are compared at once to each of the bytes.
use Rattle.std.proofs.Common.{◌≡◌, ◌≢◌, ℕ, zero, suc, cond, bit_or, ◌==◌, ◌&&◌, Option, Some, None, inl, inr, ◌+◌, ◌-◌, ◌%◌, ◌^◌, ◌<◌, ◌≤◌, Bool, true, false, not, ◌||◌, List, [], ◌∷◌, map, length, get_or, Fits, w8, refl, sym, ap, ap₂, ◌∙◌, subst, arith}
use Rattle.std.proofs.lemmas.Bool.{agree_below, agree_below_at, not-true, cases_Bool, cases_eq, eq-eqb, ne_eqb, cond-true, cond-false}
use Rattle.std.proofs.lemmas.Simd.{map-map, mask_l-mod, length-chunk, get_or-chunk, leading_from_mask_l, trailing_mask_l, run_in_chunk_le, run_in_chunk_fails, run_in_chunk_stops}
use Rattle.std.proofs.lemmas.List.{length-map}
use Rattle.std.proofs.lemmas.List.Sums.{prefix_len_passes, prefix_len-le-length, prefix_len_stops}
use Rattle.std.proofs.Math.Bool.{beq}
use Rattle.std.specs.List.{prefix_len}
use lib.Count.{count_trailing_zeros}
use lib.Lanes.{chunk, zip2, mask_l, top}
use Rattle.mysql_named_params.specs.Lanes.{first_set, EachPasses, IsFirstOther}

zip2-map : (h : ℕ → ℕ → ℕ) (f g : ℕ → ℕ) (xs : List ℕ) →
    zip2 h (map f xs) (map g xs) ≡ map (λ x. h (f x) (g x)) xs
zip2-map h f g [] = refl
zip2-map h f g (x ∷ xs) = ap (λ r. h (f x) (g x) ∷ r) (zip2-map h f g xs)

-- an operation on two vectors that were computed lane by lane from v
pub joined : (h : ℕ → ℕ → ℕ) (f g : ℕ → ℕ) (v : List ℕ) {a b : List ℕ} → a ≡ map f v → b ≡ map g v →
    zip2 h a b ≡ map (λ x. h (f x) (g x)) v
joined h f g v p q = ap₂ (zip2 h) p q ∙ zip2-map h f g v

module _ (q : ℕ → Bool) (d : List ℕ) (i n : ℕ) (z : List ℕ) (room : i + n ≤ length d) (few : n ≤ 64)
    (fits : (k : ℕ) → Fits w8 (get_or d k 0)) (none : mask_l (map (top 7) z) % 2 ^ 64 ≡ 0)
    (f : ℕ → ℕ) (lanes : z ≡ map f (chunk i n d)) where
  abbrev stops : ℕ → Bool
  stops x = top 7 (f x)

  long : length (chunk i n d) ≡ n
  long = length-chunk i n d room

  counted : prefix_len (λ x. not (stops x)) (chunk i n d) ≡ n
  counted =
      let v = chunk i n d in
      let mask = ap (λ l. mask_l l % 2 ^ 64) (ap (map (top 7)) lanes ∙ map-map (top 7) f v) ∙ mask_l-mod (map stops v) 64 (omega (arith, length-map v stops, long)) in
      leading_from_mask_l stops v (sym mask ∙ none) ∙ long

  -- if no lane stops, and each byte at which none stops passes q, all pass
  pub all_pass : agree_below (λ x. stops x || q x) (λ _. true) 256 ≡ true →
      (k : ℕ) → i ≤ k → k < i + n → q (get_or d k 0) ≡ true
  all_pass all k from to =
      let back : i + (k - i) ≡ k = omega arith in
      let at = get_or-chunk i n d (k - i) 0 (omega (arith, long)) ∙ ap (λ j. get_or d j 0) back in
      let goes_on : stops (get_or d k 0) ≡ false = subst (λ x. stops x ≡ false) at (not-true _ (prefix_len_passes (λ x. not (stops x)) (chunk i n d) (k - i) 0 (omega (arith, counted)))) in
      sym (ap (λ b. b || q (get_or d k 0)) goes_on) ∙ agree_below_at (λ x. stops x || q x) (λ _. true) 256 (get_or d k 0) all (fits k).fits

-- where no lane passes, the mask is empty
empty_mask : (p : ℕ → Bool) (xs : List ℕ) → prefix_len (λ x. not (p x)) xs ≡ length xs → mask_l (map p xs) ≡ 0
empty_mask p [] e = refl
empty_mask p (x ∷ xs) e =
    elim (cases_Bool (p x)) [
      | inl h ↦
          let none : prefix_len (λ y. not (p y)) (x ∷ xs) ≡ 0 = rw h refl in
          absurd (omega (arith, none, e))
      | inr h ↦
          let more : prefix_len (λ y. not (p y)) (x ∷ xs) ≡ 1 + prefix_len (λ y. not (p y)) xs = rw h refl in
          let rest = empty_mask p xs (omega (arith, more, e)) in
          rw (h, rest) refl
    ]

-- from the mask to the first of the bytes that fails a test, if the lanes that stop are those that fail it
module _ (q : ℕ → Bool) (d : List ℕ) (i n : ℕ) (o : Option ℕ) (z : List ℕ) (room : i + n ≤ length d) (few : n ≤ 64)
    (fits : (k : ℕ) → Fits w8 (get_or d k 0)) (found : o ≡ first_set (mask_l (map (top 7) z) % 2 ^ 64))
    (f : ℕ → ℕ) (lanes : z ≡ map f (chunk i n d)) (all : agree_below (λ x. not (top 7 (f x))) q 256 ≡ true) where
  abbrev ends : ℕ → Bool
  ends x = top 7 (f x)

  abbrev before : ℕ
  before = prefix_len (λ x. not (ends x)) (chunk i n d)

  whole : length (chunk i n d) ≡ n
  whole = length-chunk i n d room

  first_is : o ≡ first_set (mask_l (map ends (chunk i n d)))
  first_is =
      let v = chunk i n d in
      found ∙ ap first_set (ap (λ l. mask_l l % 2 ^ 64) (ap (map (top 7)) lanes ∙ map-map (top 7) f v) ∙ mask_l-mod (map ends v) 64 (omega (arith, length-map v ends, whole)))

  within : before ≤ n
  within = omega (arith, whole, prefix_len-le-length (λ x. not (ends x)) (chunk i n d))

  agree : (k : ℕ) → not (ends (get_or d k 0)) ≡ q (get_or d k 0)
  agree k = agree_below_at (λ x. not (ends x)) q 256 (get_or d k 0) all (fits k).fits

  passed : (r : ℕ) → r ≤ before → EachPasses q d i (i + r)
  passed r le k from to =
      let back : i + (k - i) ≡ k = omega arith in
      let at = get_or-chunk i n d (k - i) 0 (omega (arith, within)) ∙ ap (λ j. get_or d j 0) back in
      sym (agree k) ∙ subst (λ x. not (ends x) ≡ true) at (prefix_len_passes (λ x. not (ends x)) (chunk i n d) (k - i) 0 (omega arith))

  stopped : before < n → q (get_or d (i + before) 0) ≡ false
  stopped short =
      sym (agree (i + before)) ∙ subst (λ x. not (ends x) ≡ false) (get_or-chunk i n d before 0 short) (prefix_len_stops (λ x. not (ends x)) (chunk i n d) 0 (omega (arith, whole, short)))

  pub first_other : IsFirstOther q d i n o
  first_other =
      let v = chunk i n d in
      let mask = mask_l (map ends v) in
      elim (cases_eq mask 0) [
        | inl none ↦
            let same : o ≡ None = first_is ∙ cond-true (mask == 0) None (Some (count_trailing_zeros 64 mask)) (eq-eqb mask 0 none) in
            let counted : before ≡ n = leading_from_mask_l ends v none ∙ whole in
            subst (IsFirstOther q d i n) (sym same) (passed n (omega (arith, counted)))
        | inr some ↦
            let counted : count_trailing_zeros 64 mask ≡ before = trailing_mask_l ends 64 v (omega (arith, whole)) (omega (arith, some)) in
            let same : o ≡ Some before = first_is ∙ (cond-false (mask == 0) None (Some (count_trailing_zeros 64 mask)) (ne_eqb mask 0 some) ∙ ap Some counted) in
            let short : before < n = elim (cases_eq before n) [ inl e ↦ absurd (some (empty_mask ends v (e ∙ sym whole))) | inr ne ↦ omega (arith, within, ne) ] in
            subst (IsFirstOther q d i n) (sym same) (short, passed before (omega arith), stopped short)
      ]

-- the lowest bit of a mask that isn't empty is that of the first byte that passes
pub lowest_bit : (p : ℕ → Bool) (d : List ℕ) (i n mask : ℕ) → i + n ≤ length d → n ≤ 64 →
    mask ≡ mask_l (map p (chunk i n d)) → mask ≢ 0 →
    (count_trailing_zeros 64 mask < n)
    × ((k : ℕ) → i ≤ k → k < i + count_trailing_zeros 64 mask → p (get_or d k 0) ≡ false)
    × (p (get_or d (i + count_trailing_zeros 64 mask) 0) ≡ true)
lowest_bit p d i n mask room few is some =
    let v = chunk i n d in
    let long = length-chunk i n d room in
    let counted : count_trailing_zeros 64 mask ≡ prefix_len (λ x. not (p x)) v =
    ap (count_trailing_zeros 64) is ∙ trailing_mask_l p 64 v (omega (arith, long)) (omega (arith, is, some)) in
    let within = run_in_chunk_le p d i n _ 0 room counted in
    let short : count_trailing_zeros 64 mask < n =
    elim (cases_eq (count_trailing_zeros 64 mask) n) [
      | inl e ↦ absurd (some (is ∙ empty_mask p v (sym counted ∙ (e ∙ sym long))))
      | inr ne ↦ omega (arith, within, ne)
    ] in
    (short, run_in_chunk_fails p d i n _ 0 room counted, run_in_chunk_stops p d i n _ 0 room counted short)

-- two tests that give one answer
pub agrees : (f g : ℕ → Bool) → ((x : ℕ) → f x ≡ g x) → (n : ℕ) → agree_below f g n ≡ true
agrees f g all zero = refl
agrees f g all (suc n) = rw (all n, agrees f g all n) (same (g n))
  where
    same : (b : Bool) → (beq b b && true) ≡ true
    same true = refl
    same false = refl

-- two bytes that are compared with a lane, as `first_of_two` does
pub either_lane : (p q : Bool) → not (top 7 (bit_or (cond p 255 0) (cond q 255 0))) ≡ not (p || q)
either_lane true true = refl
either_lane true false = refl
either_lane false true = refl
either_lane false false = refl
