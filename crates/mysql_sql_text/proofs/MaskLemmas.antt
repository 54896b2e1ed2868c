-- A mask of lanes: one bit for each, the first lane's lowest.
use Rattle.std.proofs.Common.{◌≡◌, ℕ, zero, suc, ◌+◌, ◌-◌, ◌*◌, ◌/◌, ◌%◌, ◌^◌, ◌≤◌, Bool, true, false, cond, List, [], ◌∷◌, map, length, take, drop, Fits, w8, refl, sym, ap, ap₂, ◌∙◌, arith}
use Rattle.std.proofs.lemmas.Bool.{agree_below, agree_below_at}
use Rattle.std.proofs.lemmas.List.{length-map, drop-take, drop-drop, drop-map}
use Rattle.std.proofs.lemmas.Simd.{mask_l-mod}
use Rattle.std.proofs.Math.Nat.{div-one, zero-div, div-div-eq-div-mul, pow-succ'}
use lib.Lanes.{chunk, mask_l, top, Each1}

-- the mask of a vector that was computed lane by lane, held against a test at each of the 256 bytes
each_lane : (f : ℕ → ℕ) (p : ℕ → Bool) → agree_below (λ x. top 7 (f x)) p 256 ≡ true
    → (v : List ℕ) → Each1 (Fits w8) v → map (top 7) (map f v) ≡ map p v
each_lane f p all [] fits = refl
each_lane f p all (x ∷ xs) fits =
    ap₂ (λ a b. a ∷ b) (agree_below_at (λ y. top 7 (f y)) p 256 x all fits.0.fits) (each_lane f p all xs fits.1)

pub mask_is : (f : ℕ → ℕ) (p : ℕ → Bool) (v z : List ℕ) → length v ≤ 64 → Each1 (Fits w8) v → z ≡ map f v
    → agree_below (λ x. top 7 (f x)) p 256 ≡ true → mask_l (map (top 7) z) % 2 ^ 64 ≡ mask_l (map p v)
mask_is f p v z short fits is all =
    ap (λ l. mask_l l % 2 ^ 64) (ap (map (top 7)) is ∙ each_lane f p all v fits)
    ∙ mask_l-mod (map p v) 64 (omega (arith, length-map v p))

-- a mask without its lowest bits is that of the other lanes
pub mask_l-drop : (count : ℕ) (bits : List Bool) → mask_l bits / 2 ^ count ≡ mask_l (drop count bits)
mask_l-drop zero bits = div-one (mask_l bits)
mask_l-drop (suc count) [] = zero-div (2 ^ suc count)
mask_l-drop (suc count) (bit ∷ bits) =
    let half : mask_l (bit ∷ bits) / 2 ≡ mask_l bits = halved bit in
    ap (λ power. mask_l (bit ∷ bits) / power) (pow-succ' 2 count)
    ∙ sym (div-div-eq-div-mul (mask_l (bit ∷ bits)) 2 (2 ^ count))
    ∙ ap (λ mask. mask / 2 ^ count) half ∙ mask_l-drop count bits
  where
    halved : (first : Bool) → (cond first 1 0 + 2 * mask_l bits) / 2 ≡ mask_l bits
    halved true = omega arith
    halved false = omega arith

-- ---- a block whose mask is walked

-- the mask of the bytes that pass a test, from this index up to the end of the block
abbrev pub IsMask : (ℕ → Bool) → List ℕ → ℕ → ℕ → ℕ → Type 0
IsMask p text at end mask = mask ≡ mask_l (map p (chunk at (end - at) text))

-- without its first `count` bits it is the mask of the other bytes
pub later_mask : (p : ℕ → Bool) (text : List ℕ) (at next end mask count : ℕ) → at + count ≡ next → next ≤ end
    → IsMask p text at end mask → IsMask p text next end (mask / 2 ^ count)
later_mask p text at next end mask count same le is =
    let long : end - at ≡ count + (end - next) = omega arith in
    let cut : drop count (chunk at (end - at) text) ≡ chunk next (end - next) text =
    ap (λ n. drop count (take n (drop at text))) long
    ∙ (drop-take count (end - next) (drop at text) ∙ (ap (take (end - next)) (drop-drop count at text) ∙ ap (λ i. chunk i (end - next) text) same)) in
    ap (λ m. m / 2 ^ count) is
    ∙ (mask_l-drop count (map p (chunk at (end - at) text)) ∙ ap mask_l (drop-map p count (chunk at (end - at) text) ∙ ap (map p) cut))
