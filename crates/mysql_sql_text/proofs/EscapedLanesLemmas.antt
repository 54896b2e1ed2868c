-- Blocks that are escaped four lanes at once.
use Rattle.std.proofs.Common.{◌≡◌, ℕ, zero, suc, ◌+◌, ◌*◌, ◌/◌, ◌%◌, ◌<◌, ◌≤◌, eqb, Bool, true, false, ◌&&◌, ◌||◌, cond, List, [], ◌∷◌, ◌++◌, map, length, take, drop, get_or, replicate, Fits, w8, refl, sym, subst, ap, ap₂, ◌∙◌, arith, length-append}
use Rattle.std.specs.Int.{bit_at}
use Rattle.std.specs.Int.RustNames.{count_ones}
use Rattle.std.proofs.lemmas.Bool.{agree_below, agree_below_at, and_parts, eqb-true}
use Rattle.std.proofs.lemmas.List.{take-take, length-take-le, take-append-drop, length-map, get_or-drop, get_or_append_left}
use Rattle.std.proofs.lemmas.Grind.{flat_map-append}
use Rattle.std.proofs.lemmas.Simd.{zip2_splat, splat_is_map, tops_compared, bit_mask_l, swz_l, SwzOk, SwzOk-from_Each1, length-zip2, length-sel_l, length-swz_l, pick_l-range_with_len, get_or-chunk}
use Rattle.std.proofs.Math.Nat.{div-one}
use Rattle.std.proofs.Math.Seq.{take-add, take-append-add}
use mir.Val.{zeroes}
use lib.Dec.{leb, ltb, T}
use Rattle.std.specs.List.{range_with_len}
use lib.Lanes.{chunk, mask_l, pick_l, sel_l, top, zip2, Each1}
use Rattle.mysql_sql_text.specs.EscapedLanes.{first_byte, four_lanes, last_byte}
use Rattle.mysql_sql_text.specs.LiteralText.{escaped, escaped_byte, needs_escape}
use Rattle.mysql_sql_text.specs.declared.escapes.TheConstants.{PLACES}
use Rattle.mysql_sql_text.proofs.EscapeTableLemmas.{with_first, escaped_byte-parts}

-- ---- the last byte that stands for each byte

-- lanes that are computed in two ways, held against each other at each of the 256 bytes
pub lanes_agree : (f g : ℕ → ℕ) → agree_below (λ x. eqb (f x) (g x)) (λ _. true) 256 ≡ true
    → (v : List ℕ) → Each1 (Fits w8) v → map f v ≡ map g v
lanes_agree f g all [] fits = refl
lanes_agree f g all (x ∷ xs) fits =
    ap₂ (λ a b. a ∷ b) (eqb-true (f x) (g x) (agree_below_at (λ y. eqb (f y) (g y)) (λ _. true) 256 x all fits.0.fits)) (lanes_agree f g all xs fits.1)

select_lanes : (p : ℕ → Bool) (f g : ℕ → ℕ) (v : List ℕ) → sel_l (map p v) (map f v) (map g v) ≡ map (λ x. cond (p x) (f x) (g x)) v
select_lanes p f g [] = refl
select_lanes p f g (x ∷ v) = ap (λ t. cond (p x) (f x) (g x) ∷ t) (select_lanes p f g v)

-- one byte that is replaced at each of its places
pub replaced : (v rest : List ℕ) (f : ℕ → ℕ) (b new : ℕ) → length v ≡ 16 → rest ≡ map f v
    → sel_l (map (top 7) (zip2 (λ x y. cond (eqb x y) 255 0) v (replicate 16 b))) (replicate 16 new) rest ≡ map (λ x. cond (eqb x b) new (f x)) v
replaced v rest f b new long is =
    ap (λ m. sel_l m (replicate 16 new) rest) (tops_compared w8 eqb v (replicate 16 b) ∙ zip2_splat eqb v 16 b long)
    ∙ ap (λ s. sel_l (map (λ x. eqb x b) v) s rest) (splat_is_map v 16 new long)
    ∙ ap (λ t. sel_l (map (λ x. eqb x b) v) (map (λ _. new) v) t) is
    ∙ select_lanes (λ x. eqb x b) (λ _. new) f v

-- ---- four lanes by the table

abbrev bit : Bool → ℕ
bit b = cond b 1 0

abbrev four_bits : Bool → Bool → Bool → Bool → ℕ
four_bits b0 b1 b2 b3 = bit b0 + 2 * (bit b1 + 2 * (bit b2 + 2 * bit b3))

bit-eqb : (n : ℕ) → n < 2 → bit (eqb n 1) ≡ n
bit-eqb zero h = refl
bit-eqb (suc zero) h = refl
bit-eqb (suc (suc n)) h = absurd (omega arith)

abbrev has_bit : ℕ → ℕ → Bool
has_bit bits i = eqb (bit_at bits i) 1

low_bits : (bits : ℕ) → bits % 16 ≡ four_bits (has_bit bits 0) (has_bit bits 1) (has_bit bits 2) (has_bit bits 3)
low_bits bits =
    omega (
      arith,
      ap (λ n. n % 2) (div-one bits),
      bit-eqb (bits / 1 % 2) (omega arith),
      bit-eqb (bits / 2 % 2) (omega arith),
      bit-eqb (bits / 4 % 2) (omega arith),
      bit-eqb (bits / 8 % 2) (omega arith),
    )

-- the lanes that are written for a row of the table
abbrev pub lanes_text : List ℕ → ℕ → List ℕ → List ℕ
lanes_text places first lanes =
    sel_l (map (top 7) (zip2 (λ a b. cond (leb a b) 255 0) (replicate 16 128) places)) (replicate 16 first) (swz_l w8 16 lanes 0 places)

abbrev pub row : ℕ → List ℕ
row four = chunk 0 16 (get_or PLACES four [])

text-by_places : (b0 b1 b2 b3 : Bool) (first : ℕ) (lanes : List ℕ)
    → take (4 + count_ones (four_bits b0 b1 b2 b3)) (lanes_text (row (four_bits b0 b1 b2 b3)) first lanes)
    ≡ with_first b0 first (get_or lanes 0 0) ++ (with_first b1 first (get_or lanes 1 0) ++ (with_first b2 first (get_or lanes 2 0)
    ++ (with_first b3 first (get_or lanes 3 0) ++ [])))
unfolding count_ones
text-by_places false false false false first lanes = refl
text-by_places true false false false first lanes = refl
text-by_places false true false false first lanes = refl
text-by_places true true false false first lanes = refl
text-by_places false false true false first lanes = refl
text-by_places true false true false first lanes = refl
text-by_places false true true false first lanes = refl
text-by_places true true true false first lanes = refl
text-by_places false false false true first lanes = refl
text-by_places true false false true first lanes = refl
text-by_places false true false true first lanes = refl
text-by_places true true false true first lanes = refl
text-by_places false false true true first lanes = refl
text-by_places true false true true first lanes = refl
text-by_places false true true true first lanes = refl
text-by_places true true true true first lanes = refl

pub four_lanes-by_places : (mode : Bool) (bits : ℕ) (lanes : List ℕ)
    → take (4 + count_ones (bits % 16)) (lanes_text (row (bits % 16)) (first_byte mode) lanes) ≡ four_lanes mode bits lanes
four_lanes-by_places mode bits lanes =
    ap (λ four. take (4 + count_ones four) (lanes_text (row four) (first_byte mode) lanes)) (low_bits bits)
    ∙ text-by_places (has_bit bits 0) (has_bit bits 1) (has_bit bits 2) (has_bit bits 3) (first_byte mode) lanes

pub few_ones : (four : ℕ) → four < 16 → count_ones four ≤ 4
unfolding count_ones
few_ones four less =
    let all = agree_below_at (λ n. leb (count_ones n) 4) (λ _. true) 16 four refl less in
    grind (arith, all)

-- whether each place is a lane, or past all
abbrev all_fit : List ℕ → Bool
all_fit [] = true
all_fit (place ∷ places) = (zeroes 16 w8 place || ltb place 16) && all_fit places

places_fit : (places : List ℕ) → all_fit places ≡ true → Each1 (λ place. T (zeroes 16 w8 place || ltb place 16)) places
places_fit [] h = tt
places_fit (place ∷ places) h =
    let parts = and_parts (zeroes 16 w8 place || ltb place 16) (all_fit places) h in
    (subst T (sym parts.0) tt, places_fit places parts.1)

pub length-row : (four : ℕ) → four < 16 → length (row four) ≡ 16
length-row four less = eqb-true _ 16 (agree_below_at (λ n. eqb (length (row n)) 16) (λ _. true) 16 four refl less)

pub length-lanes_text : (places : List ℕ) (first : ℕ) (lanes : List ℕ) → length places ≡ 16 → length (lanes_text places first lanes) ≡ 16
length-lanes_text places first lanes long =
    let tests = zip2 (λ a b. cond (leb a b) 255 0) (replicate 16 128) places in
    let sixteen : length (map (top 7) tests) ≡ 16 =
    length-map tests (top 7) ∙ length-zip2 (λ a b. cond (leb a b) 255 0) (replicate 16 128) places (sym long) in
    length-sel_l (map (top 7) tests) (replicate 16 first) (swz_l w8 16 lanes 0 places) sixteen
    (sixteen ∙ sym (length-swz_l w8 16 lanes 0 places ∙ long)) ∙ sixteen

pub row_fits : (four : ℕ) → four < 16 → SwzOk w8 16 16 0 (row four)
row_fits four less =
    SwzOk-from_Each1 w8 16 1 16 0 (row four) refl
    (omega (arith, length-row four less))
    (places_fit (row four) (agree_below_at (λ n. all_fit (row n)) (λ _. true) 16 four refl less))

-- of 16 lanes that were written some stay
pub front_of_lanes : (text : List ℕ) (at whole count : ℕ) (old new : List ℕ) → length text ≡ 16 → count ≤ 16 → at ≤ length old
    → whole ≡ at + length text → take whole new ≡ take at old ++ text → take (at + count) new ≡ take at old ++ take count text
front_of_lanes text at whole count old new long few room to copy =
    let front = take at old in
    let place : at ≡ length front = sym (length-take-le at old room) in
    sym (take-take (at + count) whole new (omega (arith, long)))
    ∙ ap (take (at + count)) copy
    ∙ ap (λ i. take (i + count) (front ++ text)) place
    ∙ take-append-add front text count

-- ---- a block in quarters

bit-of : (b : Bool) → eqb (cond b 1 0) 1 ≡ b
bit-of true = refl
bit-of false = refl

one_lane : (mode : Bool) (x lane value : ℕ) → x < 256 → value ≡ cond (needs_escape mode x) 1 0 → lane ≡ last_byte mode x
    → with_first (eqb value 1) (first_byte mode) lane ≡ escaped_byte mode x
one_lane mode x lane value small is last =
    ap₂ (λ n l. with_first (eqb n 1) (first_byte mode) l) is last
    ∙ ap (λ b. with_first b (first_byte mode) (last_byte mode x)) (bit-of (needs_escape mode x))
    ∙ escaped_byte-parts mode x small

-- four lanes are the next four bytes, escaped
pub four_lanes-escaped : (mode : Bool) (xs lanes : List ℕ) → 4 ≤ length xs → Each1 (Fits w8) xs
    → ((i : ℕ) → i < 4 → get_or lanes i 0 ≡ last_byte mode (get_or xs i 0))
    → four_lanes mode (mask_l (map (needs_escape mode) xs)) lanes ≡ escaped mode (take 4 xs)
four_lanes-escaped mode [] lanes long fits last = absurd (omega arith)
four_lanes-escaped mode (a ∷ []) lanes long fits last = absurd (omega arith)
four_lanes-escaped mode (a ∷ b ∷ []) lanes long fits last = absurd (omega arith)
four_lanes-escaped mode (a ∷ b ∷ c ∷ []) lanes long fits last = absurd (omega arith)
four_lanes-escaped mode (a ∷ b ∷ c ∷ d ∷ xs) lanes long fits last =
    let bits = map (needs_escape mode) (a ∷ b ∷ c ∷ d ∷ xs) in
    ap₂ (λ s t. s ++ t) (one_lane mode a _ _ fits.0.fits (bit_mask_l bits 0) (last 0 (omega arith)))
    (ap₂ (λ s t. s ++ t) (one_lane mode b _ _ fits.1.0.fits (bit_mask_l bits 1) (last 1 (omega arith)))
    (ap₂ (λ s t. s ++ t) (one_lane mode c _ _ fits.1.1.0.fits (bit_mask_l bits 2) (last 2 (omega arith)))
    (ap (λ s. s ++ []) (one_lane mode d _ _ fits.1.1.1.0.fits (bit_mask_l bits 3) (last 3 (omega arith))))))

pub Each1-drop : (n : ℕ) (v : List ℕ) → Each1 (Fits w8) v → Each1 (Fits w8) (drop n v)
Each1-drop zero v fits = fits
Each1-drop (suc n) [] fits = fits
Each1-drop (suc n) (x ∷ v) fits = Each1-drop n v fits.1

-- after four lanes that were shifted out
pub last-of_others : (mode : Bool) (block lanes : List ℕ) (quarter : ℕ) → length lanes ≡ 16
    → ((i : ℕ) → 4 * quarter + i < 16 → get_or lanes i 0 ≡ last_byte mode (get_or (drop (4 * quarter) block) i 0))
    → (i : ℕ) → 4 * (quarter + 1) + i < 16
    → get_or (pick_l 0 (lanes ++ lanes) (range_with_len 4 16)) i 0 ≡ last_byte mode (get_or (drop (4 * (quarter + 1)) block) i 0)
last-of_others mode block lanes quarter long last i less =
    let place : 4 * quarter + (4 + i) ≡ 4 * (quarter + 1) + i = omega arith in
    ap (λ t. get_or t i 0) (pick_l-range_with_len 0 (lanes ++ lanes) 4 16 (omega (arith, length-append lanes lanes, long)))
    ∙ get_or-chunk 4 16 (lanes ++ lanes) i 0 (omega (arith, less))
    ∙ get_or_append_left lanes lanes 0 (4 + i) (omega (arith, less, long))
    ∙ last (4 + i) (omega (arith, less))
    ∙ ap (last_byte mode) (get_or-drop (4 * quarter) block (4 + i) 0 ∙ ap (λ k. get_or block k 0) place ∙ sym (get_or-drop (4 * (quarter + 1)) block i 0))

-- the bytes up to an index, escaped, are no longer than all
pub length-escaped-parts : (mode : Bool) (bytes : List ℕ) (i : ℕ)
    → length (escaped mode (take i bytes)) + length (escaped mode (drop i bytes)) ≡ length (escaped mode bytes)
length-escaped-parts mode bytes i =
    sym (length-append (escaped mode (take i bytes)) (escaped mode (drop i bytes)))
    ∙ ap length (sym (flat_map-append (escaped_byte mode) (take i bytes) (drop i bytes)) ∙ ap (escaped mode) (take-append-drop i bytes))

-- and four more
pub escaped-take_four : (mode : Bool) (bytes : List ℕ) (i : ℕ)
    → escaped mode (take (i + 4) bytes) ≡ escaped mode (take i bytes) ++ escaped mode (take 4 (drop i bytes))
escaped-take_four mode bytes i =
    ap (escaped mode) (take-add i 4 bytes) ∙ flat_map-append (escaped_byte mode) (take i bytes) (take 4 (drop i bytes))
