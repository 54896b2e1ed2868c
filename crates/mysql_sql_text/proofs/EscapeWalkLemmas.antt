-- Blocks that are looked at in part: up to their first escape, or from a byte on.
use Rattle.std.proofs.Common.{◌≡◌, ℕ, zero, suc, ◌+◌, ◌-◌, ◌/◌, ◌^◌, ◌<◌, ◌≤◌, Bool, false, not, cond, List, [], ◌∷◌, ◌++◌, map, length, take, drop, get_or, refl, sym, ap, ap₂, ◌∙◌, arith, inl, inr, append_assoc, length-append}
use Rattle.std.specs.List.{count_by, prefix_len}
use Rattle.std.specs.Int.RustNames.{count_ones}
use Rattle.std.proofs.lemmas.Bool.{cases_Bool, cases_lt}
use Rattle.std.proofs.lemmas.List.{take_all, drop_all, take-take, length-take-le, drop-append-le, drop-drop, drop-map, length-drop}
use Rattle.std.proofs.lemmas.List.Sums.{count_by-le-length, sum_by-append, sum_by-take-drop}
use Rattle.std.proofs.lemmas.Grind.{flat_map-append}
use Rattle.std.proofs.lemmas.Simd.{ones-mask_l, chunk-drop, length-chunk, trailing_mask_l, run_in_chunk_le, run_in_chunk_fails}
use Rattle.std.proofs.Math.Seq.{drop-cons, take-append-add}
use lib.Count.{count_trailing_zeros}
use lib.Lanes.{chunk, mask_l}
use Rattle.mysql_sql_text.specs.LiteralText.{escaped, escaped_byte, needs_escape}
use Rattle.mysql_sql_text.proofs.MaskLemmas.{mask_l-drop}
use Rattle.mysql_sql_text.proofs.BlockLemmas.{escaped_byte-plain, escaped-none, length-escaped, length-escaped-le}

-- the last block is the end of the bytes, even without those that an earlier block has
pub block_to_end : (bytes : List ℕ) (last : ℕ) → last + 16 ≡ length bytes → chunk last 16 bytes ≡ drop last bytes
block_to_end bytes last long = take_all 16 (drop last bytes) (omega (arith, length-drop last bytes))

last_block : (bytes : List ℕ) (last at : ℕ) → last + 16 ≡ length bytes → last ≤ at
    → drop (at - last) (chunk last 16 bytes) ≡ drop at bytes
last_block bytes last at long within =
    let place : last + (at - last) ≡ at = omega arith in
    ap (drop (at - last)) (block_to_end bytes last long) ∙ drop-drop (at - last) last bytes ∙ ap (λ i. drop i bytes) place

-- its escapes are counted, except those
pub ones-last_block : (mode : Bool) (bytes : List ℕ) (last at : ℕ) → last + 16 ≡ length bytes → last ≤ at
    → count_ones (mask_l (map (needs_escape mode) (chunk last 16 bytes)) / 2 ^ (at - last))
    ≡ count_by (needs_escape mode) (drop at bytes)
ones-last_block mode bytes last at long within =
    let block = chunk last 16 bytes in
    ap count_ones (mask_l-drop (at - last) (map (needs_escape mode) block)
    ∙ ap mask_l (drop-map (needs_escape mode) (at - last) block ∙ ap (map (needs_escape mode)) (last_block bytes last at long within)))
    ∙ ones-mask_l (needs_escape mode) (drop at bytes)

-- the escapes of at most 16 bytes are those of the last 8, except what the first 8 have of them, and of the first 8
pub ones-ends : (mode : Bool) (bytes ends : List ℕ) (mask : ℕ) → 8 ≤ length bytes → length bytes ≤ 16
    → ends ≡ drop (length bytes - 8) bytes ++ take 8 bytes → mask ≡ mask_l (map (needs_escape mode) ends)
    → count_ones (mask / 2 ^ (16 - length bytes)) ≡ count_by (needs_escape mode) bytes
ones-ends mode bytes ends mask at_least at_most are is =
    let last = length bytes - 8 in
    let twice = 16 - length bytes in
    let place : last + twice ≡ 8 = omega (arith, at_least, at_most) in
    let apart : drop twice ends ≡ drop 8 bytes ++ take 8 bytes =
    ap (drop twice) are
    ∙ drop-append-le twice (drop last bytes) (take 8 bytes) (omega (arith, at_least, at_most, length-drop last bytes))
    ∙ ap (λ t. t ++ take 8 bytes) (drop-drop twice last bytes ∙ ap (λ i. drop i bytes) place) in
    ap (λ m. count_ones (m / 2 ^ twice)) is
    ∙ ap count_ones (mask_l-drop twice (map (needs_escape mode) ends)
    ∙ ap mask_l (drop-map (needs_escape mode) twice ends ∙ ap (map (needs_escape mode)) apart))
    ∙ ones-mask_l (needs_escape mode) (drop 8 bytes ++ take 8 bytes)
    ∙ omega (
      arith,
      sum_by-append (λ b. cond (needs_escape mode b) 1 0) (drop 8 bytes) (take 8 bytes),
      sum_by-take-drop (λ b. cond (needs_escape mode b) 1 0) bytes 8,
    )

-- the length of the end of the bytes, by its escapes
pub length-escaped-end : (mode : Bool) (bytes : List ℕ) (at : ℕ) → at ≤ length bytes
    → length (escaped mode (drop at bytes)) + at ≡ length bytes + count_by (needs_escape mode) (drop at bytes)
length-escaped-end mode bytes at within = omega (arith, length-escaped mode (drop at bytes), length-drop at bytes)

-- nothing is left after the last byte
pub length-escaped-after : (mode : Bool) (bytes : List ℕ) → length (escaped mode (drop (length bytes) bytes)) ≡ 0
length-escaped-after mode bytes = ap (λ left. length (escaped mode left)) (drop_all (length bytes) bytes (omega arith))

pub count-end-le : (mode : Bool) (bytes : List ℕ) (at : ℕ) → at ≤ length bytes
    → count_by (needs_escape mode) (drop at bytes) + at ≤ length bytes
count-end-le mode bytes at within = omega (arith, count_by-le-length (needs_escape mode) (drop at bytes), length-drop at bytes)

-- the bytes before an escape stand for themselves
pub escaped-run : (mode : Bool) (bytes : List ℕ) (from count : ℕ) → from + count < length bytes
    → ((k : ℕ) → from ≤ k → k < from + count → needs_escape mode (get_or bytes k 0) ≡ false)
    → escaped mode (drop from bytes)
    ≡ take count (drop from bytes) ++ (escaped_byte mode (get_or bytes (from + count) 0) ++ escaped mode (drop (from + count + 1) bytes))
escaped-run mode bytes from zero within plain =
    let here : from + 0 ≡ from = omega arith in
    let next : suc from ≡ from + 0 + 1 = omega arith in
    ap (escaped mode) (drop-cons bytes from 0 (omega arith))
    ∙ ap₂ (λ i j. escaped_byte mode (get_or bytes i 0) ++ escaped mode (drop j bytes)) (sym here) next
escaped-run mode bytes from (suc count) within plain =
    let next : suc from + count ≡ from + suc count = omega arith in
    let rest = escaped-run mode bytes (suc from) count (omega arith) (λ k low high. plain k (omega arith) (omega arith)) in
    let byte = get_or bytes from 0 in
    let cut = drop-cons bytes from 0 (omega arith) in
    ap (escaped mode) cut
    ∙ ap (λ t. t ++ escaped mode (drop (suc from) bytes)) (escaped_byte-plain mode byte (plain from (omega arith) (omega arith)))
    ∙ ap (λ t. byte ∷ t) (rest ∙ ap (λ i. take count (drop (suc from) bytes)
    ++ (escaped_byte mode (get_or bytes i 0) ++ escaped mode (drop (i + 1) bytes))) next)
    ∙ ap (λ t. take (suc count) t ++ (escaped_byte mode (get_or bytes (from + suc count) 0) ++ escaped mode (drop (from + suc count + 1) bytes))) (sym cut)

-- there is room for a block, whatever is escaped
pub room_for_block : (mode : Bool) (bytes : List ℕ) (from at most : ℕ) → from + 16 ≤ length bytes
    → at + length (escaped mode (drop from bytes)) ≤ most → at + 16 ≤ most
room_for_block mode bytes from at most block fits =
    omega (arith, length-escaped-le mode (drop from bytes), length-drop from bytes)

-- if no byte of a block is escaped, its mask is empty
mask_empty : (p : ℕ → Bool) (bytes : List ℕ) → prefix_len (λ b. not (p b)) bytes ≡ length bytes → mask_l (map p bytes) ≡ 0
mask_empty p [] all = refl
mask_empty p (b ∷ bytes) all =
    elim (cases_Bool (p b)) [
      | inl escape ↦
          let none : 0 ≡ length (b ∷ bytes) = rw escape at all in
          absurd (omega arith)
      | inr plain ↦
          let more : 1 + prefix_len (λ b. not (p b)) bytes ≡ length (b ∷ bytes) = rw plain at all in
          let rest = mask_empty p bytes (omega arith) in
          rw plain (omega arith)
    ]

-- of 16 bytes that were copied the first ones stay
pub front_of_copy : (bytes : List ℕ) (from at whole count : ℕ) (old copied : List ℕ) → from + 16 ≤ length bytes → count ≤ 16 → at ≤ length old
    → whole ≡ at + length (chunk from 16 bytes) → take whole copied ≡ take at old ++ chunk from 16 bytes
    → take (at + count) copied ≡ take at old ++ take count (drop from bytes)
front_of_copy bytes from at whole count old copied block few room to copy =
    let front = take at old in
    let place : at ≡ length front = sym (length-take-le at old room) in
    sym (take-take (at + count) whole copied (omega (arith, length-chunk from 16 bytes block)))
    ∙ ap (take (at + count)) copy
    ∙ ap (λ i. take (i + count) (front ++ chunk from 16 bytes)) place
    ∙ take-append-add front (chunk from 16 bytes) count
    ∙ ap (λ t. front ++ t) (take-take count 16 (drop from bytes) few)

-- the first escape of `size` bytes, by the lowest bit of their mask
module _ (mode : Bool) (bytes : List ℕ) (from size mask : ℕ) (within : from + size ≤ length bytes) (small : size ≤ 16)
    (is : mask ≡ mask_l (map (needs_escape mode) (chunk from size bytes))) (some : ¬ (mask ≡ 0)) where
  abbrev pub count : ℕ
  count = count_trailing_zeros 64 mask

  counted : count ≡ prefix_len (λ b. not (needs_escape mode b)) (chunk from size bytes)
  counted =
      ap (count_trailing_zeros 64) is
      ∙ trailing_mask_l (needs_escape mode) 64 (chunk from size bytes) (omega (arith, length-chunk from size bytes within)) (omega arith)

  pub first_escape_within : count < size
  first_escape_within =
      elim (cases_lt count size) [
        | inl less ↦ less
        | inr whole ↦
            let few = run_in_chunk_le (needs_escape mode) bytes from size count 0 within counted in
            let all = mask_empty (needs_escape mode) (chunk from size bytes) (omega (arith, counted, length-chunk from size bytes within)) in
            absurd (omega arith)
      ]

  pub first_escape_cuts : escaped mode (drop from bytes)
      ≡ take count (drop from bytes) ++ (escaped_byte mode (get_or bytes (from + count) 0) ++ escaped mode (drop (from + count + 1) bytes))
  first_escape_cuts =
      escaped-run mode bytes from count (omega (arith, first_escape_within))
      (run_in_chunk_fails (needs_escape mode) bytes from size count 0 within counted)

  abbrev pub escape : List ℕ
  escape = escaped_byte mode (get_or bytes (from + count) 0)

  abbrev pub after : List ℕ
  after = escaped mode (drop (from + count + 1) bytes)

  -- so long are the bytes, escaped
  pub first_escape_len : length (escaped mode (drop from bytes)) ≡ count + length escape + length after
  first_escape_len =
      let front : length (take count (drop from bytes)) ≡ count =
      length-take-le count (drop from bytes) (omega (arith, first_escape_within, length-drop from bytes)) in
      omega (
        arith,
        ap length first_escape_cuts,
        front,
        length-append (take count (drop from bytes)) (escape ++ after),
        length-append escape after,
      )

  -- 16 bytes that were copied, of which those before the first escape stay
  pub first_escape_front : from + 16 ≤ length bytes → (at whole next : ℕ) (old copied new : List ℕ) → at ≤ length old
      → whole ≡ at + length (chunk from 16 bytes) → take whole copied ≡ take at old ++ chunk from 16 bytes
      → take next new ≡ take (at + count) copied ++ escape
      → take next new ++ after ≡ take at old ++ escaped mode (drop from bytes)
  first_escape_front block at whole next old copied new room to copy escaped_one =
      let front = take at old in
      let plain = take count (drop from bytes) in
      let kept = front_of_copy bytes from at whole count old copied block (omega (arith, first_escape_within)) room to copy in
      ap (λ t. t ++ after) (escaped_one ∙ ap (λ t. t ++ escape) kept)
      ∙ ap (λ t. t ++ after) (append_assoc front plain escape)
      ∙ append_assoc front (plain ++ escape) after
      ∙ ap (λ t. front ++ t) (append_assoc plain escape after ∙ sym first_escape_cuts)

-- bytes without escapes stand for themselves, and the bytes after them are escaped
pub escaped-after_none : (mode : Bool) (bytes : List ℕ) (from size : ℕ) → mask_l (map (needs_escape mode) (chunk from size bytes)) ≡ 0
    → escaped mode (drop from bytes) ≡ chunk from size bytes ++ escaped mode (drop (from + size) bytes)
escaped-after_none mode bytes from size none =
    ap (escaped mode) (chunk-drop from size bytes)
    ∙ flat_map-append (escaped_byte mode) (chunk from size bytes) (drop (from + size) bytes)
    ∙ ap (λ t. t ++ escaped mode (drop (from + size) bytes)) (escaped-none mode (chunk from size bytes) none)
