-- ASCII at the front of bytes, and that the rest decides whether they are UTF-8.
use Rattle.std.proofs.Common.{◌≡◌, ℕ, ◌+◌, ◌-◌, ◌≤◌, List, [], ◌∷◌, ◌++◌, map, length, take, drop, sym, subst, ap, ◌∙◌, arith}
use Rattle.std.specs.Prelude.{Result, Ok, Err, MatchResult, is_ok}
use Rattle.std.specs.Str.{IsAscii, IsUtf8, is_utf8}
use Rattle.std.proofs.lemmas.Bool.{leb-false, false_from_ne_true}
use Rattle.std.proofs.lemmas.List.{take-take, take-append-drop, take-append-le, take_all, drop-append-le, drop_all, length-drop}
use Rattle.std.proofs.lemmas.Str.{IsAscii-append, IsAscii-take, IsAscii-drop, IsUtf8-append, IsUtf8-drop, IsUtf8-from_ascii, IsUtf8-from_is_utf8, is_utf8-from_IsUtf8, IsCharBoundary-from_take}
use Rattle.std.proofs.lemmas.Str.Ascii.{IsAscii-cons, IsAscii-nil}
use Rattle.std.proofs.Math.Seq.{take-add}
use lib.Dec.{leb}
use lib.Lanes.{chunk, mask_l}
use Rattle.mysql_sql_text.proofs.BlockLemmas.{no_bits}
use Rattle.mysql_sql_text.proofs.EscapeWalkLemmas.{block_to_end}

-- bytes of which none has the high bit are ASCII
pub IsAscii-from_mask : (bytes : List ℕ) → mask_l (map (leb 128) bytes) ≡ 0 → IsAscii bytes
IsAscii-from_mask [] empty = IsAscii-nil
IsAscii-from_mask (b ∷ bytes) empty =
    let bits = no_bits (leb 128 b) (mask_l (map (leb 128) bytes)) empty in
    IsAscii-cons b bytes (leb-false 128 b bits.0) (IsAscii-from_mask bytes bits.1)

-- ASCII so far, and one block more
pub IsAscii-next_block : (bytes : List ℕ) (at : ℕ) → IsAscii (take at bytes) → IsAscii (chunk at 16 bytes) → IsAscii (take (at + 16) bytes)
IsAscii-next_block bytes at front block =
    subst IsAscii (sym (take-add at 16 bytes)) (IsAscii-append (take at bytes) (chunk at 16 bytes) front block)

-- and the last block
pub IsAscii-last_block : (bytes : List ℕ) (last at : ℕ) → last + 16 ≡ length bytes → last ≤ at
    → IsAscii (take at bytes) → IsAscii (chunk last 16 bytes) → IsAscii bytes
IsAscii-last_block bytes last at long within front block =
    let before : IsAscii (take last bytes) = subst IsAscii (take-take last at bytes within) (IsAscii-take (take at bytes) last front) in
    let whole : take last bytes ++ chunk last 16 bytes ≡ bytes =
    ap (λ t. take last bytes ++ t) (block_to_end bytes last long) ∙ take-append-drop last bytes in
    subst IsAscii whole (IsAscii-append (take last bytes) (chunk last 16 bytes) before block)

-- ASCII of at most 16 bytes, by the last 8 and the first 8
pub IsAscii-from_ends : (bytes : List ℕ) → 8 ≤ length bytes → length bytes ≤ 16
    → IsAscii (drop (length bytes - 8) bytes ++ take 8 bytes) → IsAscii bytes
IsAscii-from_ends bytes at_least at_most ends =
    let last = length bytes - 8 in
    let end = drop last bytes in
    let eight : length end ≡ 8 = omega (arith, at_least, length-drop last bytes) in
    let front : IsAscii (take 8 bytes) =
    subst IsAscii (drop-append-le 8 end (take 8 bytes) (omega (arith, eight)) ∙ ap (λ t. t ++ take 8 bytes) (drop_all 8 end (omega (arith, eight))))
    (IsAscii-drop (end ++ take 8 bytes) 8 ends) in
    let back : IsAscii end =
    subst IsAscii (take-append-le 8 end (take 8 bytes) (omega (arith, eight)) ∙ take_all 8 end (omega (arith, eight)))
    (IsAscii-take (end ++ take 8 bytes) 8 ends) in
    let before : IsAscii (take last bytes) =
    subst IsAscii (take-take last 8 bytes (omega (arith, at_most))) (IsAscii-take (take 8 bytes) last front) in
    subst IsAscii (take-append-drop last bytes) (IsAscii-append (take last bytes) end before back)

-- after ASCII the rest is UTF-8 if all is, and the other way round
pub IsUtf8-after_ascii : (bytes : List ℕ) (at : ℕ) → at ≤ length bytes → IsAscii (take at bytes) → IsUtf8 bytes → IsUtf8 (drop at bytes)
IsUtf8-after_ascii bytes at within front utf8 =
    IsUtf8-drop bytes at utf8 (IsCharBoundary-from_take bytes at utf8 within (IsUtf8-from_ascii (take at bytes) front))

pub IsUtf8-with_ascii : (bytes : List ℕ) (at : ℕ) → IsAscii (take at bytes) → IsUtf8 (drop at bytes) → IsUtf8 bytes
IsUtf8-with_ascii bytes at front rest =
    subst IsUtf8 (take-append-drop at bytes) (IsUtf8-append (take at bytes) (drop at bytes) (IsUtf8-from_ascii (take at bytes) front) rest)

-- so the rest decides, whatever was found of it
pub rest_decides : {A E : Type 0} (P : A → Type 0) (Q : E → Type 0) (bytes rest : List ℕ) (at : ℕ) → rest ≡ drop at bytes → at ≤ length bytes
    → IsAscii (take at bytes) → (r : Result A E)
    → MatchResult r (λ s. P s × IsUtf8 rest) (λ e. (IsUtf8 rest → ⊥) × Q e) → is_ok r ≡ is_utf8 bytes
rest_decides P Q bytes rest at is within front (Ok s) found =
    sym (is_utf8-from_IsUtf8 bytes (IsUtf8-with_ascii bytes at front (subst IsUtf8 is found.1)))
rest_decides P Q bytes rest at is within front (Err e) found =
    sym (false_from_ne_true (is_utf8 bytes) (λ utf8. found.0 (subst IsUtf8 (sym is) (IsUtf8-after_ascii bytes at within front (IsUtf8-from_is_utf8 bytes utf8)))))
