-- Bytes in front of more bytes are read, and the others are left.
use Rattle.std.proofs.Common.{◌≡◌, ℕ, ◌^◌, ◌<◌, List, ◌++◌, length, take, drop, true, leb, sym, ◌∙◌, ap, arith, length-append}
use Rattle.std.specs.Prelude.{Ok}
use Rattle.std.proofs.lemmas.Bool.{cond-true, le-leb}
use Rattle.std.proofs.Math.Seq.{drop-append_seam, take-append_seam}
use Rattle.byteorder.specs.Endian.{little_bytes}
use Rattle.byteorder.specs.Numbers.{little_number-reads_back, length-bytes_low_first}
use Rattle.mysql_wire_part.specs.Reading.{read_bytes, read_number}

drop-append : (k : ℕ) (xs rest : List ℕ) → length xs ≡ k → drop k (xs ++ rest) ≡ rest
drop-append k xs rest same = ap (λ n. drop n (xs ++ rest)) (sym same) ∙ drop-append_seam xs rest

pub take-append : (k : ℕ) (xs rest : List ℕ) → length xs ≡ k → take k (xs ++ rest) ≡ xs
take-append k xs rest same = ap (λ n. take n (xs ++ rest)) (sym same) ∙ take-append_seam xs rest

are_enough : (k : ℕ) (xs rest : List ℕ) → length xs ≡ k → leb k (length (xs ++ rest)) ≡ true
are_enough k xs rest same =
    le-leb k (length (xs ++ rest)) (omega (arith, length-append xs rest))

-- a string reads back before any bytes
pub read_bytes-append : (k : ℕ) (text rest : List ℕ) → length text ≡ k
    → read_bytes k (text ++ rest) ≡ Ok (text, rest)
read_bytes-append k text rest same =
    cond-true (leb k (length (text ++ rest))) _ _ (are_enough k text rest same)
    ∙ ap (λ front. Ok (front, drop k (text ++ rest))) (take-append k text rest same)
    ∙ ap (λ left. Ok (text, left)) (drop-append k text rest same)

-- a number reads back before any bytes
pub read_number-little_bytes : (k n : ℕ) (rest : List ℕ) → n < 256 ^ k
    → read_number k (little_bytes k n ++ rest) ≡ Ok (n, rest)
read_number-little_bytes k n rest fits =
    let same = length-bytes_low_first 0 k n in
    cond-true (leb k (length (little_bytes k n ++ rest))) _ _
    (are_enough k (little_bytes k n) rest same)
    ∙ ap (λ x. Ok (x, drop k (little_bytes k n ++ rest))) (little_number-reads_back k n rest fits)
    ∙ ap (λ left. Ok (n, left)) (drop-append k (little_bytes k n) rest same)
