-- A written length-encoded string reads back before any bytes.
use Rattle.std.proofs.Common.{◌≡◌, ℕ, ◌^◌, ◌<◌, List, ◌++◌, length, ltb, refl, ◌∙◌, ap, append_assoc}
use Rattle.std.specs.Prelude.{Ok}
use Rattle.std.proofs.lemmas.Bool.{cond_both, cond-true, ltb-true}
use Rattle.mysql_wire_part.specs.Reading.{and_then_read, read_bytes}
use Rattle.mysql_wire_part.specs.Lenenc.{length_spelling, read_length, read_lenenc, LenencReadsBack}
use Rattle.mysql_wire_part.proofs.ReadingLemmas.{read_bytes-append, read_number-little_bytes}

read_length-length_spelling : (n : ℕ) (rest : List ℕ) → n < 2 ^ 64
    → read_length (length_spelling n ++ rest) ≡ Ok (n, rest)
read_length-length_spelling n rest fits =
    let Reads : List ℕ → Type 0 = λ spelling. read_length (spelling ++ rest) ≡ Ok (n, rest) in
    cond_both (ltb n 251) _ _ Reads (λ small. cond-true (ltb n 251) _ _ small) (λ _.
    cond_both (ltb n (2 ^ 16)) _ _ Reads
    (λ two. read_number-little_bytes 2 n rest (ltb-true n (2 ^ 16) two)) (λ _.
    cond_both (ltb n (2 ^ 24)) _ _ Reads
    (λ three. read_number-little_bytes 3 n rest (ltb-true n (2 ^ 24) three)) (λ _.
    read_number-little_bytes 8 n rest fits)))

pub lenenc_reads_back : (text : List ℕ) → length text < 2 ^ 64 → LenencReadsBack text
lenenc_reads_back text fits rest =
    ap read_lenenc (append_assoc (length_spelling (length text)) text rest)
    ∙ ap (λ read. and_then_read read read_bytes)
    (read_length-length_spelling (length text) (text ++ rest) fits)
    ∙ read_bytes-append (length text) text rest refl
