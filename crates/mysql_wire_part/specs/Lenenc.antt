-- Length-encoded strings, written and read (MySQL client/server protocol,
-- "Protocol::LengthEncodedInteger" and "Protocol::LengthEncodedString").
use Rattle.std.specs.Prelude.{◌≡◌, ℕ, ◌^◌, nat_lt, List, [], ◌∷◌, ◌++◌, length, Ok, Err, if◌then◌else◌, ◌==◌}
use Rattle.byteorder.specs.Endian.{little_bytes}
use Rattle.mysql_wire_part.specs.Reading.{Reading, bad_length_lead, unexpected_eof, read_bytes, read_number, and_then_read}

-- the least byte that isn't a length itself
abbrev pub least_lead : ℕ
least_lead = 0xFB

-- the byte before a length in two bytes
abbrev pub lead_of_two : ℕ
lead_of_two = 0xFC

-- the byte before a length in three bytes
abbrev pub lead_of_three : ℕ
lead_of_three = 0xFD

-- the byte before a length in eight bytes
abbrev pub lead_of_eight : ℕ
lead_of_eight = 0xFE

-- a length below 251 is written in one byte, any other in the first of 2, 3 and 8 that hold it
abbrev pub length_spelling : ℕ → List ℕ
length_spelling n =
    if nat_lt n least_lead then n ∷ [] else (
    if nat_lt n (2 ^ 16) then lead_of_two ∷ little_bytes 2 n else (
    if nat_lt n (2 ^ 24) then lead_of_three ∷ little_bytes 3 n else
    lead_of_eight ∷ little_bytes 8 n))

-- a string is written as its length and its bytes
abbrev pub lenenc_spelling : List ℕ → List ℕ
lenenc_spelling text = length_spelling (length text) ++ text

-- A length is read from any of the four forms, even from a longer one than needed. FB and FF begin
-- none.
abbrev pub read_length : List ℕ → Reading ℕ
read_length [] = Err unexpected_eof
read_length (lead ∷ bytes) =
    if nat_lt lead least_lead then Ok (lead, bytes) else (
    if lead == lead_of_two then read_number 2 bytes else (
    if lead == lead_of_three then read_number 3 bytes else (
    if lead == lead_of_eight then read_number 8 bytes else
    Err (bad_length_lead lead))))

-- a string is read as a length and as many bytes
abbrev pub read_lenenc : List ℕ → Reading (List ℕ)
read_lenenc bytes = and_then_read (read_length bytes) read_bytes

-- before any bytes, the written string is read as this string, and these bytes are left
abbrev pub LenencReadsBack : List ℕ → Type 0
LenencReadsBack text =
    (rest : List ℕ) → read_lenenc (lenenc_spelling text ++ rest) ≡ Ok (text, rest)
