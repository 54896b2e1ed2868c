-- Readings of the front of some bytes: fixed-length strings and integers (MySQL client/server
-- protocol, "Protocol::FixedLengthString" and "Protocol::FixedLengthInteger").
use Rattle.std.specs.Prelude.{ℕ, nat_le, List, length, take, drop, Result, Ok, Err, if◌then◌else◌}
use Rattle.byteorder.specs.Endian.{little_number}
use Rattle.mysql_wire_part.specs.declared.column.ColumnType.{ColumnType}

-- the cause for which nothing can be read; out of memory is no such cause
pub data ReadRefusal : Type 0 where
  -- too few bytes
  unexpected_eof : ReadRefusal
  -- a length is expected, and it can't begin with this byte
  bad_length_lead : ℕ → ReadRefusal
  -- values of this column type can't be read
  unsupported_column : ColumnType → ReadRefusal

-- the value at the front and the bytes after it, or the cause for which none can be read
abbrev pub Reading : Type 0 → Type 0
Reading X = Result (X × List ℕ) ReadRefusal

-- the first n bytes
abbrev pub read_bytes : ℕ → List ℕ → Reading (List ℕ)
read_bytes n bytes =
    if nat_le n (length bytes) then Ok (take n bytes, drop n bytes) else Err unexpected_eof

-- the number of the first n bytes, least byte first
abbrev pub read_number : ℕ → List ℕ → Reading ℕ
read_number n bytes =
    if nat_le n (length bytes) then Ok (little_number n bytes, drop n bytes) else Err unexpected_eof

-- a reading, with `make` applied to its value
abbrev pub map_read : {X Y : Type 0} → (X → Y) → Reading X → Reading Y
map_read make (Ok read) = Ok (make read.0, read.1)
map_read make (Err refusal) = Err refusal

-- the next reading, which may depend on the value that was read before
abbrev pub and_then_read : {X Y : Type 0} → Reading X → (X → List ℕ → Reading Y) → Reading Y
and_then_read (Ok read) next = next read.0 read.1
and_then_read (Err refusal) next = Err refusal
