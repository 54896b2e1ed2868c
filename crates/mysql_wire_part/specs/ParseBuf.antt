-- The result of a call that reads the front of a buffer, and the bytes that it leaves there.
use Rattle.std.specs.Prelude.{◌≡◌, ℕ, List, Option, Some, None, Ok, Err}
use Rattle.mysql_wire_part.specs.declared.error.WireError.{WireError}
use Rattle.mysql_wire_part.specs.declared.error.WireError.TheVariants.{UnexpectedEof, BadLengthLead, UnsupportedColumn, Memory}
use Rattle.mysql_wire_part.specs.declared.parse_buf.ParseBuf.{ParseBuf}
use Rattle.mysql_wire_part.specs.Reading.{ReadRefusal, Reading, unexpected_eof, bad_length_lead, unsupported_column}

-- the bytes that are left in a buffer
abbrev pub left : ParseBuf → List ℕ
left buf = buf.0.now

-- The call returns the value that is read, and leaves the bytes after it. Or there are too few
-- bytes, and the buffer is unchanged. Its bytes are `old` before the call and `new` after it.
abbrev pub Eats : {X : Type 0} → Reading X → List ℕ → List ℕ → Option X → Type 0
Eats read old new (Some x) = read ≡ Ok (x, new)
Eats read old new None = (read ≡ Err unexpected_eof) × (new ≡ old)

-- the cause for which the call read nothing, unless it is out of memory
abbrev pub read_refusal : WireError → Option ReadRefusal
-- too few bytes are left
read_refusal UnexpectedEof = Some unexpected_eof
-- this byte begins no length
read_refusal (BadLengthLead lead) = Some (bad_length_lead lead)
-- values of this column type can't be read
read_refusal (UnsupportedColumn column) = Some (unsupported_column column)
-- out of memory is no refusal
read_refusal (Memory error) = None
