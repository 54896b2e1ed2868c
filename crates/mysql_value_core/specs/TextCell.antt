-- Cells of a row in text form (MySQL client/server protocol, "Text Resultset Row").
use Rattle.std.specs.Prelude.{◌==◌, ℕ, zero, suc, List, [], ◌∷◌, IsOk, Ok, Err, if◌then◌else◌}
use Rattle.mysql_wire_part.specs.Reading.{Reading, unexpected_eof, map_read, and_then_read}
use Rattle.mysql_wire_part.specs.Lenenc.{read_lenenc}
use Rattle.mysql_value_core.specs.Value.{IsBytes}
use Rattle.mysql_value_core.specs.declared.value.Value.{Value}
use Rattle.mysql_value_core.specs.declared.value.Value.TheVariants.{NULL, Bytes}

-- the byte that is a cell of NULL
abbrev pub null_cell : ℕ
null_cell = 0xFB

-- a cell is NULL, or bytes as a length-encoded string
abbrev pub read_cell : List ℕ → Reading Value
read_cell [] = Err unexpected_eof
read_cell (lead ∷ bytes) =
    if lead == null_cell then Ok (NULL, bytes) else map_read Bytes (read_lenenc (lead ∷ bytes))

-- `count` cells, one after another, or the refusal of the first cell that has one
abbrev pub read_cells : ℕ → List ℕ → Reading (List Value)
read_cells zero bytes = Ok ([], bytes)
read_cells (suc count) bytes =
    and_then_read (read_cell bytes) (λ cell rest.
    map_read (λ cells. cell ∷ cells) (read_cells count rest))

-- the value that is read is bytes; only bytes allocate
abbrev pub ReadsBytes : Reading Value → Type 0
ReadsBytes (Ok read) = IsBytes read.0
ReadsBytes (Err refusal) = ⊥

-- there is a first cell, and it can be read; only then something may be allocated
abbrev pub ReadsACell : ℕ → List ℕ → Type 0
ReadsACell zero bytes = ⊥
ReadsACell (suc count) bytes = IsOk (read_cell bytes)
