-- The place of a byte in a text, as editors count: its line and its column, both from 1.
use Rattle.std.specs.Prelude.{ℕ, List, ◌+◌, ◌==◌, if◌then◌else◌, fold}
use Rattle.mysql_bind_core.specs.ValueTypes.{newline}

-- one more line after a newline
abbrev pub next_line : ℕ → ℕ → ℕ
next_line line b = if b == newline then line + 1 else line

-- the first column after a newline, or else one more
abbrev pub next_column : ℕ → ℕ → ℕ
next_column column b = if b == newline then 1 else column + 1

-- the line of the byte after these
abbrev pub line_after : List ℕ → ℕ
line_after before = fold next_line 1 before

-- the column of the byte after these
abbrev pub column_after : List ℕ → ℕ
column_after before = fold next_column 1 before
