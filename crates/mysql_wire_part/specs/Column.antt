-- Flags of a column (MySQL client/server protocol, "Column Definition Flags").
use Rattle.std.specs.Prelude.{ℕ, Bool, ◌==◌, bit_and}
use Rattle.mysql_wire_part.specs.declared.column.ColumnFlags.{ColumnFlags}

-- all bits of the flags, even those without a name
abbrev pub flag_bits : ColumnFlags → ℕ
flag_bits flags = flags.0

-- the flag of columns whose whole numbers have no sign
abbrev pub unsigned_flag : ℕ
unsigned_flag = 32

-- whether the whole numbers of the column have no sign
abbrev pub is_unsigned : ColumnFlags → Bool
is_unsigned flags = bit_and (flag_bits flags) unsigned_flag == unsigned_flag
