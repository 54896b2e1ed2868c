-- The text of a double, and its value: the double that its text reads as.
use Rattle.std.specs.Prelude.{ℕ, List, take}
use Rattle.std.specs.Float.Ieee.{Float}
use Rattle.mysql_float_literal.specs.ReadDouble.{read_double}
use Rattle.mysql_float_literal.specs.declared.double.Double.{Double}

-- the text of a double
abbrev pub double_text : Double → List ℕ
double_text double = take double.len double.room

-- the value of a double
abbrev pub double_value : Double → Float
double_value double = read_double (double_text double)
