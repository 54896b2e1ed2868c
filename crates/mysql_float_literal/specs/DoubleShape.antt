-- The shape of a double in a query: a number with an exponent, by which servers tell a double from
-- an exact number (MySQL Reference Manual, "Numeric Literals").
use Rattle.std.specs.Prelude.{ℕ, List, [], ◌++◌, codes}
use Rattle.mysql_sql_text.specs.LiteralShape.{AreDigits}

-- nothing, or a minus
pub data IsSign : List ℕ → Type 0 where
  no_sign : IsSign []
  minus_sign : IsSign (codes "-")

-- nothing, or a point and digits
pub data IsFraction : List ℕ → Type 0 where
  no_fraction : IsFraction []
  point_and_digits : (digits : List ℕ) → AreDigits digits → IsFraction (codes "." ++ digits)

-- an optional minus, digits, an optional point with digits, `e`, an optional minus, digits
pub data IsDouble : List ℕ → Type 0 where
  double_shape : (sign whole fraction exponent_sign exponent : List ℕ) → IsSign sign →
      AreDigits whole → IsFraction fraction → IsSign exponent_sign → AreDigits exponent →
      IsDouble (sign ++ (whole ++ (fraction ++ (codes "e" ++ (exponent_sign ++ exponent)))))
