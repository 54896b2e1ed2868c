-- The values that a query can be given: none, values by name, or values by position.
use Rattle.std.specs.Prelude.{List}
use Rattle.std.specs.Ordering.{nat_cmp}
use Rattle.std.specs.Cmp.Lexicographic.{slice_cmp}
use Rattle.std.specs.FinMap.{FinMap}
use Rattle.mysql_value_core.specs.declared.value.Value.{Value}

-- a finite map from names to values; a name is bytes
abbrev pub ValueMap : Type 0
ValueMap = FinMap (slice_cmp nat_cmp) Value

-- the values that parameters give to a query
pub data Given : Type 0 where
  -- none
  empty : Given
  -- values by name
  named : ValueMap → Given
  -- values by position
  positional : List Value → Given
