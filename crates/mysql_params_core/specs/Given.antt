-- The view that contracts have of parameters. It has neither the places of the values in memory,
-- nor the order in which a hash map holds its entries. The kinds of parameters are re-exported.
use Rattle.std.specs.Prelude.{ℕ, List, map}
use Rattle.std.specs.Global.{Vec}
use Rattle.std.specs.FinMap.{from_entries}
use Rattle.mysql_value_core.specs.declared.value.Value.{Value}
use Rattle.mysql_params_core.specs.declared.params.Params.{Params}
use Rattle.mysql_params_core.specs.declared.params.Params.TheVariants.{Empty, Named, Positional}
pub use Rattle.mysql_params_core.specs.GivenValues.{ValueMap, Given, empty, named, positional}

-- an entry, with its name as bytes
abbrev pub by_bytes : Vec ℕ × Value → List ℕ × Value
by_bytes entry = (entry.0.items, entry.1)

-- the finite map of a hash map's entries
abbrev pub value_map : List (Vec ℕ × Value) → ValueMap
value_map entries = from_entries (map by_bytes entries)

-- the values that these parameters give
abbrev pub given : Params → Given
given Empty = empty
given (Named entries) = named (value_map entries.entries)
given (Positional values) = positional values.items
