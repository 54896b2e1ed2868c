-- The values of a query's places, as they are kept: for `PlaceValues`.
use Rattle.std.specs.Prelude.{List, map}
use Rattle.mysql_values.specs.declared.value.Value.{Value}
use Rattle.mysql_values.specs.BorrowedValue.{owned_values}
use Rattle.mysql_params_core.specs.GivenBorrowed.{pair_value}
use Rattle.mysql_params_core.specs.Referents.{referents}
use Rattle.mysql_binding.specs.declared.binding.place_values.PairValues.{PairValues}
use Rattle.mysql_binding.specs.declared.binding.place_values.PlaceValues.{PlaceValues}
use Rattle.mysql_binding.specs.declared.binding.place_values.PlaceValues.TheVariants as kept

-- the values of the pairs with these indices, in order
abbrev pub pair_values : PairValues → List Value
pair_values list = map (pair_value list.pairs.now) list.indices.items

-- the values of the places, in order
abbrev pub placed_values : PlaceValues → List Value
placed_values (kept.Positional values) = values.now
placed_values (kept.Values values) = owned_values values.now
placed_values (kept.Named values) = referents values.items
placed_values (kept.Pairs values) = pair_values values
placed_values (kept.Listed values) = owned_values values.items
