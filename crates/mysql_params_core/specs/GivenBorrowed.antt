-- The values that borrowed parameters give to a query: borrowed maps and lists, and pairs whose
-- names and values are borrowed.
use Rattle.std.specs.Prelude.{ℕ, List, get_or, map}
use Rattle.std.specs.FinMap.{from_entries}
use Rattle.std.specs.Borrow.{Bor}
use Rattle.mysql_value_core.specs.declared.value.Value.{Value}
use Rattle.mysql_value_core.specs.declared.value.Value.TheVariants.{NULL}
use Rattle.mysql_value_core.specs.declared.value.ValueRef.{ValueRef}
use Rattle.mysql_values.specs.BorrowedValue.{owned, owned_values}
use Rattle.mysql_params_core.specs.GivenValues.{Given, ValueMap, empty, named, positional}
use Rattle.mysql_params_core.specs.Given.{value_map}
use Rattle.mysql_params_core.specs.declared.params.borrowed.BorrowedParams.{BorrowedParams}
use Rattle.mysql_params_core.specs.declared.params.borrowed.BorrowedParams.TheVariants as borrowed

-- a borrowed entry, with its name as bytes
abbrev pub by_borrowed : Bor (List ℕ) × ValueRef → List ℕ × Value
by_borrowed pair = (pair.0.now, owned pair.1)

-- the finite map of pairs; if several pairs have one name, it has the first
abbrev pub pair_map : List (Bor (List ℕ) × ValueRef) → ValueMap
pair_map pairs = from_entries (map by_borrowed pairs)

-- the value of the pair with an index, or NULL if there is none
abbrev pub pair_value : List (Bor (List ℕ) × ValueRef) → ℕ → Value
pair_value pairs n = get_or (map (λ pair. owned pair.1) pairs) n NULL

-- the values that these borrowed parameters give
abbrev pub given_by_borrowed : BorrowedParams → Given
given_by_borrowed borrowed.Empty = empty
given_by_borrowed (borrowed.Named entries) = named (value_map entries.now.entries)
given_by_borrowed (borrowed.Sorted entries) = named (value_map entries.now.entries)
given_by_borrowed (borrowed.Pairs pairs) = named (pair_map pairs.now.0.now)
given_by_borrowed (borrowed.SortedPairs entries) = named (pair_map entries.now.entries)
given_by_borrowed (borrowed.Positional values) = positional values.now
given_by_borrowed (borrowed.Values values) = positional (owned_values values.now)
