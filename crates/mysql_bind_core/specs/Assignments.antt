-- The values that assignments give to the names of a query.
use Rattle.std.specs.Prelude.{ℕ, List, [], ◌∷◌, Option, Some, None, option_map, option_and_then, Result, Ok}
use Rattle.mysql_values.specs.declared.value.Value.{Value}
use Rattle.mysql_params_core.specs.GivenValues.{Given, empty}
use Rattle.mysql_params_core.specs.Made.{ToParamsRefusal}
use Rattle.mysql_query_core.specs.Words.{given_by_name}
use Rattle.mysql_bind_core.specs.ValueTypes.{typed_value}
use Rattle.mysql_bind_core.specs.declared.assignment.Assignment.{Assignment}
use Rattle.mysql_bind_core.specs.declared.assignment.PairsError.{PairsError}
use Rattle.mysql_bind_core.specs.declared.assignment.PairsError.TheVariants as error

-- the name of an assignment, and the value that its bytes mean; none if they mean none
abbrev pub pair_of : Assignment → Option (List ℕ × Value)
pair_of a = option_map (λ value. (a.name.items, value)) (typed_value a.value_type a.bytes.items)

-- name and value of each assignment; none if the bytes of one mean no value
abbrev pub pairs_of : List Assignment → Option (List (List ℕ × Value))
pairs_of [] = Some []
pairs_of (a ∷ rest) =
    option_and_then (λ pair. option_map (λ pairs. pair ∷ pairs) (pairs_of rest)) (pair_of a)

-- the values that pairs give to a query; empty if there are no pairs
abbrev pub given_of : List (List ℕ × Value) → Result Given ToParamsRefusal
given_of [] = Ok empty
given_of (pair ∷ pairs) = given_by_name (pair ∷ pairs)

-- why assignments make no pairs
pub data PairsRefusal : Type 0 where
  -- the bytes of one mean no value
  no_value : PairsRefusal

-- the refusal of an error; none for out of memory
abbrev pub pairs_refusal : PairsError → Option PairsRefusal
pairs_refusal error.NoValue = Some no_value
pairs_refusal (error.Memory e) = None
