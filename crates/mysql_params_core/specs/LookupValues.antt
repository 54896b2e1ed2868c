-- The values that parameters give to the names of a query, and the name that is reported missing.
use Rattle.std.specs.Prelude.{ℕ, ◌-◌, Bool, true, not, List, [], ◌∷◌, length, find, unwrap_or, slice_index_or, if◌then◌else◌, Option, Some, Result, Ok, Err, ok_or}
use Rattle.std.specs.List.{list_any}
use Rattle.std.specs.FinMap.{contains_key, get}
use Rattle.mysql_params_core.specs.GivenValues.{ValueMap, Given, empty, named, positional}
use Rattle.std.specs.Option.{option_map, option_and_then}
use Rattle.mysql_value_core.specs.declared.value.Value.{Value}
use Rattle.mysql_params_core.specs.declared.params.errors.ParamsConfusionError.{ParamsConfusionError}
use Rattle.mysql_params_core.specs.declared.params.errors.ParamsConfusionError.TheVariants.{NamedParamsForPositionalQuery, PositionalParamsForNamedQuery}

-- whether the elements that pass the test are exactly a prefix of the list, possibly none or all
abbrev pub is_prefix : {X : Type 0} → (X → Bool) → List X → Bool
is_prefix test [] = true
is_prefix test (x ∷ xs) = if test x then is_prefix test xs else not (list_any test xs)

-- the last name of a list; no bytes for the empty list
abbrev pub last_name : List (List ℕ) → List ℕ
last_name names = slice_index_or names (length names - 1) []

-- the first name that isn't in the map; no bytes if all are in it
abbrev pub first_missing : ValueMap → List (List ℕ) → List ℕ
first_missing entries names = unwrap_or (find (λ name. not (contains_key entries name)) names) []

-- The name that is reported if not all are in the map. If the names that are in the map are exactly
-- a prefix of the list, it is the last name of the list. Otherwise it is the first name that isn't
-- in the map.
abbrev pub missing_name : ValueMap → List (List ℕ) → List ℕ
missing_name entries names =
    if is_prefix (contains_key entries) names then last_name names
    else first_missing entries names

-- the cause for which parameters don't give the values of a query
pub data LookupRefusal : Type 0 where
  -- this name has no value
  missing : List ℕ → LookupRefusal
  -- the parameters are of the other kind
  confused : ParamsConfusionError → LookupRefusal

-- the value of each name, in order; `None` if a name has no value
abbrev pub values_at : ValueMap → List (List ℕ) → Option (List Value)
values_at entries [] = Some []
values_at entries (name ∷ names) =
    option_and_then (λ value. option_map (λ rest. value ∷ rest) (values_at entries names))
    (get entries name)

-- the values for the names of a query, or the refusal; the list is empty for a query without names
abbrev pub lookup : Given → List (List ℕ) → Result (List Value) LookupRefusal
lookup empty [] = Ok []
lookup empty (name ∷ names) = Err (missing name)
lookup (positional values) [] = Ok values
lookup (positional values) (name ∷ names) = Err (confused PositionalParamsForNamedQuery)
lookup (named entries) [] = Err (confused NamedParamsForPositionalQuery)
lookup (named entries) (name ∷ names) =
    ok_or (values_at entries (name ∷ names)) (missing (missing_name entries (name ∷ names)))
