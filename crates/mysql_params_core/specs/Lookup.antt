-- The lookups that allocate, and the values of named parameters by position. The values of a lookup
-- are re-exported.
use Rattle.std.specs.Prelude.{◌≡◌, ◌≢◌, ◌↔◌, ℕ, List, [], ◌∷◌, Result, Ok, ok_or, ⊤}
use Rattle.std.specs.Option.{option_map}
use Rattle.mysql_value_core.specs.declared.value.Value.{Value}
use Rattle.mysql_params_core.specs.GivenValues.{ValueMap, Given, empty, named, positional}
use Rattle.mysql_params_core.specs.LookupValues.{first_missing}
pub use Rattle.mysql_params_core.specs.LookupValues.{LookupRefusal, missing, confused, values_at, lookup}

-- named parameters by position, or the first missing name; other parameters as they are
abbrev pub positional_of : Given → List (List ℕ) → Result Given (List ℕ)
positional_of empty names = Ok empty
positional_of (positional values) names = Ok (positional values)
positional_of (named entries) names =
    ok_or (option_map positional (values_at entries names)) (first_missing entries names)

-- a lookup allocates only for a list with names, and named parameters or none
abbrev pub LookupTakesMemory : Given → List (List ℕ) → Type 0
LookupTakesMemory params [] = ⊥
LookupTakesMemory empty (name ∷ names) = ⊤
LookupTakesMemory (positional values) (name ∷ names) = ⊥
LookupTakesMemory (named entries) (name ∷ names) = ⊤

-- making parameters positional allocates only for a list with names, and named parameters
abbrev pub PositionTakesMemory : Given → List (List ℕ) → Type 0
PositionTakesMemory empty names = ⊥
PositionTakesMemory (positional values) names = ⊥
PositionTakesMemory (named entries) [] = ⊥
PositionTakesMemory (named entries) (name ∷ names) = ⊤

-- A lookup of borrowed values allocates whenever a lookup does. It also allocates for a list
-- without names, if there are positional values.
abbrev pub PlaceValuesTakeMemory : Given → List (List ℕ) → Type 0
PlaceValuesTakeMemory (positional (value ∷ values)) [] = ⊤
PlaceValuesTakeMemory params names = LookupTakesMemory params names

-- for named parameters and a list with names, both give the same values, or both are refused
abbrev pub LookupsAgree : Type 0
LookupsAgree = (entries : ValueMap) (names : List (List ℕ)) → names ≢ [] → (values : List Value) →
    (lookup (named entries) names ≡ Ok values)
    ↔ (positional_of (named entries) names ≡ Ok (positional values))
