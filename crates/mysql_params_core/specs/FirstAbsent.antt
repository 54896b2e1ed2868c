-- Private: the result of the walk over names.
use Rattle.std.specs.Prelude.{◌≡◌, ◌<◌, ℕ, true, false, List, [], length, take, slice_index_or, Option, None, Some}
use Rattle.std.specs.List.{list_all}
use Rattle.std.specs.FinMap.{contains_key}
use Rattle.mysql_params_core.specs.GivenValues.{ValueMap}

-- the index of the first name that isn't in the map; none if all are in it
abbrev pub IsFirstAbsent : ValueMap → List (List ℕ) → Option ℕ → Type 0
IsFirstAbsent entries names None = list_all (contains_key entries) names ≡ true
IsFirstAbsent entries names (Some index) =
    (index < length names) × (list_all (contains_key entries) (take index names) ≡ true)
    × (contains_key entries (slice_index_or names index []) ≡ false)
