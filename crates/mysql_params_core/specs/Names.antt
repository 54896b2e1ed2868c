-- The names of a list, as their bytes, and a definition that says that the test for a prefix is
-- right. The name that is reported as missing is re-exported.
use Rattle.std.specs.Prelude.{◌≡◌, ◌<◌, ◌↔◌, ℕ, Bool, List, [], map, Option, None, Some, slice_get, IsTrue}
use Rattle.std.specs.Borrow.{Bor}
use Rattle.std.specs.Global.{Vec}
use Rattle.std.specs.FinMap.{contains_key}
use Rattle.mysql_params_core.specs.GivenValues.{ValueMap}
pub use Rattle.mysql_params_core.specs.LookupValues.{is_prefix, last_name, first_missing, missing_name}

-- the bytes of each name
abbrev pub names_of : List (Vec ℕ) → List (List ℕ)
names_of names = map (λ name. name.items) names

-- the names of a list; none if there is no list
abbrev pub listed_names : Option (Bor (List (Vec ℕ))) → List (List ℕ)
listed_names None = []
listed_names (Some names) = names_of names.now

-- the indices of the elements that pass the test are those below `count`
abbrev pub AreBelow : {X : Type 0} → (X → Bool) → List X → ℕ → Type 0
AreBelow test xs count = (i : ℕ) (x : _) → slice_get xs i ≡ Some x → (IsTrue (test x) ↔ (i < count))

-- the test `is_prefix` is right: the indices of the names in the map are those below some count
abbrev pub PrefixesAreFound : Type 0
PrefixesAreFound = (entries : ValueMap) (names : List (List ℕ)) →
    IsTrue (is_prefix (contains_key entries) names)
    ↔ ((count : ℕ) × AreBelow (contains_key entries) names count)
