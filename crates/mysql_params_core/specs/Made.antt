-- The parameters that arguments make.
use Rattle.std.specs.Prelude.{◌≡◌, ◌+◌, ℕ, map, take, slice_get, Some, List, [], ◌∷◌, ◌++◌, Result, Ok, Err, fold, if◌then◌else◌}
use Rattle.std.specs.FinMap as finite
use Rattle.std.specs.declared.time.Duration.{Duration}
use Rattle.mysql_value_core.specs.declared.value.Value.{Value}
use Rattle.mysql_value_core.specs.declared.value.ValueRef.{ValueRef}
use Rattle.mysql_values.specs.BorrowedValue.{owned}
use Rattle.std.specs.Borrow.{Bor}
use Rattle.mysql_values.specs.ValueOf.{Meaning}
use Rattle.mysql_params_core.specs.GivenValues.{ValueMap, Given, empty, named, positional}

-- the cause for which arguments make no parameters
pub data ToParamsRefusal : Type 0 where
  -- this is the name of an earlier pair
  redefined : List ℕ → ToParamsRefusal
  -- the duration is too long for a value
  too_long : Duration → ToParamsRefusal

-- the parameters that arguments make, or the refusal
abbrev pub Made : Type 0
Made = Result Given ToParamsRefusal

-- the values so far, followed by the value of one more argument; a refusal is kept
abbrev pub with_value : Result (List Value) ToParamsRefusal → Meaning
    → Result (List Value) ToParamsRefusal
with_value (Ok values) (Ok value) = Ok (values ++ value ∷ [])
with_value (Ok values) (Err duration) = Err (too_long duration)
with_value (Err refusal) meaning = Err refusal

-- the values of all arguments in order, or the refusal of the first argument without a value
abbrev pub values_made : List Meaning → Result (List Value) ToParamsRefusal
values_made meanings = fold with_value (Ok []) meanings

-- the values as parameters by position
abbrev pub by_position : Result (List Value) ToParamsRefusal → Made
by_position (Ok values) = Ok (positional values)
by_position (Err refusal) = Err refusal

-- the parameters that a list of arguments makes; an empty list makes none
abbrev pub list_made : List Meaning → Made
list_made [] = Ok empty
list_made (meaning ∷ meanings) = by_position (values_made (meaning ∷ meanings))

-- the map with the value of a new name, or the refusal of the argument
abbrev pub with_new : ValueMap → List ℕ → Meaning → Result ValueMap ToParamsRefusal
with_new entries name (Ok value) = Ok (finite.insert entries name value)
with_new entries name (Err duration) = Err (too_long duration)

-- the map with one more pair; a name that is already in it is refused, and a refusal is kept
abbrev pub with_pair : Result ValueMap ToParamsRefusal → List ℕ × Meaning
    → Result ValueMap ToParamsRefusal
with_pair (Ok entries) pair =
    if finite.contains_key entries pair.0 then Err (redefined pair.0)
    else with_new entries pair.0 pair.1
with_pair (Err refusal) pair = Err refusal

-- the map as named parameters
abbrev pub by_name : Result ValueMap ToParamsRefusal → Made
by_name (Ok entries) = Ok (named entries)
by_name (Err refusal) = Err refusal

-- the parameters that pairs of a name and an argument make, taken in order
abbrev pub pairs_made : List (List ℕ × Meaning) → Made
pairs_made pairs = by_name (fold with_pair (Ok finite.empty) pairs)

-- a borrowed pair, in the form from which parameters are made
abbrev pub seen_pair : Bor (List ℕ) × ValueRef → List ℕ × Meaning
seen_pair pair = (pair.0.now, Ok (owned pair.1))

-- the greatest number of pairs in which names are found by walks, without memory
abbrev pub few_pairs : ℕ
few_pairs = 64

-- the pair with this index, from 0, is the first that has the name of an earlier pair
pub record IsFirstRedefined (pairs : List (Bor (List ℕ) × ValueRef)) (index : ℕ) : Type 0 where
  pub pair : Bor (List ℕ) × ValueRef
  pub stands : slice_get pairs index ≡ Some pair
  -- the pairs before it make parameters
  pub earlier : Given
  pub made : pairs_made (take index (map seen_pair pairs)) ≡ Ok earlier
  -- with it they make none, since its name is among theirs
  pub with_it : pairs_made (take (index + 1) (map seen_pair pairs)) ≡ Err (redefined pair.0.now)
  -- all the pairs are refused for this name
  pub refused : pairs_made (map seen_pair pairs) ≡ Err (redefined pair.0.now)
