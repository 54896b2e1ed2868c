-- Private: the names that rows have in common, and the indices of the values for the places of a
-- query.
use Rattle.std.specs.Prelude.{◌≡◌, ◌≢◌, ◌<◌, nat_eq, ℕ, Bool, false, List, [], ◌∷◌, map, length, take, get_or, slice_get, None, Some, Ok}
use Rattle.std.specs.List.{list_any}
use Rattle.std.specs.Cmp.Lexicographic.{pointwise}
use Rattle.std.specs.Borrow.{Bor}
use Rattle.mysql_value_core.specs.declared.value.Value.{Value}
use Rattle.mysql_value_core.specs.declared.value.ValueRef.{ValueRef}
use Rattle.mysql_named_params.specs.Reading.{OnTokensIn}
use Rattle.mysql_named_params.specs.declared.places.Reading.{Reading}
use Rattle.mysql_named_params.specs.NamesAndMarks.{names}
use Rattle.mysql_params_core.specs.GivenValues.{Given, empty, named}
use Rattle.mysql_params_core.specs.GivenBorrowed.{pair_map}
use Rattle.mysql_binding.specs.FirstCause.{mixed_cause}
use Rattle.mysql_flat_params.specs.FlatForm.{IsFormReading, read_name, read_value}
use Rattle.mysql_flat_params.specs.declared.row_names.FoundNames.{FoundNames}

-- the names of pairs, in order
abbrev pub names_of_pairs : List (Bor (List ℕ) × ValueRef) → List (List ℕ)
names_of_pairs pairs = map (λ pair. pair.0.now) pairs

-- the values of pairs, in order
abbrev pub values_of_pairs : List (Bor (List ℕ) × ValueRef) → List ValueRef
values_of_pairs pairs = map (λ pair. pair.1) pairs

-- whether the name is one of these
abbrev pub is_one_of : List (List ℕ) → List ℕ → Bool
is_one_of names name = list_any (pointwise nat_eq name) names

-- each name has some bytes, and differs from those before it
abbrev pub AreOwnNames : List (List ℕ) → Type 0
AreOwnNames names = (i : ℕ) → i < length names →
    (get_or names i [] ≢ []) × (is_one_of (take i names) (get_or names i []) ≡ false)

-- at the index for each place is the name that is wanted there
abbrev pub AreAtPlaces : List (List ℕ) → (places : List ℕ) → (wanted : List (List ℕ)) → Type 0
AreAtPlaces names places wanted = map (slice_get names) places ≡ map Some wanted

-- at the index for each place is the pair of its value
abbrev pub AreValuesAt : List (Bor (List ℕ) × ValueRef) → (places : List ℕ) → List ValueRef → Type 0
AreValuesAt pairs places values = map (slice_get (values_of_pairs pairs)) places ≡ map Some values

-- The names are those of a form by name, and each name of the query, which has no marks, is found
-- among them.
pub record AreFoundNames (reading : Reading) (query : List ℕ) (found : FoundNames) : Type 0 where
  pub some : 0 < length found.pairs.items
  pub own : AreOwnNames (names_of_pairs found.pairs.items)
  pub at_places : OnTokensIn reading query (λ ts. (mixed_cause ts ≡ None) × (names ts ≢ [])
      × AreAtPlaces (names_of_pairs found.pairs.items) found.places.items (names ts))

-- the form has exactly these pairs
abbrev pub IsFormOfPairs : List ℕ → List (Bor (List ℕ) × ValueRef) → Type 0
IsFormOfPairs form pairs = IsFormReading form (Ok (named (pair_map pairs)))

-- a parameter of this name is read at the front of these bytes, with this value, up to the next
abbrev pub IsReadUnder : (place position : ℕ) (name : List ℕ) → Value → (bytes next : List ℕ)
    → Type 0
IsReadUnder place position name value bytes next = (middle : List ℕ)
    × (read_name place position bytes ≡ Ok (name, middle))
    × (read_value place position middle ≡ Ok (value, next))

-- the parameters once these pairs are read
abbrev pub given_so_far : List (Bor (List ℕ) × ValueRef) → Given
given_so_far [] = empty
given_so_far (pair ∷ pairs) = named (pair_map (pair ∷ pairs))
