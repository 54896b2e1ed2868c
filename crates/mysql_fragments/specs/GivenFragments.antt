-- The fragments for the places of a query. The order of a hash map's entries makes no difference.
use Rattle.std.specs.Prelude.{ℕ, List, [], ◌∷◌, map, Option, None, Some, Result, Ok, Err}
use Rattle.std.specs.Global.{Vec}
use Rattle.std.specs.Ordering.{nat_cmp}
use Rattle.std.specs.Cmp.Lexicographic.{slice_cmp}
use Rattle.std.specs.FinMap.{FinMap, from_entries, get}
use Rattle.mysql_params_core.specs.declared.params.errors.ParamsConfusionError.{ParamsConfusionError}
use Rattle.mysql_params_core.specs.declared.params.errors.ParamsConfusionError.TheVariants.{NamedParamsForPositionalQuery, PositionalParamsForNamedQuery}
use Rattle.mysql_fragments.specs.declared.fragment.Fragment.{Fragment}
use Rattle.mysql_fragments.specs.declared.fragment.Fragments.{Fragments}
use Rattle.mysql_fragments.specs.declared.fragment.Fragments.TheVariants.{Named, Positional}

-- a finite map from names, which are bytes, to fragments
abbrev pub FragmentMap : Type 0
FragmentMap = FinMap (slice_cmp nat_cmp) Fragment

-- an entry, with its name as bytes
abbrev pub by_bytes : Vec ℕ × Fragment → List ℕ × Fragment
by_bytes entry = (entry.0.items, entry.1)

-- the finite map of a hash map's entries
abbrev pub fragment_map : List (Vec ℕ × Fragment) → FragmentMap
fragment_map entries = from_entries (map by_bytes entries)

-- the fragments that are given to a query
pub data GivenFragments : Type 0 where
  -- fragments by name
  named : FragmentMap → GivenFragments
  -- fragments by position
  positional : List Fragment → GivenFragments

-- these fragments, as they are given to a query
abbrev pub given_fragments : Fragments → GivenFragments
given_fragments (Named entries) = named (fragment_map entries.entries)
given_fragments (Positional fragments) = positional fragments.items

-- why there are no fragments for the places of a query
pub data PlaceRefusal : Type 0 where
  -- this name has no fragment
  missing : List ℕ → PlaceRefusal
  -- the fragments are of the other kind
  confused : ParamsConfusionError → PlaceRefusal

-- the fragments for places, or why there are none
abbrev pub PlaceFragments : Type 0
PlaceFragments = Result (List Fragment) PlaceRefusal

-- the fragment of this name, if it has one, before others
abbrev pub with_first : List ℕ → Option Fragment → PlaceFragments → PlaceFragments
with_first name None others = Err (missing name)
with_first name (Some fragment) (Err refusal) = Err refusal
with_first name (Some fragment) (Ok fragments) = Ok (fragment ∷ fragments)

-- the fragment of each name, in order, or the first name without one
abbrev pub fragments_at : FragmentMap → List (List ℕ) → PlaceFragments
fragments_at entries [] = Ok []
fragments_at entries (name ∷ names) =
    with_first name (get entries name) (fragments_at entries names)

-- the fragments for the places of a query with these names, in order, or the refusal; a query
-- without names has an empty list of names
abbrev pub fragments_for : GivenFragments → List (List ℕ) → PlaceFragments
fragments_for (positional fragments) [] = Ok fragments
fragments_for (positional fragments) (name ∷ names) = Err (confused PositionalParamsForNamedQuery)
fragments_for (named entries) [] = Err (confused NamedParamsForPositionalQuery)
fragments_for (named entries) (name ∷ names) = fragments_at entries (name ∷ names)
