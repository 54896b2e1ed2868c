-- The contents of fragments, by name or by position, and of the fragments that pairs of a name and
-- an argument make.
use Rattle.std.specs.Prelude.{ℕ, List, map, Result, Ok, Err, fold, if◌then◌else◌}
use Rattle.std.specs.FinMap as finite
use Rattle.std.specs.FinMap.{FinMap, from_entries}
use Rattle.std.specs.Global.{Vec}
use Rattle.std.specs.Ordering.{nat_cmp}
use Rattle.std.specs.Cmp.Lexicographic.{slice_cmp}
use Rattle.mysql_params_core.specs.Made.{ToParamsRefusal, redefined, too_long}
use Rattle.mysql_fragments.specs.declared.fragment.Fragment.{Fragment}
use Rattle.mysql_fragments.specs.declared.fragment.Fragments.{Fragments}
use Rattle.mysql_fragments.specs.declared.fragment.Fragments.TheVariants.{Named, Positional}
use Rattle.mysql_to_fragments.specs.FragmentContent.{FragmentContent, content_of}
use Rattle.mysql_to_fragments.specs.Arguments.{SaidFragment}

-- a finite map from names, which are bytes, to the contents of fragments
abbrev pub ContentMap : Type 0
ContentMap = FinMap (slice_cmp nat_cmp) FragmentContent

-- an entry, with its name as bytes and the content of its fragment
abbrev pub entry_content : Vec ℕ × Fragment → List ℕ × FragmentContent
entry_content entry = (entry.0.items, content_of entry.1)

-- the finite map of a hash map's entries
abbrev pub content_map : List (Vec ℕ × Fragment) → ContentMap
content_map entries = from_entries (map entry_content entries)

-- the contents of the fragments for the places of a query
pub data GivenContents : Type 0 where
  -- fragments by name
  by_name : ContentMap → GivenContents
  -- fragments by position
  by_position : List FragmentContent → GivenContents

-- the contents of these fragments
abbrev pub contents_of : Fragments → GivenContents
contents_of (Named entries) = by_name (content_map entries.entries)
contents_of (Positional fragments) = by_position (map content_of fragments.items)

-- the map with the fragment of a new name, or the refusal of the argument
abbrev pub with_new : ContentMap → List ℕ → SaidFragment → Result ContentMap ToParamsRefusal
with_new entries name (Ok content) = Ok (finite.insert entries name content)
with_new entries name (Err duration) = Err (too_long duration)

-- the map with one more pair, whose name may not be in it yet; a refusal stays
abbrev pub with_pair : Result ContentMap ToParamsRefusal → List ℕ × SaidFragment
    → Result ContentMap ToParamsRefusal
with_pair (Ok entries) pair =
    if finite.contains_key entries pair.0 then Err (redefined pair.0)
    else with_new entries pair.0 pair.1
with_pair (Err refusal) pair = Err refusal

-- the map as fragments by name
abbrev pub named_contents : Result ContentMap ToParamsRefusal
    → Result GivenContents ToParamsRefusal
named_contents (Ok entries) = Ok (by_name entries)
named_contents (Err refusal) = Err refusal

-- the contents that pairs of a name and an argument make, taken in order
abbrev pub pairs_made : List (List ℕ × SaidFragment) → Result GivenContents ToParamsRefusal
pairs_made pairs = named_contents (fold with_pair (Ok finite.empty) pairs)
