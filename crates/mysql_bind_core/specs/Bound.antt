-- The text that is written for a request, a query and assignments: the bound text of the whole
-- query. Its values and other fragments are exactly those that the bytes of the assignments mean. A
-- query is read by wide names, which may have capitals.
use Rattle.std.specs.Prelude.{◌≡◌, ℕ, Bool, List, ◌++◌, map, None, Some, Ok}
use Rattle.mysql_named_params.specs.LoweredNames.{lower_names}
use Rattle.mysql_named_params.specs.Reading.{OnWideTokens}
use Rattle.mysql_named_params.specs.Tokens.{OnTokens}
use Rattle.mysql_named_params.specs.NamesAndMarks.{marks, names}
use Rattle.mysql_portable.specs.SteadyBytes.{IsSteady}
use Rattle.mysql_portable.specs.FirstUnportableInClient.{IsPortableInClient}
use Rattle.mysql_fragments.specs.GivenFragments.{FragmentMap}
use Rattle.mysql_fragments.specs.declared.fragment.Fragment.{Fragment}
use Rattle.mysql_bind_core.specs.Contents.{contents_of}
use Rattle.mysql_bind_core.specs.Entries.{IsAskedText, entries_of, given_to, pair_said}
use Rattle.mysql_bind_core.specs.QueryEnd.{end, long_end}
use Rattle.mysql_bind_core.specs.Requests.{IsReadIn, mode_of}
use Rattle.mysql_bind_core.specs.declared.assignment.Assignment.{Assignment}
use Rattle.mysql_bind_core.specs.declared.request.Literals.TheVariants as literals
use Rattle.mysql_bind_core.specs.declared.request.Portability.TheVariants as portability
use Rattle.mysql_bind_core.specs.declared.request.Request.{Request}

-- the query doesn't end within a token
abbrev pub IsClosed : Request → List ℕ → Type 0
IsClosed request query =
    OnTokens (mode_of request.literals) (query ++ end) (λ us. None ≡ long_end us)

-- if steady literals are asked for, the query is steady
abbrev pub IsSteadyIfWanted : Request → List ℕ → Type 0
IsSteadyIfWanted request query = request.literals ≡ literals.Steady → IsSteady query

-- the query is portable on servers and in a client, with its names in lower case
abbrev pub IsPortableQuery : Bool → List ℕ → Type 0
IsPortableQuery mode query = OnWideTokens mode query (λ ts. IsPortableInClient (lower_names ts))

-- unless all queries are taken, the query is so, by itself and with the end of a statement
abbrev pub IsPortableIfWanted : Request → List ℕ → Type 0
IsPortableIfWanted request query = request.portability ≡ portability.Portable →
    IsPortableQuery (mode_of request.literals) query
    × IsPortableQuery (mode_of request.literals) (query ++ end)

-- unless all queries are taken, a text, in which no names are left, is portable on servers and in a
-- client, in each mode in which it is read
abbrev pub IsTextPortableIfWanted : Request → List ℕ → Type 0
IsTextPortableIfWanted request text = request.portability ≡ portability.Portable →
    (mode : Bool) → IsReadIn request.literals mode → OnTokens mode text IsPortableInClient

-- each place of the query has a name
abbrev pub IsNamed : Request → List ℕ → Type 0
IsNamed request query = OnWideTokens (mode_of request.literals) query (λ ts. marks ts ≡ 0)

-- the query is one that the request takes
pub record IsTaken (request : Request) (query : List ℕ) : Type 0 where
  pub closed : IsClosed request query
  pub steady : IsSteadyIfWanted request query
  pub portable : IsPortableIfWanted request query
  pub is_named : IsNamed request query

-- the text that is written for these assignments
pub record IsAssignedText (request : Request) (query : List ℕ) (assignments : List Assignment)
    (text : List ℕ) : Type 0 where
  -- there are fragments that say exactly the same as the bytes of the assignments, by their names,
  pub pairs : List (List ℕ × Fragment)
  pub entries : FragmentMap
  pub contents_are : contents_of assignments ≡ Some (map pair_said pairs)
  pub entries_are : entries_of pairs ≡ Ok entries
  -- and the text is that of the whole query and of these fragments
  pub bound : OnWideTokens (mode_of request.literals) query (λ ts.
      IsAskedText request.literals ts (given_to assignments entries (names ts)) text)

-- the text is the one that a request writes for this query and these assignments
pub record IsWritten (request : Request) (query : List ℕ) (assignments : List Assignment)
    (text : List ℕ) : Type 0 where
  -- the request takes the query, and the text is that of the assignments
  pub taken : IsTaken request query
  pub assigned : IsAssignedText request query assignments text
  -- and unless all queries are taken, the text itself is portable on servers and in a client
  pub portable_text : IsTextPortableIfWanted request text
