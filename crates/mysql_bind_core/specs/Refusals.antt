-- Which refusal comes: the first that holds, in the order of `Failure`.
use Rattle.std.specs.Prelude.{◌≡◌, ◌++◌, ◌≢◌, ◌⊎◌, ℕ, Bool, true, List, map, Some, None, Ok, Err, ⊤}
use Rattle.mysql_named_params.specs.LoweredNames.{lower_names}
use Rattle.mysql_named_params.specs.NamesAndMarks.{marks, names}
use Rattle.mysql_named_params.specs.Reading.{OnWideTokens}
use Rattle.mysql_named_params.specs.Tokens.{Token, OnTokens}
use Rattle.mysql_portable.specs.Steady.{first_unsteady}
use Rattle.mysql_portable.specs.FirstUnportableInClient.{first_unportable_in_client}
use Rattle.mysql_portable.specs.declared.portable.Unportable.{Unportable}
use Rattle.mysql_fragments.specs.FragmentErrors as fragments
use Rattle.mysql_fragments.specs.GivenFragments.{FragmentMap, GivenFragments}
use Rattle.mysql_fragments.specs.declared.fragment.Fragment.{Fragment}
use Rattle.mysql_fragments.specs.SteadyFragmentsErrors as steady
use Rattle.mysql_bind_core.specs.Bound.{IsAssignedText, IsClosed, IsSteadyIfWanted, IsPortableIfWanted, IsPortableQuery, IsTaken}
use Rattle.mysql_bind_core.specs.Contents.{contents_of}
use Rattle.mysql_bind_core.specs.Entries.{Entries, entries_of, given_to, pair_said}
use Rattle.mysql_bind_core.specs.QueryEnd.{EndsWithDashes, end, long_end}
use Rattle.mysql_bind_core.specs.Requests.{mode_of}
use Rattle.mysql_bind_core.specs.declared.assignment.Assignment.{Assignment}
use Rattle.mysql_bind_core.specs.declared.assignment.PairsError.{PairsError}
use Rattle.mysql_bind_core.specs.declared.assignment.PairsError.TheVariants as pairs
use Rattle.mysql_bind_core.specs.declared.failure.Failure.{Failure}
use Rattle.mysql_bind_core.specs.declared.failure.Failure.TheVariants as failure
use Rattle.mysql_bind_core.specs.declared.request.Literals.{Literals}
use Rattle.mysql_bind_core.specs.declared.request.Literals.TheVariants as literals
use Rattle.mysql_bind_core.specs.declared.request.Portability.TheVariants as portability
use Rattle.mysql_bind_core.specs.declared.request.Request.{Request}

-- the first construct of a query with its names in lower case
abbrev pub IsFirstFound : Bool → List ℕ → Unportable → Type 0
IsFirstFound mode query found =
    OnWideTokens mode query (λ ts. Some found ≡ first_unportable_in_client (lower_names ts))

-- the first construct of a query, or if it has none, of the query with the end of a statement
abbrev pub IsFoundInQuery : Bool → List ℕ → Unportable → Type 0
IsFoundInQuery mode query found =
    IsFirstFound mode query found
    ⊎ (IsPortableQuery mode query × IsFirstFound mode (query ++ end) found)

-- why the request doesn't take the query, or out of memory
abbrev pub IsQueryRefusal : Request → List ℕ → Failure → Type 0
IsQueryRefusal request query (failure.Open at) =
    OnTokens (mode_of request.literals) (query ++ end) (λ us. Some at ≡ long_end us)
IsQueryRefusal request query (failure.Unsteady at) =
    IsClosed request query × (request.literals ≡ literals.Steady)
    × (Some at ≡ first_unsteady query)
IsQueryRefusal request query (failure.Unportable found) =
    IsClosed request query × IsSteadyIfWanted request query
    × (request.portability ≡ portability.Portable)
    × IsFoundInQuery (mode_of request.literals) query found
IsQueryRefusal request query failure.Marks =
    IsClosed request query × IsSteadyIfWanted request query × IsPortableIfWanted request query
    × OnWideTokens (mode_of request.literals) query (λ ts. marks ts ≢ 0)
IsQueryRefusal request query (failure.Memory error) = ⊤
IsQueryRefusal request query why = ⊥

-- the query is copied to check whether it is portable with the end of a statement: it has to be, it
-- isn't refused before, it has no construct itself, and it ends with `--`
abbrev pub IsCopied : Request → List ℕ → Type 0
IsCopied request query =
    IsClosed request query × IsSteadyIfWanted request query
    × (request.portability ≡ portability.Portable)
    × IsPortableQuery (mode_of request.literals) query × EndsWithDashes query

-- the failure for an error of pairs
abbrev pub pairs_failure : PairsError → Failure
pairs_failure pairs.NoValue = failure.NoValue
pairs_failure (pairs.Memory error) = failure.Memory error

-- why pairs that make these entries give nothing, or out of memory
abbrev pub IsEntriesRefusal : Entries → Failure → Type 0
IsEntriesRefusal made (failure.Redefined name) = made ≡ Err name.items
IsEntriesRefusal made (failure.Memory error) = ⊤
IsEntriesRefusal made why = ⊥

-- why these assignments give no fragments, or out of memory: the bytes of one have no content, or a
-- name comes twice
abbrev pub IsContentsRefusal : List Assignment → Failure → Type 0
IsContentsRefusal assignments failure.NoValue = contents_of assignments ≡ None
IsContentsRefusal assignments (failure.Memory error) = ⊤
IsContentsRefusal assignments why = (pairs : List (List ℕ × Fragment))
    × (contents_of assignments ≡ Some (map pair_said pairs))
    × IsEntriesRefusal (entries_of pairs) why

-- why fragments can't be bound, in the literals that are asked for, into a query with these tokens
-- that is taken
abbrev pub IsFragmentsRefusal : Literals → List Token → GivenFragments → Failure → Type 0
IsFragmentsRefusal (literals.Plain mode) ts given (failure.Fragments error) =
    fragments.IsCauseOrMemory (fragments.first_cause true ts given) error
IsFragmentsRefusal literals.Steady ts given (failure.SteadyFragments error) =
    steady.IsFragmentsRefusal ts given error
IsFragmentsRefusal asked ts given why = ⊥

-- the first construct of a text that has to be portable in a client, and isn't
abbrev pub IsFoundInText : Request → List ℕ → Unportable → Type 0
IsFoundInText request text found =
    (request.portability ≡ portability.Portable)
    × OnTokens (mode_of request.literals) text (λ ts. Some found ≡ first_unportable_in_client ts)

-- why a request writes nothing for this query and these assignments: the query isn't taken, the
-- assignments give no fragments, these can't be bound, or the text isn't portable
pub data IsRefusal (request : Request) (query : List ℕ) (assignments : List Assignment)
    (why : Failure) : Type 0 where
  of_query : IsQueryRefusal request query why → IsRefusal request query assignments why
  of_contents : IsTaken request query → IsContentsRefusal assignments why →
      IsRefusal request query assignments why
  of_fragments : IsTaken request query → (pairs : List (List ℕ × Fragment)) →
      (entries : FragmentMap) → contents_of assignments ≡ Some (map pair_said pairs) →
      entries_of pairs ≡ Ok entries → OnWideTokens (mode_of request.literals) query (λ ts.
      IsFragmentsRefusal request.literals ts (given_to assignments entries (names ts)) why) →
      IsRefusal request query assignments why
  of_bound_text : IsTaken request query → (text : List ℕ) →
      IsAssignedText request query assignments text → (found : Unportable) →
      why ≡ failure.UnportableText found → IsFoundInText request text found →
      IsRefusal request query assignments why
