-- The text of a query in which the name `row` stands for rows, and why there is none.
use Rattle.std.specs.Prelude.{◌≡◌, ℕ, Bool, true, false, List, map, codes, Some, Ok}
use Rattle.std.specs.Global.{Vec}
use Rattle.mysql_named_params.specs.Reading.{OnWideTokens}
use Rattle.mysql_portable.specs.declared.portable.Unportable.{Unportable}
use Rattle.mysql_fragments.specs.GivenFragments.{FragmentMap, named}
use Rattle.mysql_fragments.specs.declared.fragment.Fragment.{Fragment}
use Rattle.mysql_fragments.specs.declared.fragment.Fragment.TheVariants.{Rows}
use Rattle.mysql_fragments.specs.declared.fragment.Item.{Item}
use Rattle.mysql_fragments.specs.declared.fragments_error.FragmentsError.TheVariants as fragments
use Rattle.mysql_fragments.specs.declared.steady_fragments_error.SteadyFragmentsError.TheVariants as steady
use Rattle.mysql_bind_core.specs.Bound.{IsTaken, IsTextPortableIfWanted}
use Rattle.mysql_bind_core.specs.Contents.{contents_of}
use Rattle.mysql_bind_core.specs.Entries.{IsAskedText, entries_of, pair_said, with_fragment}
use Rattle.mysql_bind_core.specs.Refusals.{IsContentsRefusal, IsEntriesRefusal, IsFoundInText, IsFragmentsRefusal}
use Rattle.mysql_bind_core.specs.Requests.{mode_of}
use Rattle.mysql_bind_core.specs.RowItems.{RowsSaid, rows_said}
use Rattle.mysql_bind_core.specs.TakenQuery.{RequestedQuery}
use Rattle.mysql_bind_core.specs.declared.assignment.Assignment.{Assignment}
use Rattle.mysql_bind_core.specs.declared.failure.Failure.{Failure}
use Rattle.mysql_bind_core.specs.declared.failure.Failure.TheVariants as failure

-- the name that stands for the rows
abbrev pub row_name : List ℕ
row_name = codes "row"

-- fragments by name: exactly those of these assignments, and under the name `row` one more, which
-- has exactly these rows
pub record AreEntriesOf (fixed : List Assignment) (rows : RowsSaid) (entries : FragmentMap)
    : Type 0 where
  pub pairs : List (List ℕ × Fragment)
  pub items : Vec (Vec Item)
  pub contents_are : contents_of fixed ≡ Some (map pair_said pairs)
  pub rows_are : rows_said items.items ≡ rows
  pub entries_are : with_fragment (entries_of pairs) (row_name, Rows items) ≡ Ok entries

-- the text of the whole query and of such fragments
pub record IsRowsText (query : RequestedQuery) (fixed : List Assignment) (rows : RowsSaid)
    (text : List ℕ) : Type 0 where
  pub entries : FragmentMap
  pub are : AreEntriesOf fixed rows entries
  pub bound : OnWideTokens (mode_of query.request.literals) query.query (λ ts.
      IsAskedText query.request.literals ts (named entries) text)

-- the text is the one that a request writes for a query, these assignments and rows that say this
pub record IsRowsWritten (query : RequestedQuery) (fixed : List Assignment) (rows : RowsSaid)
    (text : List ℕ) : Type 0 where
  -- the request takes the query, and the text is that of the assignments and the rows
  pub taken : IsTaken query.request query.query
  pub text_is : IsRowsText query fixed rows text
  -- and unless all queries are taken, the text itself is portable on servers and in a client
  pub portable_text : IsTextPortableIfWanted query.request text

-- why there is no such text, or out of memory: the assignments give no fragments, `row` is among
-- them, the fragments can't be bound, or the text isn't portable
pub data IsRowsBoundRefusal (query : RequestedQuery) (fixed : List Assignment) (rows : RowsSaid)
    (why : Failure) : Type 0 where
  of_contents : IsContentsRefusal fixed why → IsRowsBoundRefusal query fixed rows why
  of_name : (pairs : List (List ℕ × Fragment)) (items : Vec (Vec Item)) →
      contents_of fixed ≡ Some (map pair_said pairs) → rows_said items.items ≡ rows →
      IsEntriesRefusal (with_fragment (entries_of pairs) (row_name, Rows items)) why →
      IsRowsBoundRefusal query fixed rows why
  of_entries : (entries : FragmentMap) → AreEntriesOf fixed rows entries →
      OnWideTokens (mode_of query.request.literals) query.query (λ ts.
      IsFragmentsRefusal query.request.literals ts (named entries) why) →
      IsRowsBoundRefusal query fixed rows why
  of_text : (text : List ℕ) → IsRowsText query fixed rows text → (found : Unportable) →
      why ≡ failure.UnportableText found → IsFoundInText query.request text found →
      IsRowsBoundRefusal query fixed rows why

-- the refusal is out of memory
abbrev pub is_of_memory : Failure → Bool
is_of_memory (failure.Memory error) = true
is_of_memory (failure.Fragments (fragments.Memory error)) = true
is_of_memory (failure.SteadyFragments (steady.Fragments (fragments.Memory error))) = true
is_of_memory why = false
