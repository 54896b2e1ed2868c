-- The invariant of `MatchedQuery`, a query that is matched with the columns of a table.
use Rattle.std.specs.Prelude.{◌≡◌, ◌<◌, ℕ, true, List, length, Option}
use Rattle.std.specs.Option.{IfSome}
use Rattle.std.specs.Global.{Vec}
use Rattle.mysql_named_params.specs.NamesAndMarks.{names}
use Rattle.mysql_named_params.specs.Reading.{OnWideTokens}
use Rattle.mysql_binding.specs.ParsedQuery.{QueryInMode}
use Rattle.mysql_bind_core.specs.Bound.{IsTaken}
use Rattle.mysql_bind_core.specs.Cells.{AreNumbersOf, are_distinct_names}
use Rattle.mysql_bind_core.specs.TakenQuery.{RequestedQuery, in_its_mode}

-- the places of a query have these numbers among columns with these names, no two of them the same
pub record HaveNumbers (query : QueryInMode) (columns : List (List ℕ)) (numbers : List ℕ)
    : Type 0 where
  pub some : 0 < length columns
  pub asked : 0 < length numbers
  pub distinct : are_distinct_names columns ≡ true
  pub are : OnWideTokens query.mode query.query (λ ts. AreNumbersOf columns (names ts) numbers)

-- the request takes the query, and its places have the numbers, if there are numbers
pub record AreMatched (taken : RequestedQuery) (columns : List (List ℕ))
    (numbers : Option (Vec ℕ)) : Type 0 where
  pub is_taken : IsTaken taken.request taken.query
  pub numbered : IfSome numbers (λ found. HaveNumbers (in_its_mode taken) columns found.items)
