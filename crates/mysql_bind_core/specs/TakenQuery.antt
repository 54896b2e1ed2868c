-- The view that contracts have of a query that a request takes, and the invariant of `TakenQuery`.
use Rattle.std.specs.Prelude.{◌≡◌, ℕ, List}
use Rattle.mysql_binding.specs.ParsedQuery.{QueryInMode}
use Rattle.mysql_bind_core.specs.Bound.{IsTaken}
use Rattle.mysql_bind_core.specs.Requests.{mode_of}
use Rattle.mysql_bind_core.specs.declared.request.Request.{Request}

-- a query and a request
pub record RequestedQuery : Type 0 where
  pub query : List ℕ
  pub request : Request

-- the query in the mode of the request
abbrev pub in_its_mode : RequestedQuery → QueryInMode
in_its_mode taken = record { mode = mode_of taken.request.literals; query = taken.query }

-- the request takes the query, which is read in its mode
pub record IsTakenFor (request : Request) (parsed : QueryInMode) : Type 0 where
  pub taken : IsTaken request parsed.query
  pub mode : parsed.mode ≡ mode_of request.literals
