-- The view that contracts have of a parsed query: the query with marks, and the names.
use Rattle.std.specs.Prelude.{ℕ, List, Bool, ◌&&◌, nat_eq}
use Rattle.std.specs.Cmp.Lexicographic.{pointwise}
use Rattle.mysql_named_params.specs.Tokens.{Token, text_of}
use Rattle.mysql_named_params.specs.NamesAndMarks.{names}
use Rattle.mysql_named_params.specs.Places.{with_marks}

-- a parsed query: its text with marks, and its names
pub record Parsed : Type 0 where
  -- the query with a mark in place of each name
  pub query : List ℕ
  -- the names without their colons, in order, with repeats
  pub params : List (List ℕ)

-- the parsed query of these tokens
abbrev pub parsed : List Token → Parsed
parsed ts = record { query = text_of (with_marks ts); params = names ts }

-- whether the two are equal
abbrev pub same_parsed : Parsed → Parsed → Bool
same_parsed p q =
    pointwise nat_eq p.query q.query && pointwise (pointwise nat_eq) p.params q.params
