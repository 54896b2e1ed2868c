-- The length of the pieces of a query: for the survey.
use Rattle.std.specs.Prelude.{ℕ, List, length}
use Rattle.std.specs.List.{sum_by}
use Rattle.mysql_named_params.specs.Tokens.{Token}
use Rattle.mysql_binding.specs.Pieces.{pieces}

-- the total length of all pieces of a query
abbrev pub pieces_len : List Token → ℕ
pieces_len ts = sum_by length (pieces ts)
