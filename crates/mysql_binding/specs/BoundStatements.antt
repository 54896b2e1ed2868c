-- The statements of a bound text: those of the query, with the tokens of literals in their places.
use Rattle.std.specs.Prelude.{List, [], ◌∷◌, drop}
use Rattle.mysql_named_params.specs.Tokens.{Token}
use Rattle.mysql_named_params.specs.Places.{place_count}
use Rattle.mysql_binding.specs.Replaced.{with_literal_tokens}

-- the first statement with the first lists in its places, the next with the lists after them, ..
abbrev pub statements_with_literals : List (List Token) → List (List Token) → List (List Token)
statements_with_literals [] lists = []
statements_with_literals (statement ∷ more) lists =
    with_literal_tokens statement lists
    ∷ statements_with_literals more (drop (place_count statement) lists)
