-- A query with its names in lower case. Wide names become names of the grammar, at the same
-- positions. This is for tests of a query before it is bound, such as whether it is portable.
use Rattle.std.specs.Prelude.{ℕ, Bool, List, [], ◌∷◌, map}
use Rattle.std.specs.Char.{to_ascii_lowercase}
use Rattle.std.specs.List.{list_any}
use Rattle.mysql_named_params.specs.Tokens.{Token, Name}
use Rattle.mysql_named_params.specs.WideNames.{is_capital}

-- the tokens with each name in lower case
abbrev pub lower_names : List Token → List Token
lower_names [] = []
lower_names (Name name ∷ ts) = Name (map to_ascii_lowercase name) ∷ lower_names ts
lower_names (t ∷ ts) = t ∷ lower_names ts

-- one of the names has a capital
abbrev pub have_capitals : List (List ℕ) → Bool
have_capitals names = list_any (list_any is_capital) names
