-- The names of a query, and its marks.
use Rattle.std.specs.Prelude.{◌&&◌, nat_lt, Bool, ℕ, ◌+◌, List, [], ◌∷◌, length}
use Rattle.mysql_named_params.specs.Tokens.{Token, Name, Mark}

-- the names without their colons, in order, with repeats
abbrev pub names : List Token → List (List ℕ)
names [] = []
names (Name name ∷ ts) = name ∷ names ts
names (t ∷ ts) = names ts

-- the number of marks
abbrev pub marks : List Token → ℕ
marks [] = 0
marks (Mark ∷ ts) = marks ts + 1
marks (t ∷ ts) = marks ts

-- whether there are both a name and a mark
abbrev pub has_both : List Token → Bool
has_both ts = nat_lt 0 (length (names ts)) && nat_lt 0 (marks ts)
