-- The query for articles in an order that a user chooses, and what is given to it.
use Rattle.std.specs.Prelude.{◌≡◌, ℕ, Bool, List, [], ◌∷◌, codes, if◌then◌else◌}
use Rattle.mysql_params.specs.GivenFragments.{GivenFragments, positional}
use Rattle.mysql_params.specs.declared.fragments.Fragment.{Fragment}
use Rattle.mysql_params.specs.declared.fragments.Fragment.TheVariants as one

-- the query, whose marks take a column and a direction
abbrev pub sorted_query : List ℕ
sorted_query = codes "SELECT id, name FROM article ORDER BY ? ?"

-- the keyword of a direction
abbrev pub direction : Bool → List ℕ
direction descending = if descending then codes "DESC" else codes "ASC"

-- the fragments are a column with this name, and this keyword
abbrev pub AreOrder : List ℕ → List ℕ → List Fragment → Type 0
AreOrder column word (one.Identifier name ∷ one.Keyword keyword ∷ []) =
    (name.items ≡ column) × (keyword.word.items ≡ word)
AreOrder column word fragments = ⊥

-- what is given by position is a column with this name, and this keyword
abbrev pub IsOrder : List ℕ → List ℕ → GivenFragments → Type 0
IsOrder column word (positional fragments) = AreOrder column word fragments
IsOrder column word given = ⊥
