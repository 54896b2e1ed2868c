-- The query for articles by their numbers, and what is given to it.
use Rattle.std.specs.Prelude.{◌≡◌, ℕ, List, [], ◌∷◌, codes}
use Rattle.mysql_values.specs.declared.value.Value.TheVariants.{UInt}
use Rattle.mysql_params.specs.GivenFragments.{GivenFragments, positional}
use Rattle.mysql_params.specs.declared.fragments.Item.{Item}
use Rattle.mysql_params.specs.declared.fragments.Item.TheVariants as item
use Rattle.mysql_params.specs.declared.fragments.Fragment.TheVariants as one

-- the query, whose mark a list takes
abbrev pub among_query : List ℕ
among_query = codes "SELECT name FROM article WHERE id IN (?)"

-- a number as an item of a list
abbrev pub number_item : ℕ → Item
number_item id = item.Value (UInt id)

-- what is given by position is one list, of these items
abbrev pub IsListOf : List Item → GivenFragments → Type 0
IsListOf items (positional (one.List list ∷ [])) = list.items ≡ items
IsListOf items given = ⊥
