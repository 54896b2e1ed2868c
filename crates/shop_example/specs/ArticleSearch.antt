-- The search for articles, and what is given to it.
use Rattle.std.specs.Prelude.{ℕ, List, [], ◌∷◌, codes, map, Ok}
use Rattle.mysql_values.specs.declared.value.Value.TheVariants.{UInt}
use Rattle.mysql_params.specs.FragmentContent.{value_item, list, number, identifier, keyword}
use Rattle.mysql_params.specs.Arguments.{SaidFragment, all_said, made_of}
use Rattle.shop_example.specs.declared.article_search.Direction.{Direction}
use Rattle.shop_example.specs.declared.article_search.Direction.TheVariants.{Ascending, Descending}

-- the query, whose names take a list, an exact number, a column and a direction
abbrev pub search_query : List ℕ
search_query =
    codes "SELECT name FROM article WHERE id IN (:ids) AND price <= :most ORDER BY :column :way"

-- the keyword of a direction
abbrev pub way : Direction → List ℕ
way Ascending = codes "ASC"
way Descending = codes "DESC"

-- the names of the query, and what is given to each
abbrev pub search_pairs : List ℕ → List ℕ → List ℕ → Direction → List (List ℕ × SaidFragment)
search_pairs ids most column direction =
    (codes "ids", made_of list (all_said (map (λ id. Ok (value_item (UInt id))) ids)))
    ∷ (codes "most", Ok (number most)) ∷ (codes "column", Ok (identifier column))
    ∷ (codes "way", Ok (keyword (way direction))) ∷ []
