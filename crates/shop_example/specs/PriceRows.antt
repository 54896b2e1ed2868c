-- The statement that inserts prices, and what is given to it.
use Rattle.std.specs.Prelude.{◌≡◌, ℕ, List, [], ◌∷◌, codes, string_bytes, ⊤}
use Rattle.std.specs.Global.{Vec}
use Rattle.mysql_values.specs.declared.value.Value.TheVariants.{UInt}
use Rattle.mysql_params.specs.GivenFragments.{GivenFragments, positional}
use Rattle.mysql_params.specs.declared.fragments.Item.{Item}
use Rattle.mysql_params.specs.declared.fragments.Item.TheVariants as item
use Rattle.mysql_params.specs.declared.fragments.Fragment.TheVariants as one
use Rattle.shop_example.specs.declared.price_rows.Price.{Price}

-- the statement, whose mark rows take
abbrev pub prices_query : List ℕ
prices_query = codes "INSERT INTO price (article, amount) VALUES ?"

-- the row has the number of the article, and then the amount as an exact number
abbrev pub IsPriceRow : Price → List Item → Type 0
IsPriceRow price (item.Value value ∷ item.Decimal amount ∷ []) =
    (value ≡ UInt price.article) × (amount.items ≡ string_bytes price.amount)
IsPriceRow price row = ⊥

-- the rows are those of the prices, in order
abbrev pub ArePriceRows : List Price → List (Vec Item) → Type 0
ArePriceRows [] [] = ⊤
ArePriceRows [] (row ∷ rows) = ⊥
ArePriceRows (price ∷ prices) [] = ⊥
ArePriceRows (price ∷ prices) (row ∷ rows) =
    IsPriceRow price row.items × ArePriceRows prices rows

-- what is given by position is the rows of these prices
abbrev pub AreGivenRows : List Price → GivenFragments → Type 0
AreGivenRows prices (positional (one.Rows rows ∷ [])) = ArePriceRows prices rows.items
AreGivenRows prices given = ⊥
