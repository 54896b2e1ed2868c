-- The rows of prices, with one price more.
use Rattle.std.proofs.Common.{◌≡◌, ◌+◌, ◌<◌, ◌++◌, ◌∷◌, [], ℕ, List, length, take, subst, sym, suc, get_or, arith, ◌∙◌, ap}
use Rattle.std.proofs.Math.Seq.{take-suc}
use Rattle.std.specs.Global.{Vec}
use Rattle.mysql_params.specs.declared.fragments.Item.{Item}
use Rattle.shop_example.specs.PriceRows.{ArePriceRows, IsPriceRow}
use Rattle.shop_example.specs.declared.price_rows.Price.{Price}

-- the rows of prices, and the row of a price after them
pub rows_and_row : (prices : List Price) (rows : List (Vec Item)) (price : Price) (row : Vec Item) →
    ArePriceRows prices rows → IsPriceRow price row.items →
    ArePriceRows (prices ++ price ∷ []) (rows ++ row ∷ [])
rows_and_row [] [] price row none one = (one, tt)
rows_and_row [] (first ∷ rows) price row none one = absurd none
rows_and_row (p ∷ prices) [] price row none one = absurd none
rows_and_row (p ∷ prices) (first ∷ rows) price row both one =
    (both.0, rows_and_row prices rows price row both.1 one)

-- the rows of the first prices, and the row of the next one
pub one_row_more : (prices : List Price) (i : ℕ) (price : Price) (rows : List (Vec Item))
    (row : Vec Item) → i < length prices → get_or prices i price ≡ price →
    ArePriceRows (take i prices) rows → IsPriceRow price row.items →
    ArePriceRows (take (i + 1) prices) (rows ++ row ∷ [])
one_row_more prices i price rows row inside is before one =
    let next : suc i ≡ i + 1 = omega arith in
    let taken : take (i + 1) prices ≡ take i prices ++ price ∷ [] =
    ap (λ n. take n prices) (sym next) ∙ (take-suc prices i price inside
    ∙ ap (λ last. take i prices ++ last ∷ []) is) in
    subst (λ front. ArePriceRows front (rows ++ row ∷ [])) (sym taken)
    (rows_and_row (take i prices) rows price row before one)
