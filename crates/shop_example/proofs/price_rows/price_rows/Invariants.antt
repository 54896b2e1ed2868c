use Rattle.std.proofs.Common.{take}
use Rattle.shop_example.specs.PriceRows.{ArePriceRows}
use Rattle.shop_example.proofs.price_rows.price_rows.Given as goal

-- the rows are those of the prices that were gone through
abbrev pub invariant-loop-price : goal.invariant-loop-price
invariant-loop-price l = ArePriceRows (take l.price-index l.prices) l.rows.items
