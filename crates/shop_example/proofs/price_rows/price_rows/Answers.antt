use Rattle.std.proofs.Common.{◌≡◌, ◌++◌, ◌+◌, ◌∷◌, [], rules, subst, sym, take}
use Rattle.shop_example.specs.PriceRows.{ArePriceRows}
use Rattle.shop_example.proofs.PriceRowLemmas.{one_row_more}
use Rattle.shop_example.proofs.price_rows.price_rows.Goals as goal

pub loop-price-preserved : goal.loop-price-preserved
loop-price-preserved c =
    let pushed : c.push.new.self.items ≡ c.loop-price.rows.items ++ c.in_ok-price_row.field-0 ∷ [] = search rules in
    subst (λ rows. ArePriceRows (take (c.loop-price.price-index + 1) c.args.prices.now) rows) (sym pushed)
    (one_row_more c.args.prices.now c.loop-price.price-index c.price-item.result c.loop-price.rows.items c.in_ok-price_row.field-0
    c.loop-price-test.true (sym c.price-item.is) c.loop-price.invariant c.in_ok-price_row.ensures)
