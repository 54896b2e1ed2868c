use Rattle.std.proofs.Common.{◌≡◌, IfOk, subst, w64}
use Rattle.std.proofs.Math.Facts.{to_z-of_z}
use Rattle.shop_example.specs.BalanceQuery.{balance_text}
use Rattle.shop_example.proofs.balance_query.change_balance.Goals as goal

-- the number that was passed comes back
pub returns : goal.returns
returns c = record {
  text = subst (λ z. IfOk c.bind_named.result (λ text. text.items ≡ balance_text z c.args.id))
      (to_z-of_z {w = w64} {z = c.args.change} c.ranges.change) c.bind_named.ensures.text;
}
