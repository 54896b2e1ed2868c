-- The order that the derive writes is the defined one, so the laws of the first hold of the second.
use Rattle.std.proofs.Common.{◌≡◌, ◌∙◌, ◌↔◌, IsTrue, ap, sym, subst, rules}
use Rattle.std.specs.Cmp.{IsTotalOrder, Equal-is}
use Rattle.std.specs.Ordering.{is_eq}
use Rattle.std.specs.declared.cmp.Ordering.TheVariants.{Equal}
use Rattle.mysql_value_core.specs.declared.value.Value.{Value}
use Rattle.mysql_value_core.specs.contracts.value.ValueOrd.TheImpl.{cmp-value}
use Rattle.mysql_value_core.specs.contracts.value.ValueOrd.TheImpl.Laws.{total-law, matches_eq-law}
use Rattle.mysql_value_core.specs.contracts.value.ValuePartialEq.TheImpl.{eq-value}
use Rattle.mysql_value_core.specs.ValueOrder.{value_cmp}

-- the comparison that the derive writes is `value_cmp`
cmp-is-value_cmp : (v w : Value) → cmp-value.it v w ≡ value_cmp v w
cmp-is-value_cmp v w = search rules

-- the defined order is total
pub value_cmp-total : IsTotalOrder value_cmp
value_cmp-total = subst IsTotalOrder (λ i v w. cmp-is-value_cmp v w i) total-law

-- the derived equality is that of the values
eq-decides : (v w : Value) → IsTrue (eq-value.it v w) ↔ (v ≡ w)
eq-decides v w = search rules

-- it is true if the order doesn't distinguish the two values
eq-by-value_cmp : (v w : Value) → eq-value.it v w ≡ is_eq (value_cmp v w)
eq-by-value_cmp v w = matches_eq-law v w ∙ ap is_eq (cmp-is-value_cmp v w)

-- the defined order distinguishes all different values
pub value_cmp-Equal : (v w : Value) → (value_cmp v w ≡ Equal) ↔ (v ≡ w)
value_cmp-Equal v w = (
  λ tied. (eq-decides v w).0 (eq-by-value_cmp v w ∙ ap is_eq tied),
  λ same. (Equal-is (value_cmp v w)).0 (sym (eq-by-value_cmp v w) ∙ (eq-decides v w).1 same),
)
