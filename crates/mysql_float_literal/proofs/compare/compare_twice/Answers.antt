use Rattle.std.proofs.Common.{◌≡◌, ◌+◌, ◌-◌, ◌*◌, ◌^◌, ◌∙◌}
use Rattle.std.specs.Ordering.{nat_cmp}
use Rattle.core.specs.Dec2flt.Limbs.{value_below}
use Rattle.mysql_float_literal.proofs.SizeLemmas.{without_tens}
use Rattle.mysql_float_literal.proofs.compare.compare_twice.Goals as goal

pub returns : goal.returns
returns c =
    let a = c.args in
    let s = c.significand_of-significand in
    let places = c.saturating_sub-places.ensures in
    let tens = c.saturating_sub-tens.ensures in
    let up : c.saturating_sub.result ≡ s.result.1 + 1 + (342 - a.power) - (1074 + (a.power - 342)) = c.saturating_sub.ensures ∙ (λ i. s.result.1 + 1 + places i - (1074 + tens i)) in
    let down : c.saturating_sub-2.result ≡ 1074 + (a.power - 342) - (s.result.1 + 1 + (342 - a.power)) = c.saturating_sub-2.ensures ∙ (λ i. 1074 + tens i - (s.result.1 + 1 + places i)) in
    let left : value_below c.product-double.result.limbs c.product-double.result.len ≡ s.result.0 * 5 ^ (342 - a.power) * 2 ^ (s.result.1 + 1 + (342 - a.power) - (1074 + (a.power - 342))) =
    c.product-double.ensures ∙ (λ i. s.result.0 * 5 ^ places i * 2 ^ up i) in
    let right : value_below c.product-decimal.result.limbs c.product-decimal.result.len ≡ a.middle * 5 ^ (a.power - 342) * 2 ^ (1074 + (a.power - 342) - (s.result.1 + 1 + (342 - a.power))) =
    c.product-decimal.ensures ∙ (λ i. a.middle * 5 ^ tens i * 2 ^ down i) in
    c.compare.ensures ∙ ((λ i. nat_cmp (left i) (right i)) ∙ without_tens a.bits s.result.0 s.result.1 a.power a.middle s.ensures)
