use Rattle.std.proofs.Common.{◌≡◌, ◌<◌, length, get_or, refl, ◌∙◌, arith, rules}
use lib.Seq.{get_or-set_other}
use lib.Bits.{and_mask}
use Rattle.core.specs.Dec2flt.Limbs.{limb_weight, value_below}
use Rattle.core.proofs.dec2flt.LimbsLemmas.{value_below-zero, value_below-suc, value_below-set, limb_weight-zero, limb_weight-suc, mul_add_step}
use Rattle.mysql_float_literal.proofs.wide.multiply.Goals as goal

pub loop-i-init : goal.loop-i-init
loop-i-init c = (rw (value_below-zero, limb_weight-zero) (omega arith), λ k h. refl)

pub loop-i-preserved : goal.loop-i-preserved
loop-i-preserved c =
    let l = c.loop-i in
    let within : l.i < length l.limbs = search rules in
    let same = l.invariant.1 l.i (omega arith) in
    let step = mul_add_step (value_below l.limbs l.i) (value_below c.args.limbs.now l.i) (get_or c.args.limbs.now l.i 0) c.args.by 0 l.carry (limb_weight l.i) (omega (arith, l.invariant.0)) in (
      rw (and_mask _ 64, value_below-set l.limbs l.i _ within, value_below-suc c.args.limbs.now l.i, limb_weight-suc, ← same) (rw same (omega (arith, step))),
      λ k h. get_or-set_other l.limbs l.i k _ 0 (λ e. omega arith) ∙ l.invariant.1 k (omega arith),
    )

pub returns-clause-value : goal.returns-clause-value
returns-clause-value c =
    let l = c.loop-i in
    let end : l.i ≡ c.args.len = omega arith in
    let within : c.args.len < length l.limbs = search rules in
    value_below-set l.limbs c.args.len l.carry within ∙ (rw end at l.invariant.0)
