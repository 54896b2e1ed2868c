use Rattle.std.proofs.Common.{◌≡◌, ℕ, ◌+◌, ◌-◌, get_or, inl, inr, subst, sym, ap, ◌∙◌, arith, Equal}
use Rattle.core.specs.Cmp.{nat_cmp_is}
use Rattle.mysql_float_literal.proofs.DigitLemmas.{order}
use Rattle.mysql_float_literal.proofs.WideLemmas.{AgreeBetween, limb_decides, all_agree}
use Rattle.mysql_float_literal.proofs.wide.order_of.Goals as goal

pub loop-i-init : goal.loop-i-init
loop-i-init c = (omega arith, λ k h l. absurd (omega (arith, h, l)))

pub returns-then-a-i : goal.returns-then-a-i
returns-then-a-i c =
    let a = c.args.a.now in
    let b = c.args.b.now in
    let i : ℕ = c.loop-i.i - 1 in
    let e : i + 1 ≡ c.loop-i.i = omega arith in
    let agree : AgreeBetween a b (i + 1) c.args.len = subst (λ n. AgreeBetween a b n c.args.len) (sym e) c.loop-i.invariant.1 in
    c.cmp.ensures ∙ limb_decides a b i c.args.len (λ k. (c.type_inv.a k).fits) (λ k. (c.type_inv.b k).fits) (omega arith) agree (λ same. omega (arith, same))

pub loop-i-preserved : goal.loop-i-preserved
loop-i-preserved c =
    let a = c.args.a.now in
    let b = c.args.b.now in
    let i : ℕ = c.loop-i.i - 1 in
    let here : get_or a i 0 ≡ get_or b i 0 = omega arith in (
      omega arith,
      λ k h l. elim (order i k) [
        | inl m ↦ c.loop-i.invariant.1 k (omega arith) l
        | inr m ↦ let e : k ≡ i = omega (arith, h, m) in ap (λ n. get_or a n 0) e ∙ (here ∙ ap (λ n. get_or b n 0) (sym e))
      ],
    )

pub returns : goal.returns
returns c =
    let e : c.loop-i.i ≡ 0 = omega arith in
    let agree : AgreeBetween c.args.a.now c.args.b.now 0 c.args.len = subst (λ n. AgreeBetween c.args.a.now c.args.b.now n c.args.len) e c.loop-i.invariant.1 in
    nat_cmp_is _ _ Equal (all_agree c.args.a.now c.args.b.now c.args.len agree)
