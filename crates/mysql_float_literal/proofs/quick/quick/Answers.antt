use Rattle.std.proofs.Common.{◌≡◌, ◌-◌, ◌*◌, ◌^◌, ◌<◌, sym, subst, arith}
use Rattle.mysql_float_literal.specs.DigitSteps.{IsSignificandOf, IsTold}
use Rattle.mysql_float_literal.proofs.ToldLemmas.{told_within, told_at_edge}
use Rattle.mysql_float_literal.proofs.quick.quick.Goals.{then-is_edge, else-is_edge, then-is_edge-2, else-is_edge-2}
use Rattle.mysql_float_literal.proofs.quick.quick.Goals as goal

pub told-requires-clause-told : goal.told-requires-clause-told
told-requires-clause-told c =
    let bits = c.args.bits in
    let found = c.significand_of-significand in
    let k = found.result.1 in
    let some : 0 < k = omega (arith, c.if-exponent-eq0.false) in
    elim c.if-is_edge.branch [
      | then-is_edge w ↦ elim c.if-is_edge-2.branch [
        | then-is_edge-2 v ↦
            let h : IsSignificandOf bits (2 ^ 52) k = subst (λ m. IsSignificandOf bits m k) w.if-is_edge.true found.ensures in
            let twice : 2 * found.result.0 ≡ 2 ^ 53 = omega (arith, w.if-is_edge.true) in
            subst (λ g. IsTold bits c.if-is_edge.scaled g) (sym v.up_gap-is) (subst (λ s. IsTold bits s (2 * s.half_gap)) (sym w.scaled-is)
            (told_at_edge bits k w.scale-scaled.result c.requires h some (omega arith) (subst (λ m. Rattle.mysql_float_literal.specs.DigitSteps.IsScaledDouble m (k - 1) w.scale-scaled.result) twice w.scale-scaled.ensures)))
        | else-is_edge-2 v ↦ absurd (v.if-is_edge-2.false w.if-is_edge.true)
      ]
      | else-is_edge w ↦ elim c.if-is_edge-2.branch [
        | then-is_edge-2 v ↦ absurd (w.if-is_edge.false v.if-is_edge-2.true)
        | else-is_edge-2 v ↦
            subst (λ g. IsTold bits c.if-is_edge.scaled g) (sym v.up_gap-is) (subst (λ s. IsTold bits s s.half_gap) (sym w.scaled-is)
            (told_within bits found.result.0 k w.scale-scaled-else-is_edge.result c.requires found.ensures (omega (arith, found.ensures.normal some, w.if-is_edge.false)) (omega arith) w.scale-scaled-else-is_edge.ensures))
      ]
    ]
