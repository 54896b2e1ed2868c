use Rattle.std.proofs.Common.{◌≡◌, ◌+◌, ◌*◌, ◌/◌, subst, arith}
use Rattle.mysql_float_literal.specs.DigitSteps.{IsReadAs}
use Rattle.mysql_float_literal.proofs.ReadsLemmas.{not_zero}
use Rattle.mysql_float_literal.proofs.shortest.shorter.Goals.{else-front-gt0-via-then-front-gt0+else-reads, else-front-gt0-via-else-front-gt0}
use Rattle.mysql_float_literal.proofs.shortest.shorter.Goals as goal

pub returns-else-reads-2-clause-none : goal.returns-else-reads-2-clause-none
returns-else-reads-2-clause-none c _ =
    let a = c.args in
    let low : IsReadAs a.bits a.power (10 * (a.digits / 10)) → ⊥ = elim c.else-front-gt0.branch [
      | else-front-gt0-via-then-front-gt0+else-reads w ↦ w.reads.ensures.other w.if-reads.false
      | else-front-gt0-via-else-front-gt0 w ↦ (λ read. not_zero a.bits a.power c.requires.finite
          (subst (IsReadAs a.bits a.power) (let none = w.if-front-gt0.false in omega arith) read))
    ] in
    let next : 10 * (a.digits / 10 + 1) ≡ 10 * (a.digits / 10) + 10 = omega arith in
    (low, λ read. c.reads-else-front-gt0.ensures.other c.if-reads-2.false (subst (IsReadAs a.bits a.power) next read))
