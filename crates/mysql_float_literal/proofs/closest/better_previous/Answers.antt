use Rattle.std.proofs.Common.{◌≡◌, ◌+◌, ◌-◌, inl, subst, arith}
use Rattle.mysql_float_literal.specs.DigitSteps.{with_power, IsBetter}
use lib.Ieee.{binary64, of_bits}
use Rattle.mysql_float_literal.proofs.ClosestLemmas.{better_same}
use Rattle.mysql_float_literal.proofs.BesideLemmas.{closest_here, spare_finer}
use Rattle.mysql_float_literal.proofs.closest.better_previous.Goals.{then-not-reads-via-then-not-reads, then-not-reads-via-else-not-reads+then-is_next_closer}
use Rattle.mysql_float_literal.proofs.closest.better_previous.Goals as goal

pub returns-then-not-reads-clause-none : goal.returns-then-not-reads-clause-none
returns-then-not-reads-clause-none c _ =
    let a = c.args in
    let fine = c.finer-fine_power in
    let power = fine.result.0 in
    let digits = fine.result.1 in
    let back : digits - 1 + 1 ≡ digits = omega (arith, fine.ensures.fits.1) in
    let down : IsBetter (of_bits binary64 a.bits) (with_power a.power a.digits) (with_power power (digits - 1)) = elim c.then-not-reads.branch [
      | then-not-reads-via-then-not-reads w ↦ inl (c.reads.ensures.other w.if-not-reads.true)
      | then-not-reads-via-else-not-reads+then-is_next_closer w ↦
          better_same (of_bits binary64 a.bits) (with_power a.power a.digits) (with_power power digits) (with_power power (digits - 1)) fine.ensures.same
          (subst (λ n. IsBetter (of_bits binary64 a.bits) (with_power power n) (with_power power (digits - 1))) back (w.is_next_closer.ensures.next w.if-is_next_closer.true))
    ] in
    closest_here a.bits a.power a.digits power digits c.requires.reading c.requires.short fine.ensures.same (λ e. (fine.ensures.one e).1) (λ l. (fine.ensures.more l).1) down c.requires.better

pub returns-clause-short : goal.returns-clause-short
returns-clause-short c =
    let a = c.args in
    let fine = c.finer-fine_power in
    spare_finer a.bits a.power a.digits fine.result.0 fine.result.1 c.requires.reading c.requires.short fine.ensures.one fine.ensures.more

pub returns-clause-better : goal.returns-clause-better
returns-clause-better c = c.is_next_closer.ensures.this c.if-is_next_closer.false
