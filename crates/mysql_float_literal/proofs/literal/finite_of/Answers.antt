use Rattle.std.proofs.Common.{refl}
use Rattle.mysql_float_literal.proofs.BitLemmas.{nan_above, number_below}
use Rattle.mysql_float_literal.proofs.literal.finite_of.Goals as goal

pub returns-then-bits-gt9218868437227405312-clause-none :
    goal.returns-then-bits-gt9218868437227405312-clause-none
returns-then-bits-gt9218868437227405312-clause-none c =
    let none = nan_above c.args.bits c.if-bits-gt9218868437227405312.true in (λ e. none, λ e. refl)

pub float_from_bits-bits : goal.float_from_bits-bits
float_from_bits-bits c = number_below c.args.bits c.if-bits-gt9218868437227405312.false
