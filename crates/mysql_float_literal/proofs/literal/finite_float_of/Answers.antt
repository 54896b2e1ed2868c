use Rattle.std.proofs.Common.{refl}
use Rattle.mysql_float_literal.proofs.BitLemmas.{float_nan_above, float_number_below}
use Rattle.mysql_float_literal.proofs.literal.finite_float_of.Goals as goal

pub returns-then-bits-gt2139095040-clause-none : goal.returns-then-bits-gt2139095040-clause-none
returns-then-bits-gt2139095040-clause-none c =
    let none = float_nan_above c.args.bits c.if-bits-gt2139095040.true in (λ e. none, λ e. refl)

pub float_from_bits-bits : goal.float_from_bits-bits
float_from_bits-bits c = float_number_below c.args.bits c.if-bits-gt2139095040.false
