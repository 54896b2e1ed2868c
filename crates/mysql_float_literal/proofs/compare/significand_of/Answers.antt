use Rattle.mysql_float_literal.proofs.SizeLemmas.{small_significand, large_significand}
use Rattle.mysql_float_literal.proofs.compare.significand_of.Goals as goal

pub returns-then-bits-lt4503599627370496 : goal.returns-then-bits-lt4503599627370496
returns-then-bits-lt4503599627370496 c = small_significand c.args.bits c.if-bits-lt4503599627370496.true

pub returns-else-bits-lt4503599627370496 : goal.returns-else-bits-lt4503599627370496
returns-else-bits-lt4503599627370496 c = large_significand c.args.bits c.if-bits-lt4503599627370496.false c.requires
