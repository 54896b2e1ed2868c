use Rattle.std.proofs.Common.{refl}
use Rattle.mysql_float_literal.proofs.QuickLemmas.{tenth_told}
use Rattle.mysql_float_literal.proofs.quick.with_tenth.Goals as goal

pub returns-clause-shortest : goal.returns-clause-shortest
returns-clause-shortest c = (tenth_told c.args.bits c.args.scaled c.args.up_gap c.requires.told c.requires.wide _ c.requires.low c.requires.high refl c.if-rest-gt18446744073709551360.false).shortest

pub returns-clause-closest : goal.returns-clause-closest
returns-clause-closest c = (tenth_told c.args.bits c.args.scaled c.args.up_gap c.requires.told c.requires.wide _ c.requires.low c.requires.high refl c.if-rest-gt18446744073709551360.false).closest

pub returns-clause-trimmed : goal.returns-clause-trimmed
returns-clause-trimmed c = (tenth_told c.args.bits c.args.scaled c.args.up_gap c.requires.told c.requires.wide _ c.requires.low c.requires.high refl c.if-rest-gt18446744073709551360.false).trimmed
