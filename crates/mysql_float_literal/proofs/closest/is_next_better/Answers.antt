use Rattle.std.proofs.Common.{inl}
use Rattle.mysql_float_literal.proofs.closest.is_next_better.Goals as goal

pub returns-else-reads-clause-this : goal.returns-else-reads-clause-this
returns-else-reads-clause-this c other = inl (c.reads.ensures.other other)
