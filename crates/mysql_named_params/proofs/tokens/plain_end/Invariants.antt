use Rattle.mysql_named_params.specs.PlainBytes.{AreAlwaysPlain}
use Rattle.mysql_named_params.proofs.tokens.plain_end.Given as goal

abbrev pub invariant-loop-at : goal.invariant-loop-at
invariant-loop-at l = AreAlwaysPlain l.text l.from l.at
