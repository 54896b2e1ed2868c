use Rattle.mysql_named_params.proofs.ReparsedLemmas.{IsTokens-with_marks}
use Rattle.mysql_named_params.specs.Reading.{grammar_reading}
use Rattle.mysql_binding.proofs.BoundAgainLemmas.{by_position_is_the_same}
use Rattle.mysql_binding.proofs.laws.by_position_is_the_same.Goals as goal

pub returns-clause-tokens : goal.returns-clause-tokens
returns-clause-tokens c = IsTokens-with_marks

pub returns-clause-same : goal.returns-clause-same
returns-clause-same c mode = by_position_is_the_same (grammar_reading mode)
