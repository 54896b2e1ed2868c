use Rattle.mysql_value_core.proofs.LiteralLemmas.{is_none-literal_of, is_none-content_of}
use Rattle.mysql_value_core.proofs.laws.literals.floats_have_no_literal.Goals as goal

pub returns-clause-literal : goal.returns-clause-literal
returns-clause-literal c = is_none-literal_of

pub returns-clause-content : goal.returns-clause-content
returns-clause-content c = is_none-content_of
