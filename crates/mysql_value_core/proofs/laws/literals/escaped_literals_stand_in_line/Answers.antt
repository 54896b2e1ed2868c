use Rattle.std.proofs.Common.{false}
use Rattle.mysql_value_core.specs.Literal.{literal_of}
use Rattle.mysql_value_core.proofs.InLineLemmas.{escaped_literal_in_line, if_in_line}
use Rattle.mysql_value_core.proofs.laws.literals.escaped_literals_stand_in_line.Goals as goal

pub returns : goal.returns
returns c = record { in_line = λ value. if_in_line (literal_of false value) (escaped_literal_in_line value) }
