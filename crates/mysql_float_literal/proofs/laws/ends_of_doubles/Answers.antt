use Rattle.mysql_float_literal.proofs.DoubleEndLemmas as lemmas
use Rattle.mysql_float_literal.proofs.laws.ends_of_doubles.Goals as goal

pub returns : goal.returns
returns c = record { begins = λ text h. lemmas.double_begins h; ends = λ text h. lemmas.double_ends h }
