use Rattle.std.proofs.Common.{arith}
use Rattle.mysql_named_params.proofs.JumpLemmas.{word_found, word_missing}
use Rattle.mysql_named_params.proofs.ends.far_len_up_to_close.Goals as goal

pub returns-in-Some-clause-up_to : goal.returns-in-Some-clause-up_to
returns-in-Some-clause-up_to c = word_found _ _ _ (omega arith) c.in-Some.ensures

pub returns-in-None-clause-up_to : goal.returns-in-None-clause-up_to
returns-in-None-clause-up_to c = word_missing _ _ (omega arith) c.in-None.ensures
