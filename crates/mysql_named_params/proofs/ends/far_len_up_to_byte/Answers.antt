use Rattle.mysql_named_params.proofs.JumpLemmas.{byte_found, byte_missing}
use Rattle.mysql_named_params.proofs.ends.far_len_up_to_byte.Goals as goal

pub returns-in-Some-clause-up_to : goal.returns-in-Some-clause-up_to
returns-in-Some-clause-up_to c = byte_found _ _ _ c.in-Some.ensures

pub returns-in-None-clause-up_to : goal.returns-in-None-clause-up_to
returns-in-None-clause-up_to c = byte_missing _ _ c.in-None.ensures
