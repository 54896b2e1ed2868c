use Rattle.mysql_named_params.proofs.LoweredLemmas.{lowered_len, lowered_marks, lowered_tokens}
use Rattle.mysql_named_params.proofs.laws.lowered_names.Goals as goal

pub returns : goal.returns
returns c = record { tokens = lowered_tokens; marks = lowered_marks; len = lowered_len }
