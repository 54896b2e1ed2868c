use Rattle.std.proofs.Common.{[], ◌∷◌}
use Rattle.mysql_named_params.specs.Bytes.{asterisk, slash}
use Rattle.mysql_named_params.proofs.JumpLemmas.{IsNotReached}
use Rattle.mysql_named_params.proofs.ends.len_up_to_close.Given as goal

abbrev pub invariant-loop-at : goal.invariant-loop-at
invariant-loop-at l = IsNotReached (asterisk ∷ slash ∷ []) l.text l.at
