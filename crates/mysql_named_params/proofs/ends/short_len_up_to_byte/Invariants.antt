use Rattle.std.proofs.Common.{[], ◌∷◌}
use Rattle.mysql_named_params.proofs.JumpLemmas.{IsNotReached}
use Rattle.mysql_named_params.proofs.ends.short_len_up_to_byte.Given as goal

abbrev pub invariant-loop-at : goal.invariant-loop-at
invariant-loop-at l = IsNotReached (l.byte ∷ []) l.text l.at
