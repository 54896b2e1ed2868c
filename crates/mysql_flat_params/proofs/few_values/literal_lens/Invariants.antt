use Rattle.mysql_flat_params.proofs.FewValuesLemmas.{LensSoFar}
use Rattle.mysql_flat_params.proofs.few_values.literal_lens.Given as goal

abbrev pub invariant-loop-i : goal.invariant-loop-i
invariant-loop-i g l = LensSoFar (g.F.LiteralForm.literal l.literals) l.values l.lens l.piece_bytes l.room_len l.i l.at
