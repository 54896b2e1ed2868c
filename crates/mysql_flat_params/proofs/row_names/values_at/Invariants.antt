use Rattle.std.proofs.Common.{take}
use Rattle.mysql_flat_params.specs.RowNames.{AreValuesAt}
use Rattle.mysql_flat_params.proofs.row_names.values_at.Given as goal

abbrev pub invariant-loop-place : goal.invariant-loop-place
invariant-loop-place l = AreValuesAt l.pairs (take l.place-index l.places) l.values.items
