use Rattle.mysql_flat_params.proofs.RowNamesLemmas.{ReadSoFar}
use Rattle.mysql_flat_params.proofs.row_names.read_under.Given as goal

abbrev pub invariant-loop-i : goal.invariant-loop-i
invariant-loop-i l = ReadSoFar l.form l.fn.pairs l.pairs l.i l.rest.0.now
