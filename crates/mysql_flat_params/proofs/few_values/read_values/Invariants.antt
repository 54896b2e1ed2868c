use Rattle.mysql_flat_params.proofs.FewValuesLemmas.{ReadByPosition}
use Rattle.mysql_flat_params.proofs.few_values.read_values.Given as goal

abbrev pub invariant-loop-i : goal.invariant-loop-i
invariant-loop-i l = ReadByPosition l.form l.values l.i l.rest.0.now
