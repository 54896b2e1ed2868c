use Rattle.std.proofs.Common.{drop}
use Rattle.mysql_params_core.specs.Referents.{referents}
use Rattle.mysql_bind_core.proofs.CountLemmas.{NamesFit}
use Rattle.mysql_bind_core.proofs.matched.name_count.Given as goal

-- the names that were read fit
abbrev pub invariant-loop-i : goal.invariant-loop-i
invariant-loop-i l = NamesFit (drop l.i (referents l.names)) → NamesFit (referents l.names)
