use Rattle.std.proofs.Common.{◌≡◌, drop}
use Rattle.mysql_binding.specs.FirstCause.{first_float, first_float_from}
use Rattle.mysql_binding.proofs.binding.literals.first_float_in.Given as goal

abbrev pub invariant-loop-place : goal.invariant-loop-place
invariant-loop-place g l = first_float_from l.place (drop l.place (g.L.ValueList.values l.values)) ≡ first_float (g.L.ValueList.values l.values)
