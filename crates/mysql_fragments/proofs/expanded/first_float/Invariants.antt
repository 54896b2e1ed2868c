use Rattle.std.proofs.Common.{◌≡◌, drop}
use Rattle.mysql_params_core.specs.Referents.{referents}
use Rattle.mysql_fragments.specs.FragmentErrors.{first_float_from}
use Rattle.mysql_fragments.proofs.expanded.first_float.Given as goal

abbrev pub invariant-loop-place : goal.invariant-loop-place
invariant-loop-place l = first_float_from l.place (referents (drop l.place l.fragments)) ≡ first_float_from 0 (referents l.fragments)
