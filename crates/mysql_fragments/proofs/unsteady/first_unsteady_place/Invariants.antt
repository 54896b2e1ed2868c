use Rattle.std.proofs.Common.{◌≡◌, drop}
use Rattle.mysql_params_core.specs.Referents.{referents}
use Rattle.mysql_fragments.specs.SteadyFragments.{first_unsteady_from}
use Rattle.mysql_fragments.proofs.unsteady.first_unsteady_place.Given as goal

abbrev pub invariant-loop-place : goal.invariant-loop-place
invariant-loop-place l = first_unsteady_from l.place (referents (drop l.place l.fragments)) ≡ first_unsteady_from 0 (referents l.fragments)
