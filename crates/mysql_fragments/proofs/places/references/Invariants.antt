use Rattle.std.proofs.Common.{◌≡◌, take}
use Rattle.mysql_params_core.specs.Referents.{referents}
use Rattle.mysql_fragments.proofs.places.references.Given as goal

abbrev pub invariant-loop-fragment : goal.invariant-loop-fragment
invariant-loop-fragment l = referents l.list.items ≡ take l.fragment-index l.fragments
