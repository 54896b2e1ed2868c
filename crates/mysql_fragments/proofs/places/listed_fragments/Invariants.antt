use Rattle.std.proofs.Common.{take}
use Rattle.mysql_params_core.specs.Referents.{referents}
use Rattle.mysql_fragments.specs.GivenFragments.{fragment_map}
use Rattle.mysql_fragments.proofs.PlaceLemmas.{AreFound}
use Rattle.mysql_fragments.proofs.places.listed_fragments.Given as goal

abbrev pub invariant-loop-name : goal.invariant-loop-name
invariant-loop-name l = AreFound (fragment_map l.entries.entries) (take l.name-index (referents l.names)) l.list.items
