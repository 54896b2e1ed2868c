use Rattle.std.proofs.Common.{◌+◌, ◌≤◌, length}
use Rattle.mysql_fragments.specs.GivenFragments.{GivenFragments}
use Rattle.mysql_flat_params.specs.FormInPlace.{IsGivenAs}
use Rattle.mysql_flat_params.specs.FormKinds.{FormKinds}
use Rattle.mysql_flat_params.specs.KindsInPlace.{AreKeptKinds}
use Rattle.mysql_flat_params.proofs.FormKindsLemmas.{KnownLeadsTo}
use Rattle.mysql_flat_params.proofs.FragmentsFormLemmas.{LeadsTo}
use Rattle.mysql_flat_params.proofs.fragments_in_place.form_in_place.Given as goal

abbrev pub invariant-loop-rest : goal.invariant-loop-rest
invariant-loop-rest l =
    ((given : GivenFragments) × (kinds : FormKinds) × IsGivenAs l.kept given × AreKeptKinds l.kinds kinds
    × LeadsTo l.form l.place given l.rest.0.now × KnownLeadsTo l.form l.place given kinds l.rest.0.now)
    × (length l.kinds.by_place.items ≤ l.place) × (l.place + length l.rest.0.now ≤ length l.form)

abbrev pub decreases-loop-rest : goal.decreases-loop-rest
decreases-loop-rest l = length l.rest.0.now
