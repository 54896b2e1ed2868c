use Rattle.std.proofs.Common.{◌+◌, ◌≤◌, length}
use Rattle.mysql_fragments.specs.GivenFragments.{given_fragments}
use Rattle.mysql_flat_params.proofs.FragmentsFormLemmas.{LeadsTo}
use Rattle.mysql_flat_params.proofs.fragments_form.form_fragments.Given as goal

abbrev pub invariant-loop-rest : goal.invariant-loop-rest
invariant-loop-rest l =
    LeadsTo l.form l.place (given_fragments l.fragments) l.rest.0.now × (l.place + length l.rest.0.now ≤ length l.form)

abbrev pub decreases-loop-rest : goal.decreases-loop-rest
decreases-loop-rest l = length l.rest.0.now
