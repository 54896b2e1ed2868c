use Rattle.mysql_params_core.specs.Referents.{referents}
use Rattle.mysql_fragments.specs.GivenFragments.{fragment_map}
use Rattle.mysql_fragments.proofs.PlaceLemmas.{listed_told}
use Rattle.mysql_fragments.proofs.places.fragments_of_names.Goals as goal

pub returns-clause-refused : goal.returns-clause-refused
returns-clause-refused c =
    listed_told _ _ (fragment_map c.args.entries.now.entries) (referents c.in_ok-names.names.items) c.in_ok-names.ensures.names c.listed_fragments.result
    (rw c.as_slice.ensures.value at c.listed_fragments.ensures.refused)
