use Rattle.std.proofs.Common.{ap, ◌∙◌}
use Rattle.std.specs.FinMap.{insert}
use Rattle.mysql_fragments.specs.GivenFragments.{fragment_map}
use Rattle.mysql_fragments.proofs.FragmentMapLemmas.{fragment_map-insert}
use Rattle.mysql_flat_params.proofs.fragments_form.insert_named.Goals as goal

pub returns-clause-inserted : goal.returns-clause-inserted
returns-clause-inserted c =
    fragment_map-insert c.args.entries.now.entries c.insert.new.self.entries c.in_ok-name.name c.args.fragment
    c.in_ok-insert.ensures.updates.3 c.in_ok-insert.ensures.updates.1
    ∙ ap (λ name. insert (fragment_map c.args.entries.now.entries) name c.args.fragment) c.in_ok-name.ensures.items
