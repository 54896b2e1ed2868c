use Rattle.std.proofs.Common.{◌≡◌, false, ap, sym, ◌∙◌, Ok}
use Rattle.std.specs.FinMap.{contains_key, insert}
use Rattle.mysql_fragments.specs.GivenFragments.{fragment_map}
use Rattle.mysql_fragments.proofs.FragmentMapLemmas.{fragment_map-insert}
use Rattle.mysql_bind_core.proofs.assignment.insert_fragment.Goals as goal

pub returns-clause-made : goal.returns-clause-made
returns-clause-made c =
    let is_new : contains_key (fragment_map c.args.entries.now.entries) c.args.name.now ≡ false =
    sym c.has_name.ensures ∙ c.if-has_name.false in
    rw is_new (ap (λ name. Ok (insert (fragment_map c.args.entries.now.entries) name c.args.fragment)) (sym c.in_ok-copy.ensures.items)
    ∙ ap (λ m. Ok m) (sym (fragment_map-insert c.args.entries.now.entries c.insert.new.self.entries c.in_ok-copy.copy c.args.fragment
    c.in_ok-insert.ensures.updates.3 c.in_ok-insert.ensures.updates.1)))
