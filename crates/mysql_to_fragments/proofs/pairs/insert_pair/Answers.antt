use Rattle.std.proofs.Common.{◌≡◌, false, sym, ◌∙◌}
use Rattle.std.specs.FinMap.{contains_key}
use Rattle.mysql_to_fragments.specs.NamedContents.{content_map}
use Rattle.mysql_to_fragments.proofs.pairs.insert_pair.Goals as goal

pub returns-clause-made : goal.returns-clause-made
returns-clause-made g c =
    let is_new : contains_key (content_map c.args.entries.now.entries) c.args.name.now ≡ false =
    sym c.has_name.ensures ∙ c.if-has_name.false in
    rw is_new (c.insert_new.ensures.made (g.A.ToFragment.said c.args.argument.now) c.to_fragment.ensures)
