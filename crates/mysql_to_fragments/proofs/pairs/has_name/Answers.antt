use Rattle.std.proofs.Common.{ap, sym, ◌∙◌}
use Rattle.std.specs.Prelude.{is_some}
use Rattle.std.specs.Map.{lookup}
use Rattle.mysql_params_core.proofs.EqualityLemmas.{has_bytes}
use Rattle.mysql_to_fragments.specs.FragmentContent.{content_of}
use Rattle.mysql_to_fragments.proofs.ContentMapLemmas.{get-content_map, is_some-mapped}
use Rattle.mysql_params_core.proofs.MapLemmas.{is_some-copied}
use Rattle.mysql_to_fragments.proofs.pairs.has_name.Goals as goal

pub returns : goal.returns
returns c =
    c.is_some.ensures ∙ (is_some-copied c.get.result ∙ ap is_some c.get.ensures.value
    ∙ sym (is_some-mapped content_of (lookup (has_bytes c.args.name.now) c.args.entries.now.entries))
    ∙ ap is_some (sym (get-content_map c.args.entries.now.entries c.args.name.now)))
