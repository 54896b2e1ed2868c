use Rattle.std.proofs.Common.{ap, sym, ◌∙◌}
use Rattle.std.specs.Prelude.{is_some}
use Rattle.mysql_fragments.proofs.PlaceLemmas.{get-fragment_map}
use Rattle.mysql_params_core.proofs.MapLemmas.{is_some-copied}
use Rattle.mysql_flat_params.proofs.fragments_form.has_name.Goals as goal

pub returns : goal.returns
returns c =
    c.is_some.ensures ∙ (is_some-copied c.get.result ∙ ap is_some (c.get.ensures.value ∙ sym (get-fragment_map c.args.entries.now.entries c.args.name.now)))
