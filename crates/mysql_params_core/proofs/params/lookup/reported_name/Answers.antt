use Rattle.std.proofs.Common.{ap, ◌∙◌}
use Rattle.mysql_params_core.proofs.MissingLemmas.{reported_first, reported_last}
use Rattle.mysql_params_core.proofs.params.lookup.reported_name.Goals as goal

pub returns-then-has_any : goal.returns-then-has_any
returns-then-has_any g c =
    c.name_bytes.ensures ∙ ap g.N.ToName.name c.index-names-first.is
    ∙ reported_first g.N.ToName.name (g.M.NamedValues.values c.args.entries.now) c.args.names.now c.args.first c.requires
    _ c.index-names-first.result c.has_any.ensures c.if-has_any.true

pub returns-else-has_any : goal.returns-else-has_any
returns-else-has_any g c =
    c.name_bytes-else-has_any.ensures ∙ ap g.N.ToName.name c.index-names-names.is
    ∙ reported_last g.N.ToName.name (g.M.NamedValues.values c.args.entries.now) c.args.names.now c.args.first c.requires
    _ c.index-names-names.result c.has_any.ensures c.if-has_any.false
