use Rattle.std.proofs.Common.{ap, sym, ◌∙◌}
use Rattle.std.specs.List.{each_same}
use Rattle.mysql_params_core.specs.Given.{given, named, positional}
use Rattle.mysql_params_core.proofs.MapLemmas.{value_map-clone}
use Rattle.mysql_params_core.proofs.params.Params.clone.Goals as goal

pub returns-in_ok-clone-in-Named-clause-equal : goal.returns-in_ok-clone-in-Named-clause-equal
returns-in_ok-clone-in-Named-clause-equal c =
    ap named (value_map-clone c.in-Named.entries.entries c.in_ok-clone-in-Named.field-0.entries c.in_ok-clone-in-Named.ensures.cases)
    ∙ ap given (sym c.in-Named.is)

pub returns-in_ok-clone-in-Positional-clause-equal :
    goal.returns-in_ok-clone-in-Positional-clause-equal
returns-in_ok-clone-in-Positional-clause-equal c =
    ap positional (each_same c.in-Positional.values.items c.in_ok-clone-in-Positional.field-0.items c.in_ok-clone-in-Positional.ensures.cases.0)
    ∙ ap given (sym c.in-Positional.is)
