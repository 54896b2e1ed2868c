use Rattle.mysql_params_core.specs.Given.{value_map}
use Rattle.mysql_params_core.specs.Names.{names_of}
use Rattle.mysql_params_core.proofs.MissingLemmas.{refused_as_missing}
use Rattle.mysql_params_core.proofs.params.lookup.named_values.Goals as goal

pub returns-in-Some : goal.returns-in-Some
returns-in-Some c =
    refused_as_missing (value_map c.args.entries.entries) (names_of c.args.names.now) c.in-Some.first c.in-Some.ensures
    _ c.reported_name.ensures _ c.missing_params_error.ensures
