use Rattle.std.proofs.Common.{sym, subst}
use Rattle.std.specs.Prelude.{Option, IfSome}
use Rattle.mysql_flat_params.specs.RowNames.{AreFoundNames}
use Rattle.mysql_flat_params.specs.declared.row_names.FoundNames.{FoundNames}
use Rattle.mysql_flat_params.proofs.RowNamesLemmas.{found_kept}
use Rattle.mysql_flat_params.proofs.row_names.RowMemory.names_of.Goals as goal

pub returns-clause-found : goal.returns-clause-found
returns-clause-found c =
    subst (λ (f : Option FoundNames). IfSome f (AreFoundNames c.args.surveyed.now.reading c.args.surveyed.now.query.now)) (sym c.new_names-2.ensures.kept)
    (found_kept c.args.surveyed.now.reading c.args.surveyed.now.query.now c.in-Some.found c.read_values.new.self
    (subst (λ (f : Option FoundNames). IfSome f (AreFoundNames c.args.surveyed.now.reading c.args.surveyed.now.query.now)) (sym c.in-Some.ensures.value) c.requires.found)
    c.read_values.ensures.names c.read_values.ensures.places)
