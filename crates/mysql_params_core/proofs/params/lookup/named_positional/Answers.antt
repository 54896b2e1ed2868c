use Rattle.std.proofs.Common.{ap, sym, ◌∙◌}
use Rattle.std.specs.Prelude.{Err}
use Rattle.std.specs.Option.{option_map, ok_or}
use Rattle.mysql_params_core.specs.Given.{value_map, positional}
use Rattle.mysql_params_core.specs.Names.{names_of, first_missing}
use Rattle.mysql_params_core.proofs.MissingLemmas.{no_values, first_is_first_missing}
use Rattle.mysql_params_core.proofs.params.lookup.named_positional.Goals as goal

pub returns-in_ok-error-in-Some-clause-positional : goal.returns-in_ok-error-in-Some-clause-positional
returns-in_ok-error-in-Some-clause-positional c =
    let m = value_map c.args.entries.entries in
    let ns = c.args.names.now in
    ap (λ vs. ok_or (option_map positional vs) (first_missing m (names_of ns)))
    (no_values m (names_of ns) c.in-Some.first c.in-Some.ensures)
    ∙ ap (λ n. Err n) (sym (c.in_ok-error-in-Some.ensures ∙ c.as_slice.ensures.value
    ∙ first_is_first_missing m ns c.in-Some.first c.in-Some.ensures c.index-names-first.result c.index-names-first.is))
