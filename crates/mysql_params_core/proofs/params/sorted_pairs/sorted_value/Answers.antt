use Rattle.std.proofs.Common.{ap, sym, ◌∙◌}
use Rattle.std.specs.Option.{option_map}
use Rattle.mysql_values.specs.BorrowedValue.{owned}
use Rattle.mysql_params_core.proofs.SortedPairLemmas.{get-sorted_pairs}
use Rattle.mysql_params_core.proofs.params.sorted_pairs.sorted_value.Goals as goal

pub returns-in-Some : goal.returns-in-Some
returns-in-Some c =
    ap (option_map owned) c.in-Some.ensures.value
    ∙ sym (get-sorted_pairs c.args.entries.now.entries c.args.name.now)

pub returns-in-None : goal.returns-in-None
returns-in-None c =
    ap (option_map owned) c.in-None.ensures.value
    ∙ sym (get-sorted_pairs c.args.entries.now.entries c.args.name.now)
