use Rattle.std.proofs.Common.{◌≡◌, false, ap, sym, subst, ◌∙◌}
use Rattle.std.specs.FinMap.{contains_key, insert}
use Rattle.mysql_values.specs.BorrowedValue.{owned}
use Rattle.mysql_params_core.specs.GivenBorrowed.{pair_map}
use Rattle.mysql_params_core.proofs.PairLemmas.{pair_map-push}
use Rattle.mysql_flat_params.specs.FormParams.{values_in_place}
use Rattle.mysql_flat_params.specs.declared.form_names.NamesInPlace.{NamesInPlace}
use Rattle.mysql_flat_params.proofs.form_names.NamesInPlaceFormNames.insert_new.Goals as goal

pub returns-then-len-lt-FEW_NAMES : goal.returns-then-len-lt-FEW_NAMES
returns-then-len-lt-FEW_NAMES c =
    let new : contains_key (pair_map c.in-Pairs.pairs.items) c.args.name.now ≡ false =
    subst (λ (names : NamesInPlace). contains_key (values_in_place names) c.args.name.now ≡ false) c.in-Pairs.is c.requires in
    ap pair_map c.in_ok-push-in-Pairs.ensures.items
    ∙ pair_map-push c.in-Pairs.pairs.items (c.args.name, c.args.value) new
    ∙ ap (λ (names : NamesInPlace). insert (values_in_place names) c.args.name.now (owned c.args.value)) (sym c.in-Pairs.is)
