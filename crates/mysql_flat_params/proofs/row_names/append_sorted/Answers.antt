use Rattle.std.proofs.Common.{◌≡◌, false, sym, subst}
use Rattle.std.specs.FinMap.{contains_key}
use Rattle.mysql_params_core.specs.Given.{ValueMap}
use Rattle.mysql_params_core.specs.GivenBorrowed.{pair_map}
use Rattle.mysql_flat_params.proofs.RowNamesLemmas.{own_pushed, numbers_pushed}
use Rattle.mysql_flat_params.proofs.row_names.append_sorted.Goals as goal

pub returns-in-Ok-push-clause-own : goal.returns-in-Ok-push-clause-own
returns-in-Ok-push-clause-own c =
    own_pushed c.args.pairs.now.items c.push.new.self.items _ c.in-Ok-push.ensures.items c.requires.own c.requires.some
    (subst (λ (m : ValueMap). contains_key m c.args.name.now ≡ false) c.requires.sorted (sym c.if-has_name.ensures))

pub returns-in-Ok-push-clause-sorted : goal.returns-in-Ok-push-clause-sorted
returns-in-Ok-push-clause-sorted c =
    numbers_pushed (pair_map c.args.entries.now.entries) (pair_map c.insert_sorted.new.entries.entries) c.args.pairs.now.items c.push.new.self.items _
    c.in-Ok-push.ensures.items c.requires.sorted (sym c.if-has_name.ensures) c.in-Ok.ensures
