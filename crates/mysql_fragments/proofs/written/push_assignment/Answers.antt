use Rattle.std.specs.Prelude.{codes}
use Rattle.std.proofs.Transfers.{starts_with_of_append}
use Rattle.mysql_fragments.proofs.TextLemmas.{still_begins}
use Rattle.mysql_fragments.proofs.written.push_assignment.Goals as goal

pub returns-in_err-push_item-clause-kept : goal.returns-in_err-push_item-clause-kept
returns-in_err-push_item-clause-kept g c =
    still_begins _ c.args.text.now.items _ _ _ _ c.in_ok-push_names.ensures.text
    (starts_with_of_append _ _ (codes " = ") c.in_ok-extend_from_slice.ensures.items) c.in_err-push_item.ensures.kept
