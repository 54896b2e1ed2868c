use Rattle.mysql_params_core.proofs.SortedPairLemmas.{pair_map-insert}
use Rattle.mysql_flat_params.proofs.form_names.insert_sorted.Goals as goal

pub returns : goal.returns
returns c =
    pair_map-insert c.args.entries.now.entries c.insert.new.self.entries c.args.name c.args.value
    c.in_ok-insert.ensures.updates.3 c.in_ok-insert.ensures.updates.1
