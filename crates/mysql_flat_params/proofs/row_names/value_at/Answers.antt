use Rattle.std.proofs.Common.{refl}
use Rattle.mysql_flat_params.proofs.RowNamesLemmas.{value_is}
use Rattle.mysql_flat_params.proofs.row_names.value_at.Goals as goal

pub returns : goal.returns
returns c = value_is c.args.pairs.now c.args.place _ _ c.requires refl
