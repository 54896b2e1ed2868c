use Rattle.mysql_flat_params.proofs.FewValuesLemmas.{no_name_read}
use Rattle.mysql_flat_params.proofs.few_values.value_by_position.Goals as goal

pub returns : goal.returns
returns c = (
  _,
  no_name_read c.args.spot.place c.args.spot.position c.args.rest.now.0.now c.in-len1-up.len_at_least c.if-name_len-ne0.false,
  c.in_ok-value.ensures,
)
