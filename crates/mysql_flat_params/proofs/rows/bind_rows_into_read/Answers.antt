use Rattle.mysql_binding.proofs.SurveyedQueryLemmas.{all_are_first}
use Rattle.mysql_flat_params.specs.BoundRows.{no_row}
use Rattle.mysql_flat_params.proofs.rows.bind_rows_into_read.Goals as goal

pub returns-then-is_empty-clause-rows : goal.returns-then-is_empty-clause-rows
returns-then-is_empty-clause-rows c = no_row c.args.reading c.args.query.now c.args.forms.now

pub returns-in-Err-clause-rows : goal.returns-in-Err-clause-rows
returns-in-Err-clause-rows c = no_row c.args.reading c.args.query.now c.args.forms.now

pub with_places-requires : goal.with_places-requires
with_places-requires c = rw c.as_slice.ensures.value (all_are_first _ _ _ c.in-Ok.ensures.places)
