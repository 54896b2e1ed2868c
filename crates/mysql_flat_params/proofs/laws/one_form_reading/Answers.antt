use Rattle.std.proofs.Common.{length}
use Rattle.mysql_params_core.specs.Given.{empty}
use Rattle.mysql_flat_params.proofs.FormLemmas.{is_read, one_reading}
use Rattle.mysql_flat_params.proofs.laws.one_form_reading.Goals as goal

pub returns : goal.returns
returns c = record {
  exists = λ form. is_read (length form) 0 empty form;
  unique = λ form. one_reading (length form) 0 empty form;
}
