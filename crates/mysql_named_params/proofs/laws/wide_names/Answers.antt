use Rattle.std.specs.Prelude.{false}
use Rattle.mysql_named_params.proofs.WideLemmas.{text_of-widened, marks_from, names_from}
use Rattle.mysql_named_params.proofs.laws.wide_names.Goals as goal

pub returns : goal.returns
returns c = record {
  bytes = text_of-widened;
  marks = marks_from false;
  names = λ mode query ts is. names_from mode false ts is.each;
}
