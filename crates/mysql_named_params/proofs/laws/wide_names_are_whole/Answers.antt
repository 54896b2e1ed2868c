use Rattle.std.specs.Prelude.{false}
use Rattle.mysql_named_params.proofs.WideLemmas.{none_left, wide_again}
use Rattle.mysql_named_params.proofs.laws.wide_names_are_whole.Goals as goal

pub returns : goal.returns
returns c = record { whole = none_left false; again = wide_again }
