use Rattle.std.proofs.Common.{rules}
use Rattle.mysql_params_core.proofs.EqualityLemmas.{params_eq-Decides}
use Rattle.mysql_params_core.proofs.laws.params_equality.Goals as goal

pub returns : goal.returns
returns c = record { same = search (rules, params_eq-Decides); member = c.eq.ensures }
