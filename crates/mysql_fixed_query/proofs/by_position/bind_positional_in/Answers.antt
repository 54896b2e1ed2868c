use Rattle.std.specs.Prelude.{true}
use Rattle.mysql_fixed_query.proofs.by_position.bind_positional_in.Goals as goal

pub returns-clause-bound : goal.returns-clause-bound
returns-clause-bound g c = c.bind_positional_for.ensures.bound true
