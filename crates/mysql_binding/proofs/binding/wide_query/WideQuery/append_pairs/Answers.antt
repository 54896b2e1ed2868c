use Rattle.mysql_named_params.specs.Reading.{wide_reading}
use Rattle.mysql_binding.proofs.binding.wide_query.WideQuery.append_pairs.Goals as goal

pub returns-in-Some-clause-refused : goal.returns-in-Some-clause-refused
returns-in-Some-clause-refused c = c.in-Some.ensures.some (wide_reading c.args.self.now.mode) c.args.self.now.query
