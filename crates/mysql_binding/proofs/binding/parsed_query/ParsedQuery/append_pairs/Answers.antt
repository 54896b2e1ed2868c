use Rattle.mysql_named_params.specs.Reading.{grammar_reading}
use Rattle.mysql_binding.proofs.binding.parsed_query.ParsedQuery.append_pairs.Goals as goal

pub returns-in-Some-clause-refused : goal.returns-in-Some-clause-refused
returns-in-Some-clause-refused c = c.in-Some.ensures.some (grammar_reading c.args.self.now.mode) c.args.self.now.query
