use Rattle.mysql_binding.proofs.binding.wide_query.WideQuery.bind_values.Goals as goal

pub returns-clause-by_position : goal.returns-clause-by_position
returns-clause-by_position c = rw (c.surveyed.ensures.query, c.surveyed.ensures.reading) at c.bind_surveyed.ensures.by_position
