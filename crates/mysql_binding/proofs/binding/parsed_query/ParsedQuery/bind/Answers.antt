use Rattle.mysql_binding.proofs.binding.parsed_query.ParsedQuery.bind.Goals as goal

pub returns-clause-refused : goal.returns-clause-refused
returns-clause-refused c = rw (c.surveyed.ensures.query, c.surveyed.ensures.reading, c.borrowed.ensures) at c.bind_surveyed.ensures.refused

pub returns-clause-bound_again : goal.returns-clause-bound_again
returns-clause-bound_again c = rw c.surveyed.ensures.reading at c.bind_surveyed.ensures.bound_again

pub returns-clause-by_position : goal.returns-clause-by_position
returns-clause-by_position c = rw (c.surveyed.ensures.query, c.surveyed.ensures.reading, c.borrowed.ensures) at c.bind_surveyed.ensures.by_position

pub returns-clause-mixed : goal.returns-clause-mixed
returns-clause-mixed c = rw (c.surveyed.ensures.query, c.surveyed.ensures.reading) at c.bind_surveyed.ensures.mixed
