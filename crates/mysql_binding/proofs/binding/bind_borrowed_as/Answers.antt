use Rattle.mysql_binding.proofs.binding.bind_borrowed_as.Goals as goal

pub returns-clause-refused : goal.returns-clause-refused
returns-clause-refused g c = rw (c.new-surveyed.ensures.query, c.new-surveyed.ensures.reading) at c.bind_surveyed_as.ensures.refused
