use Rattle.mysql_flat_params.proofs.table_literals.bind_places_with.Goals as goal

pub returns-in-Steady-clause-text : goal.returns-in-Steady-clause-text
returns-in-Steady-clause-text c = rw c.in-Steady.is c.bind_places.ensures.text

pub returns-in-Guarded-clause-text : goal.returns-in-Guarded-clause-text
returns-in-Guarded-clause-text c = rw c.in-Guarded.is c.bind_places-in-Guarded.ensures.text
