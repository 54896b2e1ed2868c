use Rattle.mysql_flat_params.proofs.fragments_anywhere_room.bind_placed_as.Goals as goal

pub returns-in-Steady-clause-text : goal.returns-in-Steady-clause-text
returns-in-Steady-clause-text c = rw c.in-Steady.is c.bind_placed_into.ensures.text

pub returns-in-Guarded-clause-text : goal.returns-in-Guarded-clause-text
returns-in-Guarded-clause-text c = rw c.in-Guarded.is c.bind_placed_into-in-Guarded.ensures.text
