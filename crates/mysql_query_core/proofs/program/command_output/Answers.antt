use Rattle.mysql_query_core.proofs.program.command_output.Goals as goal

pub returns-in-Bind-clause-ok : goal.returns-in-Bind-clause-ok
returns-in-Bind-clause-ok c = rw c.in-Bind.is c.bound_output.ensures.ok
