use Rattle.std.proofs.Common.{arith}
use Rattle.std.proofs.lemmas.Grind.{common_steps}
use Rattle.mysql_binding.proofs.binding.text.fill_after.Goals as goal

pub returns-clause-front : goal.returns-clause-front
returns-clause-front g c = (c.fill_measured.new.room, grind (arith, common_steps), c.fill_measured.ensures)
