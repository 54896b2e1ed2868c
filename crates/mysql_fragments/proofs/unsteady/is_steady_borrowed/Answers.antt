use Rattle.std.proofs.Common.{subst, sym}
use Rattle.mysql_fragments.proofs.SaidSteadyLemmas.{IsOfValues, values_steady}
use Rattle.mysql_fragments.proofs.unsteady.is_steady_borrowed.Goals as goal

pub returns-in-List : goal.returns-in-List
returns-in-List c = values_steady c.args.fragment.now (subst IsOfValues (sym c.in-List.is) tt)

pub returns-in-Rows : goal.returns-in-Rows
returns-in-Rows c = values_steady c.args.fragment.now (subst IsOfValues (sym c.in-Rows.is) tt)
