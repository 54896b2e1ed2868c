use Rattle.mysql_bind_call.proofs.EndLemmas.{by_list, by_values, of_given, of_given_err, of_given_ok}
use Rattle.mysql_bind_call.proofs.one_call.text_of.Goals as goal

pub returns-in-Values-clause-bound : goal.returns-in-Values-clause-bound
returns-in-Values-clause-bound c = of_given_ok _ _ (by_values c.args.given c.in-Values.params c.in-Values.is) _ c.bind_borrowed.result c.bind_borrowed.ensures.bound

pub returns-in-Values-clause-refused : goal.returns-in-Values-clause-refused
returns-in-Values-clause-refused c = of_given_err _ _ (by_values c.args.given c.in-Values.params c.in-Values.is) _ c.bind_borrowed.result c.bind_borrowed.ensures.refused

pub returns-in-Values-clause-mixed : goal.returns-in-Values-clause-mixed
returns-in-Values-clause-mixed c = of_given _ _ (by_values c.args.given c.in-Values.params c.in-Values.is) _ c.bind_borrowed.ensures.mixed

pub returns-in-Fragments-clause-bound : goal.returns-in-Fragments-clause-bound
returns-in-Fragments-clause-bound c = of_given_ok _ _ (by_list c.args.given c.in-Fragments.list c.in-Fragments.is) _ c.bind_list.result c.bind_list.ensures.bound

pub returns-in-Fragments-clause-refused : goal.returns-in-Fragments-clause-refused
returns-in-Fragments-clause-refused c = of_given_err _ _ (by_list c.args.given c.in-Fragments.list c.in-Fragments.is) _ c.bind_list.result c.bind_list.ensures.refused

pub returns-in-Fragments-clause-mixed : goal.returns-in-Fragments-clause-mixed
returns-in-Fragments-clause-mixed c = of_given _ _ (by_list c.args.given c.in-Fragments.list c.in-Fragments.is) _ c.bind_list.ensures.mixed
