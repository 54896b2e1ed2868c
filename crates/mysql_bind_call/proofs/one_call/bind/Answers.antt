use Rattle.std.proofs.Common.{ap, refl}
use Rattle.std.specs.Prelude.{Err}
use Rattle.mysql_bind_call.proofs.EndLemmas.{early_after, refused_after}
use Rattle.mysql_bind_call.proofs.ResultLemmas.{ok_to}
use Rattle.mysql_bind_call.proofs.ScopeLemmas.{on_query_map}
use Rattle.mysql_bind_call.proofs.one_call.bind.Goals as goal

pub returns-in-Some-clause-early : goal.returns-in-Some-clause-early
returns-in-Some-clause-early g c takes given gives =
    on_query_map c.args.purpose c.args.query.now _ _ (λ ts h refusal e. ap (λ x. Err x) (h refusal e)) (c.in-Some.ensures.early takes given gives)

pub returns-in-None-clause-bound : goal.returns-in-None-clause-bound
returns-in-None-clause-bound g c =
    ok_to _ _ c.text_of.result (λ text h. (c.in-None.ensures.made refl, λ given gives. h given (c.given.ensures given gives))) c.text_of.ensures.bound

pub returns-in-None-clause-accepted : goal.returns-in-None-clause-accepted
returns-in-None-clause-accepted g c = ok_to _ _ c.text_of.result (λ text h. c.in-None.ensures.accepted refl) c.text_of.ensures.bound

pub returns-in-None-clause-refused : goal.returns-in-None-clause-refused
returns-in-None-clause-refused g c =
    refused_after c.text_of.result c.args.purpose c.args.query.now (c.in-None.ensures.accepted refl) _ _ c.given.ensures _ _ (c.in-None.ensures.made refl) c.text_of.ensures.refused

pub returns-in-None-clause-early : goal.returns-in-None-clause-early
returns-in-None-clause-early g c takes =
    early_after c.text_of.result c.args.purpose c.args.query.now (c.in-None.ensures.accepted refl) _ _ c.given.ensures c.text_of.ensures.mixed
