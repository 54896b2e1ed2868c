use Rattle.std.proofs.Common.{inr, refl, sym, ◌∙◌}
use Rattle.mysql_bind_call.proofs.ResultLemmas.{early_is}
use Rattle.mysql_bind_call.proofs.ScopeLemmas.{on_query_map}
use Rattle.mysql_bind_call.proofs.one_call.refusal_before.Goals as goal

pub returns-in-Some-query_refusal-clause-refused : goal.returns-in-Some-query_refusal-clause-refused
returns-in-Some-query_refusal-clause-refused g c =
    inr (
      c.in_default.ensures.made refl,
      λ given gives.
          on_query_map c.args.purpose c.args.query.now _ _ (λ ts h. sym h ∙ c.in-Some-query_refusal.is) c.query_refusal.ensures,
    )

pub returns-in-Some-query_refusal-clause-early : goal.returns-in-Some-query_refusal-clause-early
returns-in-Some-query_refusal-clause-early g c takes given gives =
    on_query_map c.args.purpose c.args.query.now _ _
    (λ ts h refusal e. early_is c.args.purpose c.args.query.now ts given refusal e c.in-Some-query_refusal.why (sym h ∙ c.in-Some-query_refusal.is))
    c.query_refusal.ensures

pub returns-in-None-clause-accepted : goal.returns-in-None-clause-accepted
returns-in-None-clause-accepted g c none =
    on_query_map c.args.purpose c.args.query.now _ _ (λ ts h. sym h ∙ c.in-None.is) c.query_refusal.ensures
