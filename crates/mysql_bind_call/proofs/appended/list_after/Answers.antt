use Rattle.std.proofs.Common.{inl, refl}
use Rattle.mysql_bind_call.proofs.ResultLemmas.{never_err}
use Rattle.mysql_bind_call.proofs.ScopeLemmas.{on_query_map}
use Rattle.mysql_bind_call.proofs.appended.list_after.Goals as goal

pub returns-in-Ok-extend_from_slice-clause-bound : goal.returns-in-Ok-extend_from_slice-clause-bound
returns-in-Ok-extend_from_slice-clause-bound c =
    on_query_map c.args.purpose c.args.query.now _ _
    (λ ts t. (c.in-Ok.bound.items, rw c.as_slice.ensures.value at c.in-Ok-extend_from_slice.ensures.items, t))
    c.in-Ok.ensures.bound

pub returns-in-Ok-extend_from_slice-clause-mixed : goal.returns-in-Ok-extend_from_slice-clause-mixed
returns-in-Ok-extend_from_slice-clause-mixed c =
    on_query_map c.args.purpose c.args.query.now _ _ (λ ts h refusal e. absurd (never_err _ _ (h refusal e))) c.in-Ok.ensures.mixed

pub returns-in-Ok-clause-refused : goal.returns-in-Ok-clause-refused
returns-in-Ok-clause-refused c = on_query_map c.args.purpose c.args.query.now _ _ (λ ts t. inl refl) c.in-Ok.ensures.bound

pub returns-in-Ok-clause-mixed : goal.returns-in-Ok-clause-mixed
returns-in-Ok-clause-mixed c =
    on_query_map c.args.purpose c.args.query.now _ _ (λ ts h refusal e. absurd (never_err _ _ (h refusal e))) c.in-Ok.ensures.mixed

pub returns-clause-mixed : goal.returns-clause-mixed
returns-clause-mixed c =
    on_query_map c.args.purpose c.args.query.now _ _ (λ ts h refusal e. let same = h refusal e in cc) c.in-Err.ensures.mixed
