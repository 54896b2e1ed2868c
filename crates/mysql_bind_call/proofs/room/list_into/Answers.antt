use Rattle.std.proofs.Common.{◌≡◌, length, sym, subst}
use Rattle.mysql_binding.proofs.TextInRoomLemmas.{each_in_room}
use Rattle.mysql_fragments.specs.GivenFragments.{given_fragments}
use Rattle.mysql_bind_call.specs.BoundTexts.{IsFragmentsText}
use Rattle.mysql_bind_call.proofs.ResultLemmas.{never_err}
use Rattle.mysql_bind_call.proofs.ScopeLemmas.{on_query_map}
use Rattle.mysql_bind_call.proofs.room.list_into.Goals as goal

pub returns-in-Ok-clause-bound : goal.returns-in-Ok-clause-bound
returns-in-Ok-clause-bound c =
    on_query_map c.args.purpose c.args.query.now _ _
    (λ ts t.
    let IsText = IsFragmentsText c.args.purpose.scope ts (given_fragments c.args.list.now) in
    each_in_room (λ x. x ≡ c.in-Ok.text.items) IsText (λ len. len ≡ length c.in-Ok.text.items) c.args.room.now c.put_front.new.room c.put_front.result
    (λ x is. subst IsText (sym is) t)
    (λ len is. (c.in-Ok.text.items, t, sym is)) (rw c.as_slice.ensures.value at c.put_front.ensures))
    c.in-Ok.ensures.bound

pub returns-in-Ok-clause-mixed : goal.returns-in-Ok-clause-mixed
returns-in-Ok-clause-mixed c =
    on_query_map c.args.purpose c.args.query.now _ _ (λ ts h refusal e. absurd (never_err _ _ (h refusal e))) c.in-Ok.ensures.mixed

pub returns-in-Err-clause-mixed : goal.returns-in-Err-clause-mixed
returns-in-Err-clause-mixed c =
    on_query_map c.args.purpose c.args.query.now _ _ (λ ts h refusal e. let same = h refusal e in cc) c.in-Err.ensures.mixed
