use Rattle.std.proofs.Common.{refl, subst}
use Rattle.mysql_bind_core.specs.Refusals.{IsFoundInText}
use Rattle.mysql_bind_core.specs.RowItems.{rows_said}
use Rattle.mysql_bind_core.specs.RowsBound.{of_text}
use Rattle.mysql_bind_core.specs.declared.request.Request.{Request}
use Rattle.mysql_bind_core.proofs.EachModeLemmas.{IsPortableInOwn, rows_portable_in_each}
use Rattle.mysql_bind_core.proofs.rows_text.rows_statement.Goals as goal

pub returns-in-Some-clause-refused : goal.returns-in-Some-clause-refused
returns-in-Some-clause-refused c =
    let text = c.in_ok-text.text.items in
    of_text text c.in_ok-text.ensures.bound c.in-Some.found refl
    (subst (λ (r : Request). IsFoundInText r text c.in-Some.found) c.request.ensures.request
    (rw c.as_slice.ensures.value at c.in-Some.ensures.found))

pub returns-clause-written : goal.returns-clause-written
returns-clause-written c =
    let text = c.in_ok-text.text.items in
    let own = subst (λ (r : Request). IsPortableInOwn r text) c.request.ensures.request
    (rw c.as_slice.ensures.value at (c.found_in_text.ensures.none c.in_default.is)) in (
      text,
      record {
        taken = c.request.ensures.taken;
        text_is = c.in_ok-text.ensures.bound;
        portable_text = rows_portable_in_each c.args.query.now c.args.fixed.now (rows_said c.args.rows.items) text c.in_ok-text.ensures.bound own;
      },
      c.in_ok-extend_from_slice.ensures.items,
    )
