use Rattle.std.proofs.Common.{arith, ap, length, refl, sym}
use Rattle.mysql_bind_core.specs.Groups.{refused, too_long}
use Rattle.mysql_bind_core.proofs.GroupLemmas.{one_long, one_refused, unfit_try}
use Rattle.mysql_bind_core.proofs.RowItemLemmas.{rest_of_fits}
use Rattle.mysql_bind_core.proofs.group.try_rows.Goals as goal

pub overflow_sub-at : goal.overflow_sub-at
overflow_sub-at c = rest_of_fits c.args.form.now.table c.args.unread.text.now c.args.unread.rest.now c.requires.rest

pub overflow_sub-at-in-Err : goal.overflow_sub-at-in-Err
overflow_sub-at-in-Err c = rest_of_fits c.args.form.now.table c.args.unread.text.now c.args.unread.rest.now c.requires.rest

pub returns-then-count-gt1-clause-tried : goal.returns-then-count-gt1-clause-tried
returns-then-count-gt1-clause-tried c =
    let bound = c.in-Ok.ensures.written in
    unfit_try c.args.query.now c.args.form.now c.args.unread.rest.now c.args.most c.in_ok-rows.field-0 c.len-count.result c.in_ok-rows.ensures.read
    (omega (arith, c.len-count.ensures, c.in_ok-rows.rows.ok.0)) c.if-count-gt1.true
    (too_long bound.0 bound.1 (omega (arith, c.if-bytes-form.false, c.len-bytes.ensures, c.in-Ok.statement.ok.0, ap length bound.2)))

pub returns-then-count-gt1-2-clause-tried : goal.returns-then-count-gt1-2-clause-tried
returns-then-count-gt1-2-clause-tried c =
    unfit_try c.args.query.now c.args.form.now c.args.unread.rest.now c.args.most c.in_ok-rows.field-0 c.len-count.result c.in_ok-rows.ensures.read
    (omega (arith, c.len-count.ensures, c.in_ok-rows.rows.ok.0)) c.if-count-gt1-2.true
    (refused c.in-Err.failure (sym c.if-is_of_memory.ensures) c.in-Err.ensures.refused)

pub returns-else-count-gt1-clause-refused : goal.returns-else-count-gt1-clause-refused
returns-else-count-gt1-clause-refused c =
    let bound = c.in-Ok.ensures.written in
    one_long c.args.query.now c.args.form.now c.args.unread.text.now c.args.unread.rest.now c.args.most c.in_ok-rows.field-0 c.len-count.result _ _ bound.0
    c.requires.rest c.in_ok-rows.ensures.read (omega (arith, c.len-count.ensures, c.in_ok-rows.rows.ok.0)) (omega (arith, c.if-count-gt1.false)) refl
    bound.1 (omega (arith, c.len-bytes.ensures, c.in-Ok.statement.ok.0, ap length bound.2)) (omega (arith, c.if-bytes-form.false))

pub returns-else-count-gt1-2-clause-refused : goal.returns-else-count-gt1-2-clause-refused
returns-else-count-gt1-2-clause-refused c =
    one_refused c.args.query.now c.args.form.now c.args.unread.text.now c.args.unread.rest.now c.args.most c.in_ok-rows.field-0 c.len-count.result _ c.in-Err.failure
    c.requires.rest c.in_ok-rows.ensures.read (omega (arith, c.len-count.ensures, c.in_ok-rows.rows.ok.0)) (omega (arith, c.if-count-gt1-2.false)) refl
    c.in-Err.ensures.refused (sym c.if-is_of_memory.ensures)
