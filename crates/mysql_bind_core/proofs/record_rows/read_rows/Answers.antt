use Rattle.std.proofs.Common.{◌≡◌, ◌<◌, ℕ, List, [], arith, length, subst, sym, true≢false}
use Rattle.mysql_bind_core.specs.Groups.{HasNoRow}
use Rattle.mysql_bind_core.specs.GroupSearch.{IsNextRow}
use Rattle.mysql_bind_core.specs.declared.record_rows.NextRow.{NextRow}
use Rattle.mysql_bind_core.proofs.RowItemLemmas.{RowsSoFar, are_read, no_row_at_end, none_if, some_if, so_far_more, so_far_none, so_far_rest, so_far_same, so_far_some}
use Rattle.mysql_bind_core.proofs.record_rows.read_rows.Goals as goal

pub loop-count-init : goal.loop-count-init
loop-count-init c =
    subst (λ rows. RowsSoFar c.args.form.now c.args.unread.rest.now rows c.args.unread.rest.now 0) (sym c.new-rows.ensures.items)
    (so_far_none c.args.form.now c.args.unread.rest.now)

pub next_row-requires : goal.next_row-requires
next_row-requires c = so_far_rest c.args.form.now c.args.unread.text.now c.args.unread.rest.now _ _ _ c.requires.rest c.loop-count.invariant

pub is_last-requires : goal.is_last-requires
is_last-requires c = so_far_rest c.args.form.now c.args.unread.text.now c.args.unread.rest.now _ _ _ c.requires.rest c.loop-count.invariant

pub returns-in-End-clause-read : goal.returns-in-End-clause-read
returns-in-End-clause-read c =
    let rest = c.loop-count.rest.now in
    let empty : rest ≡ [] =
    subst (λ (n : NextRow). IsNextRow c.args.form.now c.args.unread.text.now rest n) c.in-End.is c.in_ok-items.ensures in
    are_read c.args.form.now c.args.unread.rest.now c.args.most _ _ c.loop-count.invariant
    (so_far_some c.args.form.now c.args.unread.rest.now _ rest _ c.loop-count.invariant c.requires.some empty)
    (omega (arith, c.loop-count.invariant.number, c.loop-count-test.true)) (λ is. no_row_at_end c.args.form.now rest empty) (λ is. absurd (true≢false is))

pub returns-then-is_empty-clause-refused : goal.returns-then-is_empty-clause-refused
returns-then-is_empty-clause-refused c =
    let none : length c.loop-count.rows.items ≡ 0 = omega (arith, none_if c.loop-count.rows.len c.if-is_empty.ensures, c.loop-count.rows.ok.0) in
    let refused = (subst (λ (n : NextRow). IsNextRow c.args.form.now c.args.unread.text.now c.loop-count.rest.now n) c.in-Refused.is c.in_ok-items.ensures).1 in
    subst (λ (rest : List ℕ). HasNoRow c.args.form.now c.args.unread.text.now rest c.in-Refused.refusal)
    (sym (so_far_same c.args.form.now c.args.unread.rest.now c.loop-count.rows.items c.loop-count.rest.now _ c.loop-count.invariant none)) refused

pub returns-in-Refused-clause-read : goal.returns-in-Refused-clause-read
returns-in-Refused-clause-read c =
    let some : 0 < length c.loop-count.rows.items = omega (arith, some_if c.loop-count.rows.len c.if-is_empty.ensures, c.loop-count.rows.ok.0) in
    let last = (subst (λ (n : NextRow). IsNextRow c.args.form.now c.args.unread.text.now c.loop-count.rest.now n) c.in-Refused.is c.in_ok-items.ensures).0 in
    are_read c.args.form.now c.args.unread.rest.now c.args.most _ _ c.loop-count.invariant some
    (omega (arith, c.loop-count.invariant.number, c.loop-count-test.true)) (λ is. last) (λ is. absurd (true≢false is))

pub loop-count-preserved : goal.loop-count-preserved
loop-count-preserved c =
    so_far_more c.args.form.now c.args.unread.rest.now c.loop-count.rows.items c.push.new.self.items c.loop-count.rest.now c.loop-count._count c.in-Row.items c.in-Row.more.now
    c.loop-count.invariant (subst (λ (n : NextRow). IsNextRow c.args.form.now c.args.unread.text.now c.loop-count.rest.now n) c.in-Row.is c.in_ok-items.ensures)
    c.in_ok-push-in-Row.ensures.items

pub returns-clause-read : goal.returns-clause-read
returns-clause-read c =
    let most : length c.loop-count.rows.items ≡ c.args.most = omega (arith, c.loop-count.invariant.number, c.loop-count-test.false, c.loop-count.auto._count-end) in
    are_read c.args.form.now c.args.unread.rest.now c.args.most _ _ c.loop-count.invariant
    (omega (arith, most, c.requires.most)) (omega (arith, most))
    c.in_ok-last.ensures.last (λ is. (c.in_ok-last.ensures.not_last is, most))
