use Rattle.std.specs.Prelude.{◌||◌}
use Rattle.std.proofs.Common.{◌&&◌, sym, ap, ◌∙◌}
use Rattle.mysql_fragments.specs.Brackets.{closes}
use Rattle.mysql_fragments.specs.BracketWalk.{may_stand_seen}
use Rattle.mysql_fragments.proofs.BracketWalkLemmas.{on_any}
use Rattle.mysql_fragments.proofs.brackets.may_stand.Goals as goal

pub returns-in-No : goal.returns-in-No
returns-in-No c = on_any _ _ _ (λ ts. sym (ap (λ k. may_stand_seen k c.args.seen ts) c.in-No.is))

pub returns-else-seen : goal.returns-else-seen
returns-else-seen c = on_any _ _ _ (λ ts.
    c.if-seen.false ∙ sym (ap (λ k. may_stand_seen k c.args.seen ts) c.in-List.is ∙ ap (λ x. x && closes ts) c.if-seen.false))

pub returns-then-has_values : goal.returns-then-has_values
returns-then-has_values c = on_any _ _ _ (λ ts.
    let some = sym c.has_values.ensures ∙ c.if-has_values.true in
    c.if-has_values.true ∙ sym (ap (λ k. may_stand_seen k c.args.seen ts) c.in-Rows.is ∙ ap (λ x. x || (c.args.seen.opened && closes ts)) some))

pub returns-else-seen-2 : goal.returns-else-seen-2
returns-else-seen-2 c = on_any _ _ _ (λ ts.
    let none = sym c.has_values.ensures ∙ c.if-has_values.false in
    c.if-seen-2.false ∙ sym (ap (λ k. may_stand_seen k c.args.seen ts) c.in-Rows.is ∙ (ap (λ x. x || (c.args.seen.opened && closes ts)) none ∙ ap (λ x. x && closes ts) c.if-seen-2.false)))
