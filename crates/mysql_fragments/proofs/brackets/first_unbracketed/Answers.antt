use Rattle.std.proofs.Common.{get_or, refl, subst, sym, true, ◌∙◌, ◌+◌}
use Rattle.std.proofs.lemmas.List.{take_rest}
use Rattle.mysql_fragments.specs.BracketWalk.{past_tokens}
use Rattle.mysql_fragments.specs.declared.brackets.Implicit.TheVariants.{No}
use Rattle.mysql_fragments.proofs.BracketWalkLemmas.{WalkedSoFar, on_any, walked_none, walked_all, walked_stop, walked_more}
use Rattle.mysql_fragments.proofs.brackets.first_unbracketed.Goals.{in-No, in_default-kind_at+else-not-may_stand}
use Rattle.mysql_fragments.proofs.brackets.first_unbracketed.Goals as goal

pub loop-found-init : goal.loop-found-init
loop-found-init c =
    subst (λ seen. WalkedSoFar (λ place. get_or c.args.kinds.now place No) c.args.reading c.args.query.now seen 0 0) (sym c.past_sign-seen.ensures) (walked_none _ _ _)

pub returns-then-not-may_stand : goal.returns-then-not-may_stand
returns-then-not-may_stand c =
    walked_stop _ _ _ _ _ _ _ c.loop-found.invariant (take_rest c.args.query.now c.loop-found.at) _ _ c.seen_before-before.ensures _ (take_rest c.args.query.now _) _ c.kind_at.ensures _ c.may_stand.ensures c.if-not-may_stand.true

pub loop-found-preserved : goal.loop-found-preserved
loop-found-preserved c =
    let found = c.in-Some.found in
    let rest = take_rest c.args.query.now c.loop-found.at in
    subst (λ seen. WalkedSoFar (λ place. get_or c.args.kinds.now place No) c.args.reading c.args.query.now seen (c.loop-found.place + 1) (c.loop-found.at + found.before + found.len)) (sym c.past_sign-seen-in-Some.ensures)
    (elim c.match-kind_at.branch [
      | in-No w ↦
          let o = c.in-Some.ensures.place in
          walked_more _ _ _ _ _ _ _ c.loop-found.invariant rest found (past_tokens c.loop-found.seen o.2.front) (o.0, o.1, (o.2, refl)) _ refl No (sym w.in-No.is ∙ c.kind_at.ensures) true (on_any _ _ _ (λ ts. refl)) refl
      | in_default-kind_at+else-not-may_stand w ↦
          walked_more _ _ _ _ _ _ _ c.loop-found.invariant rest _ _ w.seen_before-before.ensures _ (take_rest c.args.query.now _) _ c.kind_at.ensures _ w.may_stand.ensures w.if-not-may_stand.false
    ])

pub returns : goal.returns
returns c =
    let o = c.in_default.ensures.none in
    walked_all _ _ _ _ _ _ _ c.loop-found.invariant (take_rest c.args.query.now c.loop-found.at) (o.0, o.1, o.2 refl)
