use Rattle.std.proofs.Common.{sym, ◌∙◌, arith}
use Rattle.std.proofs.lemmas.List.{take_rest}
use Rattle.mysql_fragments.proofs.BracketClosesLemmas.{closes_from_start, closes_at_end, closes_past_gap, closes_at_sign}
use Rattle.mysql_fragments.proofs.brackets.closes.Goals as goal

pub loop-at-init : goal.loop-at-init
loop-at-init c = closes_from_start _ _

pub returns-then-not-is_gap_at : goal.returns-then-not-is_gap_at
returns-then-not-is_gap_at c =
    closes_at_sign _ _ _ _ c.loop-at.invariant (take_rest c.args.text.now c.loop-at.at) _ _ c.first_token-len.ensures (sym c.is_gap_at.ensures ∙ c.if-not-is_gap_at.true)

pub loop-at-preserved : goal.loop-at-preserved
loop-at-preserved c =
    closes_past_gap _ _ _ _ c.loop-at.invariant (take_rest c.args.text.now c.loop-at.at) _ _ c.first_token-len.ensures (sym c.is_gap_at.ensures ∙ c.if-not-is_gap_at.false)

pub returns : goal.returns
returns c = closes_at_end _ _ _ c.loop-at.invariant (omega (arith, c.loop-at-test.false))
