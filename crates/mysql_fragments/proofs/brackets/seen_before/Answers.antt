use Rattle.std.proofs.Common.{length, ap, arith, length-drop}
use Rattle.std.proofs.lemmas.List.{take_rest}
use Rattle.mysql_named_params.proofs.FoundPlaceLemmas.{found_in_range_in}
use Rattle.mysql_fragments.proofs.BracketWalkLemmas.{in_front_start, in_front_more, in_front_end}
use Rattle.mysql_fragments.proofs.brackets.seen_before.Goals as goal

pub loop-at-init : goal.loop-at-init
loop-at-init c = in_front_start _ _ _ _ c.requires

pub first_token-len-requires : goal.first_token-len-requires
first_token-len-requires c =
    let within = found_in_range_in _ _ _ c.requires in
    omega (arith, within.1, ap length (take_rest c.args.text.now c.loop-at.at), length-drop c.loop-at.at c.args.text.now, c.loop-at-test.true)

pub loop-at-preserved : goal.loop-at-preserved
loop-at-preserved c =
    in_front_more _ _ _ _ _ _ c.loop-at.invariant _ (take_rest c.args.text.now c.loop-at.at) _ _ c.first_token-len.ensures _ c.loop-at-test.true c.past_first-now.ensures

pub returns : goal.returns
returns c = in_front_end _ _ _ _ _ _ c.loop-at.invariant (omega (arith, c.loop-at-test.false))
