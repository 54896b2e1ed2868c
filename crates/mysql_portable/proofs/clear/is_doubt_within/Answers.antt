use Rattle.std.proofs.Common.{◌∙◌, sym}
use Rattle.mysql_portable.proofs.ClearWalkLemmas.{never_in_doubt_here, passed_here}
use Rattle.mysql_portable.proofs.clear.is_doubt_within.Goals as goal
use Rattle.mysql_portable.proofs.clear.is_doubt_within.Goals.{else-may_be_in_doubt-via-then-may_be_in_doubt+else-is_doubt_at, else-may_be_in_doubt-via-else-may_be_in_doubt}

pub loop-at-preserved : goal.loop-at-preserved
loop-at-preserved c =
    elim c.else-may_be_in_doubt.branch [
      | else-may_be_in_doubt-via-then-may_be_in_doubt+else-is_doubt_at w ↦
          passed_here c.args.client c.args.text.now c.loop-at.at c.loop-at-test.true (sym w.is_doubt_at.ensures ∙ w.if-is_doubt_at.false) ∙ c.loop-at.invariant
      | else-may_be_in_doubt-via-else-may_be_in_doubt w ↦
          never_in_doubt_here c.args.client c.args.text.now c.loop-at.at c.loop-at-test.true (sym c.may_be_in_doubt.ensures ∙ w.if-may_be_in_doubt.false) ∙ c.loop-at.invariant
    ]
