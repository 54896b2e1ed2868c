use Rattle.std.proofs.Common.{◌≡◌, ◌++◌, ◌∷◌, [], refl, ap, ◌∙◌, get_or}
use Rattle.mysql_fragments.specs.FragmentText.{doubled}
use Rattle.mysql_fragments.proofs.TextLemmas.{doubled_step, once, twice}
use Rattle.mysql_fragments.proofs.written.push_identifier.Goals as goal
use Rattle.mysql_fragments.proofs.written.push_identifier.Goals.{then-b-eq96+in_ok-push-3, else-b-eq96}

pub loop-b-preserved : goal.loop-b-preserved
loop-b-preserved c =
    let b = get_or c.args.name.now c.loop-b.b-index 0 in
    let one : c.if-b-eq96.text.items ≡ c.loop-b.text.items ++ doubled (b ∷ []) =
    elim c.if-b-eq96.branch [
      | then-b-eq96+in_ok-push-3 w ↦ ap (λ v. v.items) w.text-is ∙ twice b _ _ _ w.if-b-eq96.true c.in_ok-push-2.ensures.items w.in_ok-push-3.ensures.items
      | else-b-eq96 w ↦ ap (λ v. v.items) w.text-is ∙ once b _ _ w.if-b-eq96.false c.in_ok-push-2.ensures.items
    ] in
    doubled_step c.args.name.now c.loop-b.b-index b _ _ _ c.loop-b-test.true refl c.loop-b.invariant one
