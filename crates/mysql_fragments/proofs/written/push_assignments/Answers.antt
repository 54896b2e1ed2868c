use Rattle.std.proofs.Common.{arith}
use Rattle.std.specs.Io.{StartsWith}
use Rattle.std.specs.Prelude.{codes}
use Rattle.std.proofs.Transfers.{starts_with_of_append, starts_with_of_eq}
use Rattle.mysql_binding.specs.LiteralForm.{written_literal}
use Rattle.mysql_fragments.specs.FragmentText.{filled_assignment, assignment_values}
use Rattle.mysql_fragments.proofs.TextLemmas.{joined_step, still_begins}
use Rattle.mysql_fragments.proofs.FilledLemmas.{known_all, known_step}
use Rattle.mysql_fragments.proofs.written.push_assignments.Goals as goal
use Rattle.mysql_fragments.proofs.written.push_assignments.Goals.{then-i-gt0+in_ok-extend_from_slice, else-i-gt0}

pub loop-i-preserved : goal.loop-i-preserved
loop-i-preserved g c = (
  joined_step (codes ", ") (filled_assignment (written_literal (g.F.ValueForm.written c.args.form.now))) c.args.assignments.now c.loop-i.i c.index-assignments-i.result c.args.text.now.items c.loop-i.text.items c.if-i-gt0.text.items _ c.loop-i-test.true c.index-assignments-i.is c.loop-i.invariant.0
      (λ z. elim c.if-i-gt0.branch [ then-i-gt0+in_ok-extend_from_slice w ↦ absurd (omega (arith, z)) | else-i-gt0 w ↦ cc ])
      (λ z. elim c.if-i-gt0.branch [ then-i-gt0+in_ok-extend_from_slice w ↦ cc (w.in_ok-extend_from_slice.ensures.items) | else-i-gt0 w ↦ absurd (omega (arith, z)) ])
      c.in_ok-push_assignment.ensures.text,
  known_step (g.F.ValueForm.written c.args.form.now) (g.F.ValueForm.IsKnown c.args.form.now) assignment_values c.args.assignments.now c.loop-i.i c.index-assignments-i.result
      c.loop-i-test.true c.index-assignments-i.is c.loop-i.invariant.1 c.in_ok-push_assignment.ensures.known,
)

pub returns-clause-known : goal.returns-clause-known
returns-clause-known g c =
    known_all (g.F.ValueForm.written c.args.form.now) (g.F.ValueForm.IsKnown c.args.form.now) assignment_values c.args.assignments.now c.loop-i.i
    (omega (arith, c.loop-i-test.false)) c.loop-i.invariant.1

pub returns-in_err-push_assignment-clause-kept : goal.returns-in_err-push_assignment-clause-kept
returns-in_err-push_assignment-clause-kept g c =
    let before = c.loop-i.text.items in
    let next = c.if-i-gt0.text.items in
    let begun : StartsWith next before = elim c.if-i-gt0.branch [
      | then-i-gt0+in_ok-extend_from_slice w ↦ starts_with_of_append next before (codes ", ") (cc (w.in_ok-extend_from_slice.ensures.items))
      | else-i-gt0 w ↦ starts_with_of_eq next before (cc)
    ] in
    still_begins _ c.args.text.now.items _ before next _ c.loop-i.invariant.0 begun c.in_err-push_assignment.ensures.kept
