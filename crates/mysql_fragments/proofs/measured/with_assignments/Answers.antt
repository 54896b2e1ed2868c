use Rattle.std.proofs.Common.{refl, arith}
use Rattle.std.specs.Prelude.{codes}
use Rattle.mysql_binding.specs.LiteralForm.{written_literal}
use Rattle.mysql_binding.specs.MeasuredText.{IsOfFields}
use Rattle.mysql_fragments.specs.FragmentText.{filled_assignment, assignment_values}
use Rattle.mysql_fragments.proofs.FilledLemmas.{known_all, known_step}
use Rattle.mysql_fragments.proofs.JoinedLemmas.{joined_fits, joined_len}
use Rattle.mysql_fragments.proofs.measured.with_assignments.Goals as goal

pub returns-in_err-sum-clause-too_long : goal.returns-in_err-sum-clause-too_long
returns-in_err-sum-clause-too_long g c = λ none. omega (arith, c.loop-i.invariant.0, c.in_err-sum.ensures.too_long refl, joined_fits (codes ", ") (filled_assignment (written_literal (g.F.LiteralForm.literal c.args.form.now))) c.args.assignments.now c.loop-i.i c.index-assignments-i.result c.loop-i-test.true c.index-assignments-i.is)

pub returns-in_err-sum-2-clause-too_long : goal.returns-in_err-sum-2-clause-too_long
returns-in_err-sum-2-clause-too_long g c = λ none. omega (arith, c.loop-i.invariant.0, c.in_ok-sum.ensures.len, c.in_err-sum-2.ensures.too_long refl, joined_fits (codes ", ") (filled_assignment (written_literal (g.F.LiteralForm.literal c.args.form.now))) c.args.assignments.now c.loop-i.i c.index-assignments-i.result c.loop-i-test.true c.index-assignments-i.is)

pub loop-i-preserved : goal.loop-i-preserved
loop-i-preserved g c = (
  omega (arith, c.loop-i.invariant.0, c.in_ok-sum.ensures.len, c.in_ok-sum-2.ensures.len, joined_len (codes ", ") (filled_assignment (written_literal (g.F.LiteralForm.literal c.args.form.now))) c.args.assignments.now c.loop-i.i c.index-assignments-i.result c.loop-i-test.true c.index-assignments-i.is),
  known_step (g.F.LiteralForm.literal c.args.form.now) IsOfFields assignment_values c.args.assignments.now c.loop-i.i c.index-assignments-i.result
      c.loop-i-test.true c.index-assignments-i.is c.loop-i.invariant.1 c.in_ok-sum-2.ensures.known,
)

pub returns-clause-known : goal.returns-clause-known
returns-clause-known g c =
    known_all (g.F.LiteralForm.literal c.args.form.now) IsOfFields assignment_values c.args.assignments.now c.loop-i.i
    (omega (arith, c.loop-i-test.false)) c.loop-i.invariant.1
