use Rattle.std.proofs.Common.{arith}
use Rattle.std.specs.Prelude.{codes}
use Rattle.mysql_binding.specs.LiteralForm.{written_literal}
use Rattle.mysql_fragments.specs.FragmentText.{filled_assignment, assignment_values}
use Rattle.mysql_fragments.proofs.JoinedLemmas.{appended_next, joined_fits, joined_len}
use Rattle.mysql_fragments.proofs.FilledLemmas.{known_all, known_step}
use Rattle.mysql_fragments.proofs.appended.append_assignments.Goals as goal

pub append_separator-end-requires : goal.append_separator-end-requires
append_separator-end-requires g c = record {
  room = omega (arith, c.requires.room, c.loop-i.invariant.0, c.loop-i.invariant.2, joined_fits (codes ", ") (filled_assignment (written_literal (g.F.LiteralForm.literal c.args.form.now))) c.args.assignments.now c.loop-i.i c.index-assignments-i.result c.loop-i-test.true c.index-assignments-i.is);
}

pub append_assignment-end-requires : goal.append_assignment-end-requires
append_assignment-end-requires g c = record {
  room =
      omega (
        arith,
        c.requires.room,
        c.loop-i.invariant.0,
        c.loop-i.invariant.2,
        c.append_separator-end.ensures.next,
        c.append_separator-end.auto.text,
        joined_fits (codes ", ") (filled_assignment (written_literal (g.F.LiteralForm.literal c.args.form.now))) c.args.assignments.now c.loop-i.i c.index-assignments-i.result c.loop-i-test.true c.index-assignments-i.is,
      );
}

pub loop-i-preserved : goal.loop-i-preserved
loop-i-preserved g c = (
  omega (
    arith,
    c.loop-i.invariant.0,
    c.append_separator-end.ensures.next,
    c.append_assignment-end.ensures.next,
    joined_len (codes ", ") (filled_assignment (written_literal (g.F.LiteralForm.literal c.args.form.now))) c.args.assignments.now c.loop-i.i c.index-assignments-i.result c.loop-i-test.true c.index-assignments-i.is,
  ),
  appended_next (codes ", ") (filled_assignment (written_literal (g.F.LiteralForm.literal c.args.form.now))) c.args.assignments.now c.loop-i.i c.index-assignments-i.result _ _ _ _ c.loop-i-test.true c.index-assignments-i.is c.loop-i.invariant.1
      c.append_separator-end.ensures.front c.append_assignment-end.ensures.front,
  omega (arith, c.loop-i.invariant.2, c.append_separator-end.auto.text, c.append_assignment-end.auto.text),
  known_step (g.F.LiteralForm.literal c.args.form.now) (g.F.LiteralForm.IsKnown c.args.form.now) assignment_values c.args.assignments.now c.loop-i.i c.index-assignments-i.result
      c.loop-i-test.true c.index-assignments-i.is c.loop-i.invariant.3 c.append_assignment-end.ensures.known,
)

pub returns-clause-known : goal.returns-clause-known
returns-clause-known g c =
    known_all (g.F.LiteralForm.literal c.args.form.now) (g.F.LiteralForm.IsKnown c.args.form.now) assignment_values c.args.assignments.now c.loop-i.i
    (omega (arith, c.loop-i-test.false)) c.loop-i.invariant.3
