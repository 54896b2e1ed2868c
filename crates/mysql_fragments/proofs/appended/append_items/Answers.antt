use Rattle.std.proofs.Common.{arith}
use Rattle.std.specs.Prelude.{codes}
use Rattle.mysql_binding.specs.LiteralForm.{written_literal}
use Rattle.mysql_fragments.specs.FragmentText.{filled_item, item_values}
use Rattle.mysql_fragments.proofs.JoinedLemmas.{appended_next, joined_fits, joined_len}
use Rattle.mysql_fragments.proofs.FilledLemmas.{known_all, known_step}
use Rattle.mysql_fragments.proofs.appended.append_items.Goals as goal

pub append_separator-end-requires : goal.append_separator-end-requires
append_separator-end-requires g c = record {
  room = omega (arith, c.requires.room, c.loop-i.invariant.0, c.loop-i.invariant.2, joined_fits (codes ", ") (filled_item (written_literal (g.F.LiteralForm.literal c.args.form.now))) c.args.items.now c.loop-i.i c.index-items-i.result c.loop-i-test.true c.index-items-i.is);
}

pub append_item-end-requires : goal.append_item-end-requires
append_item-end-requires g c = record {
  room =
      omega (
        arith,
        c.requires.room,
        c.loop-i.invariant.0,
        c.loop-i.invariant.2,
        c.append_separator-end.ensures.next,
        c.append_separator-end.auto.text,
        joined_fits (codes ", ") (filled_item (written_literal (g.F.LiteralForm.literal c.args.form.now))) c.args.items.now c.loop-i.i c.index-items-i.result c.loop-i-test.true c.index-items-i.is,
      );
}

pub loop-i-preserved : goal.loop-i-preserved
loop-i-preserved g c = (
  omega (
    arith,
    c.loop-i.invariant.0,
    c.append_separator-end.ensures.next,
    c.append_item-end.ensures.next,
    joined_len (codes ", ") (filled_item (written_literal (g.F.LiteralForm.literal c.args.form.now))) c.args.items.now c.loop-i.i c.index-items-i.result c.loop-i-test.true c.index-items-i.is,
  ),
  appended_next (codes ", ") (filled_item (written_literal (g.F.LiteralForm.literal c.args.form.now))) c.args.items.now c.loop-i.i c.index-items-i.result _ _ _ _ c.loop-i-test.true c.index-items-i.is c.loop-i.invariant.1
      c.append_separator-end.ensures.front c.append_item-end.ensures.front,
  omega (arith, c.loop-i.invariant.2, c.append_separator-end.auto.text, c.append_item-end.auto.text),
  known_step (g.F.LiteralForm.literal c.args.form.now) (g.F.LiteralForm.IsKnown c.args.form.now) item_values c.args.items.now c.loop-i.i c.index-items-i.result
      c.loop-i-test.true c.index-items-i.is c.loop-i.invariant.3 c.append_item-end.ensures.known,
)

pub returns-clause-known : goal.returns-clause-known
returns-clause-known g c =
    known_all (g.F.LiteralForm.literal c.args.form.now) (g.F.LiteralForm.IsKnown c.args.form.now) item_values c.args.items.now c.loop-i.i
    (omega (arith, c.loop-i-test.false)) c.loop-i.invariant.3
