use Rattle.std.proofs.Common.{refl, arith}
use Rattle.mysql_binding.specs.LiteralForm.{written_literal}
use Rattle.mysql_binding.specs.MeasuredText.{IsOfFields}
use Rattle.mysql_fragments.specs.BorrowedText.{borrowed_text, borrowed_values}
use Rattle.mysql_fragments.proofs.FilledLemmas.{known_all, known_step}
use Rattle.mysql_fragments.proofs.JoinedLemmas.{texts_fit, texts_len}
use Rattle.mysql_fragments.proofs.borrowed.borrowed_len.Goals as goal

pub returns-in_err-len-clause-too_long : goal.returns-in_err-len-clause-too_long
returns-in_err-len-clause-too_long g c = λ none.
    omega (
      arith,
      c.loop-fragment.invariant.0,
      c.in_err-len.ensures.too_long refl,
      texts_fit (borrowed_text (written_literal (g.F.LiteralForm.literal c.args.form.now))) c.args.fragments.now c.loop-fragment.fragment-index c.fragment-item.result
          c.loop-fragment-test.true c.fragment-item.is,
    )

pub loop-fragment-preserved : goal.loop-fragment-preserved
loop-fragment-preserved g c = (
  omega (
    arith,
    c.loop-fragment.invariant.0,
    c.in_ok-len.ensures.len,
    texts_len (borrowed_text (written_literal (g.F.LiteralForm.literal c.args.form.now))) c.args.fragments.now c.loop-fragment.fragment-index c.fragment-item.result
        c.loop-fragment-test.true c.fragment-item.is,
  ),
  known_step (g.F.LiteralForm.literal c.args.form.now) IsOfFields borrowed_values c.args.fragments.now c.loop-fragment.fragment-index c.fragment-item.result
      c.loop-fragment-test.true c.fragment-item.is c.loop-fragment.invariant.1 c.in_ok-len.ensures.known,
)

pub returns-clause-known : goal.returns-clause-known
returns-clause-known g c =
    known_all (g.F.LiteralForm.literal c.args.form.now) IsOfFields borrowed_values c.args.fragments.now c.loop-fragment.fragment-index
    (omega (arith, c.loop-fragment-test.false)) c.loop-fragment.invariant.1
