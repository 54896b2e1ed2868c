use Rattle.std.proofs.Common.{sym, subst}
use Rattle.mysql_float_literal.proofs.WrittenLemmas.{IsWritten, written}
use Rattle.mysql_float_literal.proofs.literal.put_finite.Goals as goal

pub returns : goal.returns
returns c =
    let s = c.sign_and_size-negative in
    let p = c.put_layout in
    let w = subst (λ text. IsWritten text c.args.double) (sym p.ensures.text) (written s.result.0 s.result.1 c.args.double c.layout_of_double.result s.ensures.parts c.layout_of_double.ensures) in
    record { exact = w.exact; shape = w.shape; spelled = w.spelled; shortest = w.shortest; closest = w.closest; short = p.ensures.short }
