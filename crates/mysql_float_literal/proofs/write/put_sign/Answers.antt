use Rattle.std.proofs.Common.{◌<◌, length, sym, ap, ◌∙◌, arith}
use Rattle.std.specs.Fmt.{sign_text}
use Rattle.mysql_float_literal.proofs.PaddedLemmas.{front_set}
use Rattle.mysql_float_literal.proofs.write.put_sign.Goals as goal

pub returns-then-negative-clause-text : goal.returns-then-negative-clause-text
returns-then-negative-clause-text c =
    let within : 0 < length c.args.out.now = omega arith in
    front_set c.args.out.now 0 45 within ∙ ap sign_text (sym c.if-negative.true)
