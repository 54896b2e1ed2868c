use Rattle.std.proofs.Common.{refl, ap₂, ◌∙◌, ◌∷◌, ◌+◌, drop, arith}
use Rattle.mysql_sql_text.specs.declared.numbers.TheConstants.{TWO_DIGITS}
use Rattle.mysql_sql_text.proofs.TwoBytesLemmas.{drop-set_two}
use Rattle.mysql_sql_text.proofs.PaddedLemmas.{two_digits-by_table}
use Rattle.mysql_sql_text.proofs.numbers.put_two_digits.Goals as goal

pub returns : goal.returns
returns c =
    let digits = two_digits-by_table TWO_DIGITS refl c.args.number (omega arith) in
    drop-set_two c.args.buffer.now c.args.at _ _ c.requires.within
    ∙ ap₂ (λ tens ones. tens ∷ ones ∷ drop (c.args.at + 2) c.args.buffer.now) digits.0 digits.1
