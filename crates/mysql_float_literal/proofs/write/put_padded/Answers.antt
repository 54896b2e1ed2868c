use Rattle.std.proofs.Common.{◌≡◌, ◌+◌, ◌^◌, ◌<◌, ◌++◌, length, take, set, sym, ap, ◌∙◌, subst, arith}
use Rattle.mysql_float_literal.specs.WrittenParts.{padded}
use Rattle.mysql_float_literal.proofs.PaddedLemmas.{front_set, padded_one}
use Rattle.mysql_float_literal.proofs.write.put_padded.Goals as goal

pub returns-in-1 : goal.returns-in-1
returns-in-1 c =
    let a = c.args in
    let within : a.at < length a.out.now = omega arith in
    subst (λ w. take (a.at + w) (set a.out.now a.at (48 + a.n)) ≡ take a.at a.out.now ++ padded w a.n) (sym c.in-1.is)
    (front_set a.out.now a.at (48 + a.n) within ∙ ap (λ d. take a.at a.out.now ++ d) (padded_one a.n (subst (λ w. a.n < 10 ^ w) c.in-1.is c.requires.fits.1)))
