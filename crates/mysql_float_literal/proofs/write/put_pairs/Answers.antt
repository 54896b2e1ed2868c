use Rattle.std.proofs.Common.{◌≡◌, ◌+◌, ◌-◌, ◌++◌, length, take, sym, ap, ◌∙◌, arith}
use Rattle.std.proofs.lemmas.Fmt.{length-decimal-le}
use Rattle.std.proofs.lemmas.Slice.{take-put_mid}
use borrow.Rule.Slice.PartMut.{mid_of, mid_len}
use Rattle.mysql_sql_text.proofs.PaddedLemmas.{last_digits-padded}
use Rattle.mysql_float_literal.specs.WrittenParts.{padded}
use Rattle.mysql_float_literal.proofs.PaddedLemmas.{padded_length, padded_is}
use Rattle.mysql_float_literal.proofs.write.put_pairs.Goals as goal

pub fill_padded-requires : goal.fill_padded-requires
fill_padded-requires c =
    let a = c.args in
    let long = mid_len a.at (a.at + a.width) a.out.now (omega arith) in
    omega (arith, long, length-decimal-le a.width a.n c.requires.fits.0 c.requires.fits.1 (omega arith))

pub returns : goal.returns
returns c =
    let a = c.args in
    let long : length (mid_of a.at (a.at + a.width - a.at) a.out.now) ≡ a.width = mid_len a.at (a.at + a.width) a.out.now (omega arith) ∙ omega arith in
    let fits = length-decimal-le a.width a.n c.requires.fits.0 c.requires.fits.1 (omega arith) in
    let filled : c.fill_padded.new.buffer ≡ padded a.width a.n =
    c.fill_padded.ensures ∙ (ap (λ w. Rattle.mysql_sql_text.specs.LiteralText.padded w a.n) long ∙ (sym (last_digits-padded a.width a.n (omega arith) fits) ∙ sym (padded_is a.width a.n))) in
    take-put_mid a.at (a.at + a.width - a.at) a.out.now c.fill_padded.new.buffer (a.at + a.width) (omega (arith, ap length filled, padded_length a.width a.n)) (omega arith)
    ∙ ap (λ d. take a.at a.out.now ++ d) filled
