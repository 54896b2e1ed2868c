use Rattle.mysql_float_literal.proofs.PaddedLemmas.{all_parts}
use Rattle.mysql_float_literal.proofs.write.put_layout.Goals as goal

pub returns-clause-text : goal.returns-clause-text
returns-clause-text c =
    all_parts c.args.negative c.args.layout c.requires.exponent_fits.0 _ _ _ _ _ c.put_sign-start.ensures.text c.put_padded.ensures c.put_fraction-end.ensures.text c.put_mark-mark.ensures.text c.put_padded-2.ensures
