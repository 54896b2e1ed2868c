use Rattle.std.proofs.Common.{◌≡◌, None, arith, length}
use Rattle.std.specs.List.{position_or_len}
use Rattle.std.proofs.lemmas.Str.Pattern.{split_once_first}
use Rattle.mysql_bind_core.specs.OptionWords.{is_equals_sign}
use Rattle.mysql_bind_core.proofs.OptionWordLemmas.{no_sign}
use Rattle.mysql_bind_core.proofs.option_word.parts_at_equals_sign.Goals as goal

pub returns-in-None-clause-rest : goal.returns-in-None-clause-rest
returns-in-None-clause-rest c =
    let none : position_or_len is_equals_sign c.args.text.now ≡ length c.args.text.now = split_once_first 61 c.args.text.now None c.in-None.ensures.cases (omega arith) in
    no_sign is_equals_sign c.args.text.now (omega (arith, none))
