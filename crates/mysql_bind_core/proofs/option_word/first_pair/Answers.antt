use Rattle.mysql_bind_core.proofs.OptionWordLemmas.{parts_found, parts_missing}
use Rattle.mysql_bind_core.proofs.option_word.first_pair.Goals as goal

pub returns-in-Some : goal.returns-in-Some
returns-in-Some c = parts_found _ c.args.pairs.now c.in-Some.at c.in-Some.ensures

pub returns-in-None : goal.returns-in-None
returns-in-None c = parts_missing _ c.args.pairs.now c.in-None.ensures
