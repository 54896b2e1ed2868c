use Rattle.mysql_steady_text.proofs.BothModesTextLemmas.{said_in_both}
use Rattle.mysql_steady_text.proofs.SteadyTextLemmas.{said_in}
use Rattle.mysql_steady_text.proofs.laws.anywhere.contents_of_steady_texts.Goals as goal

pub returns : goal.returns
returns c = record { steady = said_in; both_modes = said_in_both }
