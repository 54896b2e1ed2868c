use Rattle.mysql_steady_text.proofs.OneTextLemmas.{one_steady_text, one_text_in_both_modes}
use Rattle.mysql_steady_text.proofs.laws.one_steady_text.Goals as goal

pub returns : goal.returns
returns c = record { steady = one_steady_text; both_modes = one_text_in_both_modes }
