use Rattle.mysql_steady_text.proofs.OneTextLemmas.{one_guarded_text}
use Rattle.mysql_steady_text.proofs.laws.guarded.one_guarded_text.Goals as goal

pub returns : goal.returns
returns c = one_guarded_text
