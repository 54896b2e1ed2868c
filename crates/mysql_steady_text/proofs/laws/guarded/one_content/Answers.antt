use Rattle.mysql_steady_text.proofs.OneContentLemmas as lemmas
use Rattle.mysql_steady_text.proofs.laws.guarded.one_content.Goals as goal

pub returns : goal.returns
returns c = lemmas.one_content
