use Rattle.mysql_steady_text.proofs.SeenLemmas.{text_seen}
use Rattle.mysql_steady_text.proofs.laws.guarded.guarded_texts_over_sets.Goals as goal

pub returns : goal.returns
returns c = λ set mode query text ts literals client h q s a e. text_seen set client mode query text ts literals h q s a e
