use Rattle.mysql_client.proofs.BareLemmas as lemmas
use Rattle.mysql_client.proofs.laws.texts_without_comments_are_sent.Goals as goal

pub returns : goal.returns
returns c = record { sent = lemmas.bare_sent }
