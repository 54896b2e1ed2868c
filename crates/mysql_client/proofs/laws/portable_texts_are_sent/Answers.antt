use Rattle.mysql_client.proofs.SentLemmas as lemmas
use Rattle.mysql_client.proofs.laws.portable_texts_are_sent.Goals as goal

pub returns : goal.returns
returns c = record { sent = lemmas.sent }
