use Rattle.mysql_sql_text.proofs.TimeTextLemmas.{time_texts_are_read}
use Rattle.mysql_sql_text.proofs.laws.time_texts_are_read.Goals as goal

pub returns : goal.returns
returns c = record { read = time_texts_are_read }
