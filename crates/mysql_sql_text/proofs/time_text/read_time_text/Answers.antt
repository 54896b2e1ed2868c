use Rattle.mysql_sql_text.proofs.TimeTextLemmas.{read-IsTimeText, unread-IsTimeText}
use Rattle.mysql_sql_text.proofs.time_text.read_time_text.Goals as goal

pub returns-clause-reads : goal.returns-clause-reads
returns-clause-reads c = read-IsTimeText c.args.text.now c.read_signed.result c.read_signed.ensures.exact

pub returns-clause-none : goal.returns-clause-none
returns-clause-none c = unread-IsTimeText c.args.text.now c.read_signed.result c.read_signed.ensures.exact
