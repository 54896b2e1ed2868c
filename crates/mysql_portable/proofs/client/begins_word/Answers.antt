use Rattle.mysql_portable.proofs.ClientTextLemmas.{begins_word-short}
use Rattle.mysql_portable.proofs.client.begins_word.Goals as goal

pub returns-then-text-i-clause-value : goal.returns-then-text-i-clause-value
returns-then-text-i-clause-value c =
    begins_word-short c.args.word.now c.args.text.now c.loop-i.i c.loop-i-test.true c.if-text-i.true c.loop-i.invariant.0
