use Rattle.std.proofs.Common.{arith}
use Rattle.mysql_flat_params.proofs.KeywordLemmas.{word_found, word_passed}
use Rattle.mysql_flat_params.proofs.keywords.word_of.Goals as goal

pub returns-then-eq : goal.returns-then-eq
returns-then-eq c =
    word_found c.args.words.now c.loop-word.word-index _ c.args.text.now _ c.loop-word-test.true c.loop-word.invariant c.eq.result c.eq.ensures c.if-eq.true

pub loop-word-preserved : goal.loop-word-preserved
loop-word-preserved c =
    word_passed c.args.words.now c.loop-word.word-index _ c.args.text.now _ c.loop-word-test.true c.loop-word.invariant c.eq.result c.eq.ensures c.if-eq.false
    _ (omega arith)
