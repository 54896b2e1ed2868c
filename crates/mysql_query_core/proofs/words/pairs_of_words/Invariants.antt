use Rattle.std.proofs.Common.{◌≡◌, ◌++◌, drop, map}
use Rattle.std.specs.Prelude.{option_map}
use Rattle.mysql_query_core.specs.Words.{pairs_of_words, word_bytes}
use Rattle.mysql_query_core.specs.WordErrors.{seen_pair}
use Rattle.mysql_query_core.proofs.words.pairs_of_words.Given as goal

-- what is found of all words is what was found, and before what is left to find
abbrev pub invariant-loop-word : goal.invariant-loop-word
invariant-loop-word l =
    pairs_of_words (word_bytes l.words)
    ≡ option_map (λ rest. map seen_pair l.pairs.items ++ rest) (pairs_of_words (word_bytes (drop l.word-index l.words)))
