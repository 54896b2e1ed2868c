use Rattle.std.proofs.Common.{map, ◌≡◌, ◌∙◌, ◌+◌, ◌++◌, ◌∷◌, [], ap, subst, sym, drop, rules}
use Rattle.std.proofs.lemmas.List.{map-append}
use Rattle.std.proofs.lemmas.Result.{err_from_is_err_and}
use Rattle.std.specs.Prelude.{option_map, ok_or, ⊤}
use Rattle.mysql_wire_part.proofs.AnswerLemmas.{refusal_expected_too}
use Rattle.mysql_query_core.specs.Words.{usage, pair_of_word, pairs_of_words, word_bytes}
use Rattle.mysql_query_core.specs.WordErrors.{words_refusal, seen_pair}
use Rattle.mysql_query_core.proofs.WordLemmas.{one_pair_more, no_pair}
use Rattle.mysql_query_core.proofs.words.pairs_of_words.Goals as goal

pub returns-in_err-pair : goal.returns-in_err-pair
returns-in_err-pair c =
    let handed_on = err_from_is_err_and c.from_residual.result c.from_residual.ensures.1 in
    rw (handed_on.1, handed_on.2)
    (refusal_expected_too (ok_or (pair_of_word c.as_str.result.now) usage)
    (ok_or (pairs_of_words (word_bytes c.args.words.now)) usage) ⊤ ⊤ (words_refusal c.in_err-pair.field-0.0)
    (λ why refused. no_pair c.args.words.now c.loop-word.word-index c.word-item.result
    (map seen_pair c.loop-word.pairs.items) why c.loop-word-test.true c.word-item.is
    (rw c.as_str.ensures.value at refused) c.loop-word.invariant)
    (λ _. tt) c.in_err-pair.ensures)

pub loop-word-preserved : goal.loop-word-preserved
loop-word-preserved c =
    let words = c.args.words.now in
    let next = c.loop-word.word-index + 1 in
    let pushed : c.push.new.self.items ≡ c.loop-word.pairs.items ++ c.in_ok-pair.pair ∷ [] = search rules in
    subst (λ front. pairs_of_words (word_bytes words) ≡ option_map (λ rest. front ++ rest) (pairs_of_words (word_bytes (drop next words))))
    (sym (ap (map seen_pair) pushed ∙ map-append seen_pair c.loop-word.pairs.items (c.in_ok-pair.pair ∷ [])))
    (one_pair_more words c.loop-word.word-index c.word-item.result (map seen_pair c.loop-word.pairs.items) (seen_pair c.in_ok-pair.pair)
    c.loop-word-test.true c.word-item.is (rw c.as_str.ensures.value at c.in_ok-pair.ensures) c.loop-word.invariant)
