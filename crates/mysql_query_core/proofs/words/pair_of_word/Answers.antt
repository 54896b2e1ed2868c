use Rattle.std.specs.Prelude.{ok_or, ⊤}
use Rattle.std.proofs.lemmas.Result.{err_from_is_err_and}
use Rattle.mysql_wire_part.proofs.AnswerLemmas.{refusal_expected_too}
use Rattle.mysql_query_core.specs.Words.{usage, parsed_value, pair_of_word}
use Rattle.mysql_query_core.specs.WordErrors.{words_refusal}
use Rattle.mysql_query_core.proofs.WordLemmas.{pair_found, pair_refused}
use Rattle.mysql_query_core.proofs.words.pair_of_word.Goals as goal

pub returns-in_ok-value-in-Some : goal.returns-in_ok-value-in-Some
returns-in_ok-value-in-Some c =
    rw (c.as_bytes-in-Some.ensures.value)
    (pair_found c.args.word.now c.in-Some.name.now c.in-Some.text.now c.in_ok-value-in-Some.value c.in-Some.ensures.found
    (rw c.as_bytes.ensures.value at c.in_ok-value-in-Some.ensures))

pub returns-in_err-value-in-Some : goal.returns-in_err-value-in-Some
returns-in_err-value-in-Some c =
    let handed_on = err_from_is_err_and c.from_residual.result c.from_residual.ensures.1 in
    rw (handed_on.1, handed_on.2)
    (refusal_expected_too (ok_or (parsed_value c.as_bytes.result.now) usage)
    (ok_or (pair_of_word c.args.word.now) usage) ⊤ ⊤ (words_refusal c.in_err-value-in-Some.field-0.0)
    (λ why refused. pair_refused c.args.word.now c.in-Some.name.now c.in-Some.text.now why
    c.in-Some.ensures.found (rw c.as_bytes.ensures.value at refused))
    (λ _. tt) c.in_err-value-in-Some.ensures)
