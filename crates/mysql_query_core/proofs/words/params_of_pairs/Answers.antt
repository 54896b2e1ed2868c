use Rattle.std.proofs.Common.{◌≡◌, ◌<◌, length, rules, subst, sym, true, false}
use Rattle.std.specs.List.{list_all, list_any}
use Rattle.std.specs.Prelude.{⊤}
use Rattle.mysql_values.specs.Answer.{IsAnswer}
use Rattle.mysql_params_core.specs.Given.{given}
use Rattle.mysql_query_core.specs.Words.{bound_query, is_nameless}
use Rattle.mysql_query_core.specs.WordErrors.{words_refusal, seen_pair}
use Rattle.mysql_query_core.proofs.WordLemmas.{pairs_by_position, pairs_of_both_kinds, pairs_by_name}
use Rattle.mysql_query_core.proofs.words.params_of_pairs.Goals as goal

pub returns-then-all_nameless : goal.returns-then-all_nameless
returns-then-all_nameless c =
    let ps = c.args.pairs.items in
    let some : 0 < length ps = search rules in
    let all : list_all (λ p. is_nameless (seen_pair p)) ps ≡ true = search rules in
    subst (λ command. IsAnswer (λ params. bound_query (given params)) words_refusal command ⊤ c.params_by_position.result)
    (sym (pairs_by_position ps some all)) c.params_by_position.ensures

pub returns-then-any_nameless : goal.returns-then-any_nameless
returns-then-any_nameless c =
    let ps = c.args.pairs.items in
    let some : 0 < length ps = search rules in
    let all : list_all (λ p. is_nameless (seen_pair p)) ps ≡ false = search rules in
    let any : list_any (λ p. is_nameless (seen_pair p)) ps ≡ true = search rules in
    pairs_of_both_kinds ps some all any

pub returns : goal.returns
returns c =
    let ps = c.args.pairs.items in
    let some : 0 < length ps = search rules in
    let all : list_all (λ p. is_nameless (seen_pair p)) ps ≡ false = search rules in
    let any : list_any (λ p. is_nameless (seen_pair p)) ps ≡ false = search rules in
    subst (λ command. IsAnswer (λ params. bound_query (given params)) words_refusal command ⊤ c.params_by_name.result)
    (sym (pairs_by_name ps some all any)) (rw c.deref-3.ensures.value at c.params_by_name.ensures)
