-- Words of the program.
use Rattle.std.proofs.Common.{◌≡◌, ◌∙◌, ℕ, ◌+◌, ◌<◌, Bool, true, false, List, [], ◌∷◌, ◌++◌, length, drop, get_or, map, refl, sym, ap, append_assoc, arith, inl, inr, Option, None, Some, Ok, Err, suc}
use Rattle.std.specs.Prelude.{String, string_bytes, ok_or, option_map, option_and_then}
use Rattle.std.specs.Global.{Global}
use Rattle.std.specs.List.{list_all, list_any, position_or_len}
use Rattle.std.proofs.lemmas.Bool.{cases_Bool, cond-true, cond-false}
use Rattle.std.proofs.Math.Seq.{drop-cons}
use Rattle.mysql_values.specs.declared.value.Value.{Value}
use Rattle.mysql_query_core.specs.Words.{WordsRefusal, usage, parts_of_word, parsed_value, pair_of_word, pairs_of_words, word_bytes, bound_query, is_nameless, command_made, given_by_name, command_of_pairs}
use Rattle.mysql_query_core.specs.WordErrors.{seen_pair}
use Rattle.mysql_params_core.specs.Given.{positional}
use Rattle.std.specs.Borrow.{Bor}
use Rattle.std.proofs.lemmas.List.Folds.{list_all-map}
use Rattle.mysql_params_core.proofs.MissingLemmas.{list_any-map}

-- if no element passes the test, none is found to pass
pub list_any-none : {X : Type 0} (p : X → Bool) (xs : List X) → position_or_len p xs ≡ length xs → list_any p xs ≡ false
list_any-none p [] h = refl
list_any-none p (x ∷ xs) h =
    elim (cases_Bool (p x)) [
      | inl e ↦ let v : 0 ≡ length (x ∷ xs) = rw e at h in absurd (omega (arith, v))
      | inr e ↦ let v : 1 + position_or_len p xs ≡ length (x ∷ xs) = rw e at h in rw e (list_any-none p xs (omega (arith, v)))
    ]

-- one word

ok_or-found : {X : Type 0} (o : Option X) (x : X) → ok_or o usage ≡ Ok x → o ≡ Some x
ok_or-found None x h = absurd cc
ok_or-found (Some y) x h = cc

ok_or-refused : {X : Type 0} (o : Option X) (why : WordsRefusal) → ok_or o usage ≡ Err why → (o ≡ None) × (why ≡ usage)
ok_or-refused None why h = (refl, cc)
ok_or-refused (Some y) why h = absurd cc

pub pair_found : (word name text : List ℕ) (value : Value) → parts_of_word word ≡ Some (name, text)
    → ok_or (parsed_value text) usage ≡ Ok value → ok_or (pair_of_word word) usage ≡ Ok (name, value)
pair_found word name text value e h =
    ap (λ parts. ok_or (option_and_then (λ p. option_map (λ v. (p.0, v)) (parsed_value p.1)) parts) usage) e
    ∙ ap (λ o. ok_or (option_map (λ v. (name, v)) o) usage) (ok_or-found (parsed_value text) value h)

pub pair_refused : (word name text : List ℕ) (why : WordsRefusal) → parts_of_word word ≡ Some (name, text)
    → ok_or (parsed_value text) usage ≡ Err why → ok_or (pair_of_word word) usage ≡ Err why
pair_refused word name text why e h =
    let refused_so = ok_or-refused (parsed_value text) why h in
    ap (λ parts. ok_or (option_and_then (λ p. option_map (λ v. (p.0, v)) (parsed_value p.1)) parts) usage) e
    ∙ ap (λ o. ok_or (option_map (λ v. (name, v)) o) usage) refused_so.0 ∙ ap Err (sym refused_so.1)

-- one word after another

pub drop_index : {X : Type 0} (xs : List X) (i : ℕ) (d : X) → i < length xs → drop i xs ≡ get_or xs i d ∷ drop (i + 1) xs
drop_index xs i d h =
    let next : suc i ≡ i + 1 = omega arith in
    drop-cons xs i d h ∙ ap (λ n. get_or xs i d ∷ drop n xs) next

-- pairs before those that are read
abbrev pub before_pairs : List (List ℕ × Value) → Option (List (List ℕ × Value)) → Option (List (List ℕ × Value))
before_pairs front back = option_map (λ rest. front ++ rest) back

pub before_pairs-push : (front : List (List ℕ × Value)) (pair : List ℕ × Value) (back : Option (List (List ℕ × Value)))
    → before_pairs front (option_map (λ rest. pair ∷ rest) back) ≡ before_pairs (front ++ pair ∷ []) back
before_pairs-push front pair None = refl
before_pairs-push front pair (Some rest) = ap Some (sym (append_assoc front (pair ∷ []) rest))

pub one_pair_more : (words : List (String Global)) (i : ℕ) (word : String Global) (front : List (List ℕ × Value)) (pair : List ℕ × Value)
    → i < length words → word ≡ get_or words i word → ok_or (pair_of_word (string_bytes word)) usage ≡ Ok pair
    → pairs_of_words (word_bytes words) ≡ before_pairs front (pairs_of_words (word_bytes (drop i words)))
    → pairs_of_words (word_bytes words) ≡ before_pairs (front ++ pair ∷ []) (pairs_of_words (word_bytes (drop (i + 1) words)))
one_pair_more words i word front pair below at found so_far =
    so_far
    ∙ ap (λ ws. before_pairs front (pairs_of_words (word_bytes ws))) (drop_index words i word below)
    ∙ ap (λ w. before_pairs front (pairs_of_words (string_bytes w ∷ word_bytes (drop (i + 1) words)))) (sym at)
    ∙ ap (λ o. before_pairs front (option_and_then (λ p. option_map (λ pairs. p ∷ pairs) (pairs_of_words (word_bytes (drop (i + 1) words)))) o))
    (ok_or-found (pair_of_word (string_bytes word)) pair found)
    ∙ before_pairs-push front pair (pairs_of_words (word_bytes (drop (i + 1) words)))

pub no_pair : (words : List (String Global)) (i : ℕ) (word : String Global) (front : List (List ℕ × Value)) (why : WordsRefusal)
    → i < length words → word ≡ get_or words i word → ok_or (pair_of_word (string_bytes word)) usage ≡ Err why
    → pairs_of_words (word_bytes words) ≡ before_pairs front (pairs_of_words (word_bytes (drop i words)))
    → ok_or (pairs_of_words (word_bytes words)) usage ≡ Err why
no_pair words i word front why below at refused so_far =
    let refused_so = ok_or-refused (pair_of_word (string_bytes word)) why refused in
    let none : pairs_of_words (word_bytes words) ≡ None =
    so_far
    ∙ ap (λ ws. before_pairs front (pairs_of_words (word_bytes ws))) (drop_index words i word below)
    ∙ ap (λ w. before_pairs front (pairs_of_words (string_bytes w ∷ word_bytes (drop (i + 1) words)))) (sym at)
    ∙ ap (λ o. before_pairs front (option_and_then (λ p. option_map (λ pairs. p ∷ pairs) (pairs_of_words (word_bytes (drop (i + 1) words)))) o)) refused_so.0 in
    ap (λ o. ok_or o usage) none ∙ ap Err (sym refused_so.1)

-- pairs

nameless_pairs : (ps : List (Bor (List ℕ) × Value)) → list_all is_nameless (map seen_pair ps) ≡ list_all (λ p. is_nameless (seen_pair p)) ps
nameless_pairs ps = list_all-map is_nameless seen_pair ps

any_nameless_pair : (ps : List (Bor (List ℕ) × Value)) → list_any is_nameless (map seen_pair ps) ≡ list_any (λ p. is_nameless (seen_pair p)) ps
any_nameless_pair ps = list_any-map is_nameless seen_pair ps

second-seen_pair : (ps : List (Bor (List ℕ) × Value)) → map (λ p. p.1) (map seen_pair ps) ≡ map (λ p. p.1) ps
second-seen_pair [] = refl
second-seen_pair (p ∷ ps) = ap (λ vs. p.1 ∷ vs) (second-seen_pair ps)

pub pairs_by_position : (ps : List (Bor (List ℕ) × Value)) → 0 < length ps → list_all (λ p. is_nameless (seen_pair p)) ps ≡ true
    → command_of_pairs (map seen_pair ps) ≡ Ok (bound_query (positional (map (λ p. p.1) ps)))
pairs_by_position [] some all = absurd (omega arith)
pairs_by_position (p ∷ ps) some all =
    cond-true (list_all is_nameless (map seen_pair (p ∷ ps))) _ _ (nameless_pairs (p ∷ ps) ∙ all)
    ∙ ap (λ vs. Ok (bound_query (positional vs))) (second-seen_pair (p ∷ ps))

pub pairs_of_both_kinds : (ps : List (Bor (List ℕ) × Value)) → 0 < length ps → list_all (λ p. is_nameless (seen_pair p)) ps ≡ false
    → list_any (λ p. is_nameless (seen_pair p)) ps ≡ true → command_of_pairs (map seen_pair ps) ≡ Err usage
pairs_of_both_kinds [] some all any = absurd (omega arith)
pairs_of_both_kinds (p ∷ ps) some all any =
    cond-false (list_all is_nameless (map seen_pair (p ∷ ps))) _ _ (nameless_pairs (p ∷ ps) ∙ all)
    ∙ cond-true (list_any is_nameless (map seen_pair (p ∷ ps))) _ _ (any_nameless_pair (p ∷ ps) ∙ any)

pub pairs_by_name : (ps : List (Bor (List ℕ) × Value)) → 0 < length ps → list_all (λ p. is_nameless (seen_pair p)) ps ≡ false
    → list_any (λ p. is_nameless (seen_pair p)) ps ≡ false
    → command_of_pairs (map seen_pair ps) ≡ command_made (given_by_name (map seen_pair ps))
pairs_by_name [] some all any = absurd (omega arith)
pairs_by_name (p ∷ ps) some all any =
    cond-false (list_all is_nameless (map seen_pair (p ∷ ps))) _ _ (nameless_pairs (p ∷ ps) ∙ all)
    ∙ cond-false (list_any is_nameless (map seen_pair (p ∷ ps))) _ _ (any_nameless_pair (p ∷ ps) ∙ any)
