-- How many statements a script has, as clients cut it.
use Rattle.std.specs.Prelude.{Bool, codes}
use Rattle.std.proofs.Common.{◌≡◌, ◌+◌, ◌++◌, ◌==◌, ℕ, true, false, cond, List, [], ◌∷◌, arith, length, map, inl, inr, refl, ap, ◌∙◌, append_assoc}
use Rattle.std.specs.Str.{byte}
use Rattle.std.proofs.lemmas.Bool.{cases_Bool}
use Rattle.mysql_named_params.specs.Bytes.{newline}
use Rattle.mysql_named_params.specs.Tokens.{Token, HashComment, DashComment, Plain}
use Rattle.mysql_portable.specs.Statements.{in_first, statements}
use Rattle.mysql_portable.proofs.StatementLemmas.{length-in_first}
use Rattle.mysql_bind_core.specs.ScriptTokens.{count_of_statements, has_newline, script_tokens, semicolon, statement_tokens, then_newline, tokens_of_statements, with_newline, word_tokens}

-- as many statements as these tokens have
abbrev count : List Token → ℕ
count ts = length (statements ts)

-- a byte before others: one statement more, if it is `;`
plain_count : (b : ℕ) (ts us : List Token) (n : ℕ) → count ts ≡ count us + n → count (Plain b ∷ ts) ≡ count (Plain b ∷ us) + n
plain_count b ts us n e = go (b == byte ";")
  where
    go : (s : Bool) → length (cond s ([] ∷ statements ts) (in_first (Plain b) (statements ts))) ≡ length (cond s ([] ∷ statements us) (in_first (Plain b) (statements us))) + n
    go true = omega (arith, e)
    go false = omega (arith, e, length-in_first (Plain b) (statements ts), length-in_first (Plain b) (statements us))

first_count : (t : Token) (ts us : List Token) (n : ℕ) → count ts ≡ count us + n →
    length (in_first t (statements ts)) ≡ length (in_first t (statements us)) + n
first_count t ts us n e = omega (arith, e, length-in_first t (statements ts), length-in_first t (statements us))

token_count : (t : Token) (ts us : List Token) (n : ℕ) → count ts ≡ count us + n → count (t ∷ ts) ≡ count (t ∷ us) + n
token_count (Plain b) ts us n e = plain_count b ts us n e
token_count t ts us n e = first_count t ts us n e

-- a `;` cuts
cut_count : (xs ys : List Token) → count (xs ++ Plain semicolon ∷ ys) ≡ count xs + count ys
cut_count [] ys = omega arith
cut_count (x ∷ xs) ys = token_count x (xs ++ Plain semicolon ∷ ys) xs (count ys) (cut_count xs ys)

-- a newline doesn't
last_count : (t : Token) → count (then_newline t) ≡ count (t ∷ [])
last_count (HashComment tail) =
    elim (cases_Bool (has_newline tail)) [
      | inl e ↦ rw e refl
      | inr e ↦ rw e refl
    ]
last_count (DashComment gap tail) =
    elim (cases_Bool (has_newline tail)) [
      | inl e ↦ rw e refl
      | inr e ↦ rw e refl
    ]
last_count (Plain b) = go (b == byte ";")
  where
    go : (s : Bool) → length (cond s ([] ∷ statements (Plain newline ∷ [])) (in_first (Plain b) (statements (Plain newline ∷ [])))) ≡ length (cond s ([] ∷ statements []) (in_first (Plain b) (statements [])))
    go true = refl
    go false = refl
last_count t = refl

newline_count : (ts : List Token) → count (with_newline ts) ≡ count ts
newline_count [] = refl
newline_count (t ∷ []) = last_count t
newline_count (t ∷ u ∷ ts) = token_count t (with_newline (u ∷ ts)) (u ∷ ts) 0 (omega (arith, newline_count (u ∷ ts))) ∙ omega arith

-- a statement before others
statement_count : (ts more : List Token) → count (statement_tokens ts ++ more) ≡ count ts + count more
statement_count ts more =
    ap count (append_assoc (with_newline ts) (Plain semicolon ∷ Plain newline ∷ []) more) ∙ cut_count (with_newline ts) (Plain newline ∷ more)
    ∙ omega (arith, newline_count ts, length-in_first (Plain newline) (statements more))

statements_count : (lists : List (List Token)) (more : List Token) → count (tokens_of_statements lists ++ more) ≡ count_of_statements lists + count more
statements_count [] more = omega arith
statements_count (ts ∷ lists) more =
    ap count (append_assoc (statement_tokens ts) (tokens_of_statements lists) more) ∙ statement_count ts (tokens_of_statements lists ++ more)
    ∙ omega (arith, statements_count lists more)

last_alone : (bytes : List ℕ) → count (map (λ b. Plain b) bytes) ≡ 1 → count (word_tokens bytes) ≡ 2
last_alone bytes one =
    ap count (sym-nil (word_tokens bytes)) ∙ statement_count (map (λ b. Plain b) bytes) [] ∙ omega (arith, one)
  where
    sym-nil : (xs : List Token) → xs ≡ xs ++ []
    sym-nil [] = refl
    sym-nil (x ∷ xs) = ap (λ ys. x ∷ ys) (sym-nil xs)

pub count_of_script : (transaction : Bool) (lists : List (List Token)) →
    count (script_tokens transaction lists) ≡ cond transaction 2 0 + (count_of_statements lists + 1)
count_of_script true lists =
    ap count (append_assoc (word_tokens (codes "START TRANSACTION")) (tokens_of_statements lists) (word_tokens (codes "COMMIT")))
    ∙ statement_count (map (λ b. Plain b) (codes "START TRANSACTION")) (tokens_of_statements lists ++ word_tokens (codes "COMMIT"))
    ∙ omega (arith, begun, statements_count lists (word_tokens (codes "COMMIT")), last_alone (codes "COMMIT") refl)
  where
    begun : count (map (λ b. Plain b) (codes "START TRANSACTION")) ≡ 1
    begun = refl
count_of_script false lists = statements_count lists [] ∙ omega arith
