-- A script of texts that a client sends as they are is sent as it is: nothing that is found of
-- FoundInClient.antt comes of the lines between them.
use Rattle.std.specs.Prelude.{Bool, codes, ⊤}
use Rattle.std.specs.List.{list_any}
use Rattle.std.proofs.Common.{◌≡◌, ◌++◌, ◌==◌, ◌||◌, ℕ, true, false, List, [], ◌∷◌, map, None, inl, inr, refl, sym, ap, ◌∙◌, subst, append-nil, append_assoc}
use Rattle.std.proofs.lemmas.Bool.{cases_Bool}
use Rattle.std.proofs.lemmas.List.Folds.{list_any-append}
use Rattle.mysql_named_params.specs.Bytes.{dash, hash, newline}
use Rattle.mysql_named_params.specs.Tokens.{Token, OnTokens, text_of, QuotedString, QuotedIdentifier, HashComment, DashComment, BlockComment, Name, Mark, Plain}
use Rattle.mysql_named_params.proofs.TokenListLemmas.{one_token_list}
use Rattle.mysql_portable.specs.Client.{HoldNoOpener}
use Rattle.mysql_portable.specs.FirstUnportableInClient.{AreSentAsTheyAre, AreSentAsTheyAreFrom, IsPortableInClient}
use Rattle.mysql_portable.specs.FoundInClient.{begins_statement, begins_line, found_in_client, is_client_word}
use Rattle.mysql_binding.specs.Replaced.{AreTokensOf}
use Rattle.mysql_binding.proofs.SentLiteralLemmas.{AreSentBefore-append, line_after-append, statement_after-append}
use Rattle.mysql_binding.proofs.SentTextLemmas.{AreSentBefore, found_moves, line_after, no_word_found, none_from, none_parts, statement_after, up_to_line}
use Rattle.mysql_bind_core.specs.Requests.{IsReadIn}
use Rattle.mysql_bind_core.specs.declared.request.Portability.TheVariants as portability
use Rattle.mysql_bind_core.specs.declared.request.Request.{Request}
use Rattle.mysql_bind_core.specs.declared.row.Row.{Row}
use Rattle.mysql_bind_core.specs.Scripts.{AreStatements, AreWritten, IsScript}
use Rattle.mysql_bind_core.specs.ScriptTokens.{IsSentByClient, has_newline, script_tokens, semicolon, statement_tokens, then_newline, tokens_of_statements, with_newline, word_tokens}
use Rattle.mysql_bind_core.proofs.LineLemmas.{newline_then}
use Rattle.mysql_bind_core.proofs.ScriptTokenLemmas as tokens

-- ---- a line

newline_found : (statement line : Bool) (more : List ℕ) → found_in_client statement line (Plain newline) more ≡ None
newline_found statement line more = no_word_found statement line newline more refl

pub semicolon_found : (statement line : Bool) (more : List ℕ) → found_in_client statement line (Plain semicolon) more ≡ None
semicolon_found statement line more = no_word_found statement line semicolon more refl

abbrev has_zero : List ℕ → Bool
has_zero bytes = list_any (λ b. b == 0) bytes

-- a comment takes the newline
comment_zero : (front tail : List ℕ) → has_zero (front ++ tail) ≡ false → has_zero (front ++ (tail ++ newline ∷ [])) ≡ false
comment_zero front tail h =
    list_any-append (λ b. b == 0) front (tail ++ newline ∷ [])
    ∙ (ap (λ s. has_zero front || s) (list_any-append (λ b. b == 0) tail (newline ∷ []) ∙ or_false (has_zero tail))
    ∙ (sym (list_any-append (λ b. b == 0) front tail) ∙ h))
  where
    or_false : (a : Bool) → (a || false) ≡ a
    or_false true = refl
    or_false false = refl

hash_sent : (more tail : List ℕ) (statement line : Bool) → found_in_client statement line (HashComment tail) [] ≡ None →
    AreSentBefore more statement line (then_newline (HashComment tail))
hash_sent more tail statement line h =
    let zero = (none_parts (has_zero (hash ∷ tail)) _ _ h).0 in
    elim (cases_Bool (has_newline tail)) [
      | inl e ↦ rw e (none_from (has_zero (hash ∷ tail)) _ _ zero refl, (newline_found statement true more, tt))
      | inr e ↦ rw e (none_from (has_zero (hash ∷ (tail ++ newline ∷ []))) _ _ (comment_zero (hash ∷ []) tail zero) refl, tt)
    ]

dash_sent : (more : List ℕ) (gap : ℕ) (tail : List ℕ) (statement line : Bool) → found_in_client statement line (DashComment gap tail) [] ≡ None →
    AreSentBefore more statement line (then_newline (DashComment gap tail))
dash_sent more gap tail statement line h =
    let zero = (none_parts (has_zero (dash ∷ dash ∷ gap ∷ tail)) _ _ h).0 in
    elim (cases_Bool (has_newline tail)) [
      | inl e ↦ rw e (none_from (has_zero (dash ∷ dash ∷ gap ∷ tail)) _ _ zero refl, (newline_found statement true more, tt))
      | inr e ↦ rw e (none_from (has_zero (dash ∷ dash ∷ gap ∷ (tail ++ newline ∷ []))) _ _ (comment_zero (dash ∷ dash ∷ gap ∷ []) tail zero) refl, tt)
    ]

last_sent : (more : List ℕ) (t : Token) (statement line : Bool) → found_in_client statement line t [] ≡ None →
    AreSentBefore more statement line (then_newline t)
last_sent more (HashComment tail) statement line h = hash_sent more tail statement line h
last_sent more (DashComment gap tail) statement line h = dash_sent more gap tail statement line h
last_sent more t statement line h =
    (found_moves statement line 0 t (up_to_line _ [] more) h, (newline_found (begins_statement statement t) (begins_line line t) more, tt))

pub line_sent : (more : List ℕ) (ts : List Token) (statement line : Bool) → AreSentAsTheyAreFrom statement line ts →
    AreSentBefore more statement line (with_newline ts)
line_sent more [] statement line h = (newline_found statement line more, tt)
line_sent more (t ∷ []) statement line h = last_sent more t statement line h.0
line_sent more (t ∷ u ∷ ts) statement line h = (
  subst (λ x. found_in_client statement line t x ≡ None) (sym (newline_then (u ∷ ts) more)) (found_moves statement line 0 t (up_to_line _ (text_of (u ∷ ts)) more) h.0),
  line_sent more (u ∷ ts) (begins_statement statement t) (begins_line line t) h.1,
)

-- ---- a statement

abbrev ends : List Token
ends = Plain semicolon ∷ Plain newline ∷ []

statement_sent : (ts : List Token) (more : List ℕ) → AreSentAsTheyAre ts → AreSentBefore more true true (statement_tokens ts)
statement_sent ts more h =
    AreSentBefore-append (with_newline ts) ends more true true (line_sent _ ts true true h)
    (semicolon_found (statement_after true (with_newline ts)) (line_after true (with_newline ts)) _, (newline_found true true more, tt))

statement_ends : (ts : List Token) → statement_after true (statement_tokens ts) ≡ true
statement_ends ts = statement_after-append (with_newline ts) ends true

line_ends : (ts : List Token) → line_after true (statement_tokens ts) ≡ true
line_ends ts = line_after-append (with_newline ts) ends true

-- a statement before others
then_sent : (ts us : List Token) (more : List ℕ) → AreSentAsTheyAre ts → AreSentBefore more true true us →
    AreSentBefore more true true (statement_tokens ts ++ us)
then_sent ts us more h k =
    AreSentBefore-append (statement_tokens ts) us more true true (statement_sent ts _ h)
    (subst (λ s. AreSentBefore more s (line_after true (statement_tokens ts)) us) (sym (statement_ends ts))
    (subst (λ l. AreSentBefore more true l us) (sym (line_ends ts)) k))

-- ---- comments

pub opener_append : (xs ys : List Token) → HoldNoOpener xs → HoldNoOpener ys → HoldNoOpener (xs ++ ys)
opener_append [] ys h k = k
opener_append (BlockComment tail ∷ xs) ys h k = (h.0, opener_append xs ys h.1 k)
opener_append (QuotedString quote tail ∷ xs) ys h k = opener_append xs ys h k
opener_append (QuotedIdentifier tail ∷ xs) ys h k = opener_append xs ys h k
opener_append (HashComment tail ∷ xs) ys h k = opener_append xs ys h k
opener_append (DashComment gap tail ∷ xs) ys h k = opener_append xs ys h k
opener_append (Name name ∷ xs) ys h k = opener_append xs ys h k
opener_append (Mark ∷ xs) ys h k = opener_append xs ys h k
opener_append (Plain b ∷ xs) ys h k = opener_append xs ys h k

last_opener : (t : Token) → HoldNoOpener (t ∷ []) → HoldNoOpener (then_newline t)
last_opener (HashComment tail) h =
    elim (cases_Bool (has_newline tail)) [
      | inl e ↦ rw e tt
      | inr e ↦ rw e tt
    ]
last_opener (DashComment gap tail) h =
    elim (cases_Bool (has_newline tail)) [
      | inl e ↦ rw e tt
      | inr e ↦ rw e tt
    ]
last_opener (BlockComment tail) h = (h.0, tt)
last_opener (QuotedString quote tail) h = tt
last_opener (QuotedIdentifier tail) h = tt
last_opener (Name name) h = tt
last_opener Mark h = tt
last_opener (Plain b) h = tt

pub line_opener : (ts : List Token) → HoldNoOpener ts → HoldNoOpener (with_newline ts)
line_opener [] h = tt
line_opener (t ∷ []) h = last_opener t h
line_opener (BlockComment tail ∷ u ∷ ts) h = (h.0, line_opener (u ∷ ts) h.1)
line_opener (QuotedString quote tail ∷ u ∷ ts) h = line_opener (u ∷ ts) h
line_opener (QuotedIdentifier tail ∷ u ∷ ts) h = line_opener (u ∷ ts) h
line_opener (HashComment tail ∷ u ∷ ts) h = line_opener (u ∷ ts) h
line_opener (DashComment gap tail ∷ u ∷ ts) h = line_opener (u ∷ ts) h
line_opener (Name name ∷ u ∷ ts) h = line_opener (u ∷ ts) h
line_opener (Mark ∷ u ∷ ts) h = line_opener (u ∷ ts) h
line_opener (Plain b ∷ u ∷ ts) h = line_opener (u ∷ ts) h

then_opener : (ts us : List Token) → HoldNoOpener ts → HoldNoOpener us → HoldNoOpener (statement_tokens ts ++ us)
then_opener ts us h k = opener_append (statement_tokens ts) us (opener_append (with_newline ts) ends (line_opener ts h) tt) k

-- ---- a script

-- each text is portable in a client
abbrev pub AreInClient : List (List Token) → Type 0
AreInClient [] = ⊤
AreInClient (ts ∷ lists) = IsPortableInClient ts × AreInClient lists

abbrev IsKept : List ℕ → List Token → Type 0
IsKept more us = HoldNoOpener us × AreSentBefore more true true us

then_kept : (ts us : List Token) (more : List ℕ) → HoldNoOpener ts → AreSentAsTheyAre ts → IsKept more us → IsKept more (statement_tokens ts ++ us)
then_kept ts us more o h k = (then_opener ts us o k.0, then_sent ts us more h k.1)

statements_kept : (lists : List (List Token)) (us : List Token) (more : List ℕ) → AreInClient lists → IsKept more us →
    IsKept more (tokens_of_statements lists ++ us)
statements_kept [] us more p k = k
statements_kept (ts ∷ lists) us more p k =
    subst (IsKept more) (sym (append_assoc (statement_tokens ts) (tokens_of_statements lists) us))
    (then_kept ts (tokens_of_statements lists ++ us) more p.0.no_opener p.0.sent (statements_kept lists us more p.1 k))

begin_sent : AreSentAsTheyAre (map (λ b. Plain b) (codes "START TRANSACTION"))
unfolding is_client_word
begin_sent = (refl, (refl, (refl, (refl, (refl, (refl, (refl, (refl, (refl, (refl, (refl, (refl, (refl, (refl, (refl, (refl, (refl, tt)))))))))))))))))

end_sent : AreSentAsTheyAre (map (λ b. Plain b) (codes "COMMIT"))
unfolding is_client_word
end_sent = (refl, (refl, (refl, (refl, (refl, (refl, tt))))))

none_kept : IsKept [] []
none_kept = (tt, tt)

end_kept : IsKept [] (word_tokens (codes "COMMIT"))
end_kept = subst (IsKept []) (append-nil (word_tokens (codes "COMMIT"))) (then_kept (map (λ b. Plain b) (codes "COMMIT")) [] [] tt end_sent none_kept)

pub script_kept : (transaction : Bool) (lists : List (List Token)) → AreInClient lists → IsSentByClient (script_tokens transaction lists)
script_kept true lists p =
    subst (IsKept []) (sym (append_assoc (word_tokens (codes "START TRANSACTION")) (tokens_of_statements lists) (word_tokens (codes "COMMIT"))))
    (then_kept (map (λ b. Plain b) (codes "START TRANSACTION")) (tokens_of_statements lists ++ word_tokens (codes "COMMIT")) [] tt begin_sent
    (statements_kept lists (word_tokens (codes "COMMIT")) [] p end_kept))
script_kept false lists p = statements_kept lists [] [] p none_kept

-- ---- the texts of rows

module _ (request : Request) (query : List ℕ) (e : request.portability ≡ portability.Portable) (mode : Bool) (r : IsReadIn request.literals mode) where
  texts_in_client : (rows : List Row) (texts : List (List ℕ)) (lists : List (List Token)) → AreWritten request query rows texts →
      AreTokensOf mode texts lists → AreInClient lists
  texts_in_client rows [] [] w a = tt
  texts_in_client rows [] (ts ∷ lists) w a = absurd a
  texts_in_client rows (text ∷ texts) [] w a = absurd a
  texts_in_client [] (text ∷ texts) (ts ∷ lists) w a = absurd w
  texts_in_client (row ∷ rows) (text ∷ texts) (ts ∷ lists) w a =
      let p = w.0.portable_text e mode r in
      (subst IsPortableInClient (one_token_list mode text p.0 ts p.1 a.0) p.2, texts_in_client rows texts lists w.1 a.1)

  pub script_in_client : (rows : List Row) (transaction : Bool) (bytes : List ℕ) → IsScript request query rows transaction bytes →
      OnTokens mode bytes IsSentByClient
  script_in_client rows transaction bytes s =
      let t = tokens.tokens_of_script request query rows transaction mode bytes r s in
      (script_tokens transaction t.0, t.2, script_kept transaction t.0 (texts_in_client rows s.texts t.0 s.written t.1))

  pub statements_in_client : (rows : List Row) (bytes : List ℕ) → AreStatements request query rows [] bytes →
      OnTokens mode bytes IsSentByClient
  statements_in_client rows bytes s =
      let t = tokens.tokens_of_statements_alone request query rows mode bytes r s in (
        tokens_of_statements t.0,
        t.2,
        subst IsSentByClient (append-nil (tokens_of_statements t.0)) (statements_kept t.0 [] [] (texts_in_client rows s.texts t.0 s.written t.1) none_kept),
      )
