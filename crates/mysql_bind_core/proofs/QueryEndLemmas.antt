-- A query with its end: its tokens are those of the query's last token with the end, after the others.
use Rattle.std.specs.Prelude.{Bool, nat_lt}
use Rattle.std.proofs.Common.{◌≡◌, ◌≢◌, ◌⊎◌, ℕ, ◌+◌, ◌-◌, ◌<◌, ◌≤◌, true, false, List, [], ◌∷◌, ◌++◌, length, get_or, take, drop, Option, Some, None, inl, inr, refl, sym, ap, ◌∙◌, subst, append-nil, append_assoc, take-append-drop, true≢false, arith, length-append, length-drop}
use Rattle.std.proofs.lemmas.Bool.{cases_Bool}
use Rattle.std.proofs.lemmas.Bool.Decides.{nat_tests}
use Rattle.std.proofs.lemmas.List.{take_rest, same_from_push, nil_from_length}
use Rattle.mysql_named_params.specs.Bytes.{asterisk, backquote, colon, dash, hash, newline, question_mark, slash, is_string_quote, is_extension, begins, Lacks, HoldsOnlyAtEnd, IsUpTo, up_to_word, up_to_end}
use Rattle.mysql_named_params.specs.Tokens.{Token, IsToken, IsTokens, OnTokens, AreTokensBefore, IsStringTail, bytes_of, text_of, text_then, QuotedString, QuotedIdentifier, HashComment, DashComment, BlockComment, Name, Mark, Plain}
use Rattle.mysql_named_params.specs.FirstToken.{IsFirstToken}
use Rattle.mysql_named_params.specs.TokensOf.{len_up_to, string_len}
use Rattle.mysql_named_params.specs.FirstPlace.{IsFirstPlace}
use Rattle.mysql_named_params.specs.Reading.{IsTokensWith, OnTokensIn}
use Rattle.mysql_named_params.specs.WideNames.{run, widened, widened_from}
use Rattle.mysql_named_params.specs.declared.places.FoundPlace.{FoundPlace}
use Rattle.mysql_named_params.specs.declared.places.Reading.{Reading}
use Rattle.mysql_named_params.specs.declared.tokens.TokenKind.{TokenKind}
use Rattle.mysql_named_params.proofs.CutLemmas.{BeginsWithTokens, cut_none, cut_more, tokens_then, first_within}
use Rattle.mysql_named_params.proofs.FoundPlaceLemmas.{parted_in}
use Rattle.mysql_named_params.proofs.FirstTokenLemmas.{rest_is}
use Rattle.mysql_named_params.proofs.PlainLemmas.{plain_none}
use Rattle.mysql_named_params.proofs.ReadingLemmas.{reading_text}
use Rattle.mysql_named_params.proofs.WideLemmas.{goes_on, opens, plain_case, stays as stays_plain, text_of-widened}
use Rattle.mysql_named_params.proofs.TokenEndLemmas.{slice_from, string_gives, up_to_gives}
use Rattle.mysql_named_params.proofs.TokenEnds.{plain_at}
use Rattle.mysql_named_params.proofs.TokenListLemmas.{one_token, some_byte}
use Rattle.mysql_named_params.proofs.TokenRowLemmas.{text_then-append, text_then-text_of, text_of-append, AreTokensBefore-append}
use Rattle.mysql_bind_core.proofs.NewlineLemmas.{token_then_newline, plain_move, plain_newline}
use Rattle.mysql_bind_core.specs.QueryEnd.{end, last_at, long_end, long_end_from}

-- b';'
abbrev semicolon : ℕ
semicolon = 59

-- ---- the tokens before the last one

-- the tokens that are passed, before a rest that isn't empty unless the query is
pub record PassedTo (mode : Bool) (query rest : List ℕ) : Type 0 where
  pub tokens : List Token
  pub cut : BeginsWithTokens mode query rest tokens
  pub some : 0 < length query → 0 < length rest
  pub within : length rest ≤ length query

pub passed_none : (mode : Bool) (query : List ℕ) → PassedTo mode query query
passed_none mode query = record { tokens = []; cut = cut_none mode query; some = λ h. h; within = omega arith }

pub passed_more : (mode : Bool) (query rest : List ℕ) (kind : TokenKind) (n : ℕ) → PassedTo mode query rest →
    IsFirstToken mode rest kind n → n ≢ length rest → PassedTo mode query (slice_from n rest)
passed_more mode query rest kind n p f ne =
    let le = first_within mode rest kind n f in
    rw take_rest (record {
      tokens = p.tokens ++ f.token ∷ [];
      cut = cut_more mode query rest p.tokens kind n p.cut f;
      some = λ h. omega (arith, length-drop n rest);
      within = omega (arith, p.within, length-drop n rest);
    })

long_end_from-append : (n : ℕ) (ts us : List Token) → us ≢ [] →
    long_end_from n (ts ++ us) ≡ long_end_from (n + length (text_of ts)) us
long_end_from-append n [] us some = ap (λ k. long_end_from k us) same
  where
    same : n ≡ n + 0
    same = omega arith
long_end_from-append n (t ∷ []) [] some = absurd (some refl)
long_end_from-append n (t ∷ []) (u ∷ us) some = ap (λ k. long_end_from k (u ∷ us)) same
  where
    same : n + length (bytes_of t) ≡ n + length (bytes_of t ++ [])
    same = omega (arith, length-append (bytes_of t) [])
long_end_from-append n (t ∷ v ∷ ts) us some =
    long_end_from-append (n + length (bytes_of t)) (v ∷ ts) us some ∙ ap (λ k. long_end_from k us) same
  where
    same : n + length (bytes_of t) + length (text_of (v ∷ ts)) ≡ n + length (text_of (t ∷ v ∷ ts))
    same = omega (arith, length-append (bytes_of t) (text_of (v ∷ ts)))

some_then : (rest : List ℕ) (ts : List Token) → rest ≢ [] → text_then rest ts ≢ []
some_then rest [] some = some
some_then rest (t ∷ ts) some = some_byte t (text_then rest ts)

-- tokens before some text are tokens before that and a newline
front_kept : (mode : Bool) (rest more : List ℕ) (ts : List Token) → rest ≢ [] → AreTokensBefore mode rest ts →
    AreTokensBefore mode (rest ++ newline ∷ more) ts
front_kept mode rest more [] some h = tt
front_kept mode rest more (t ∷ ts) some h = (
  subst (IsToken mode t) (sym joined) (token_then_newline mode t (text_then rest ts) (text_then rest ts) more (some_then rest ts some) h.0 h.0),
  front_kept mode rest more ts some h.1,
)
  where
    joined : text_then (rest ++ newline ∷ more) ts ≡ text_then rest ts ++ newline ∷ more
    joined =
        text_then-text_of ts (rest ++ newline ∷ more) ∙ sym (append_assoc (text_of ts) rest (newline ∷ more))
        ∙ ap (λ x. x ++ newline ∷ more) (sym (text_then-text_of ts rest))

no_end : (text : List ℕ) → text ++ end ≢ []
no_end [] e = cc
no_end (b ∷ text) e = cc

-- with the end behind the last token, and so behind the query
pub last_end : (mode : Bool) (query rest : List ℕ) (at : ℕ) (result : Option ℕ) → PassedTo mode query rest →
    0 < length rest → at + length rest ≡ length query →
    OnTokens mode (rest ++ end) (λ us. result ≡ long_end_from at us) →
    OnTokens mode (query ++ end) (λ us. result ≡ long_end us)
last_end mode query rest at result p lt place o = (p.tokens ++ o.0, tokens_then mode (query ++ end) (rest ++ end) p.tokens o.0 cut o.1, o.2 ∙ sym (long_end_from-append 0 p.tokens o.0 some_tokens ∙ ap (λ k. long_end_from k o.0) index))
  where
    some_rest : rest ≢ []
    some_rest e = absurd (omega (arith, ap length e))

    front_text : text_of p.tokens ++ rest ≡ query
    front_text = sym (text_then-text_of p.tokens rest) ∙ p.cut.text

    index : 0 + length (text_of p.tokens) ≡ at
    index = omega (arith, ap length front_text, length-append (text_of p.tokens) rest)

    some_tokens : o.0 ≢ []
    some_tokens e = no_end rest (sym (sym (ap text_of e) ∙ o.1.text))

    cut : BeginsWithTokens mode (query ++ end) (rest ++ end) p.tokens
    cut = record {
      text = text_then-text_of p.tokens (rest ++ end) ∙ sym (append_assoc (text_of p.tokens) rest end) ∙ ap (λ x. x ++ end) front_text;
      each = front_kept mode rest (semicolon ∷ []) p.tokens some_rest p.cut.each;
    }

-- the end alone
pub end_alone : (mode : Bool) (query rest : List ℕ) → PassedTo mode query rest → length rest ≡ 0 →
    OnTokens mode (query ++ end) (λ us. None ≡ long_end us)
end_alone mode [] rest p e = (Plain newline ∷ Plain semicolon ∷ [], record { text = refl; each = (plain_newline mode _, (plain_at mode semicolon [] refl, tt)) }, refl)
end_alone mode (b ∷ query) rest p e = absurd (omega (arith, p.some (omega arith)))

pub first_is_whole : (mode : Bool) (rest : List ℕ) (kind : TokenKind) (n : ℕ) → IsFirstToken mode rest kind n → n ≡ length rest →
    OnTokens mode rest (λ ts. length ts ≡ 1)
first_is_whole mode rest kind n f e = (f.token ∷ [], record { text = text; each = (subst (IsToken mode f.token) nil f.holds, tt) }, refl)
  where
    nil : drop n rest ≡ []
    nil = nil_from_length (drop n rest) (omega (arith, length-drop n rest))

    text : text_of (f.token ∷ []) ≡ rest
    text = ap (λ x. bytes_of f.token ++ x) (sym nil) ∙ f.bytes

-- ---- a token and its end

-- the text is this token
pub record IsOneToken (mode : Bool) (text : List ℕ) : Type 0 where
  pub token : Token
  pub bytes : bytes_of token ≡ text
  pub holds : IsToken mode token []

pub the_token : (mode : Bool) (text : List ℕ) → OnTokens mode text (λ ts. length ts ≡ 1) → IsOneToken mode text
the_token mode text o = of_list o.0 o.1 o.2
  where
    of_list : (ts : List Token) → IsTokens mode text ts → length ts ≡ 1 → IsOneToken mode text
    of_list [] h e = absurd cc
    of_list (t ∷ []) h e = record { token = t; bytes = sym (append-nil (bytes_of t)) ∙ h.text; holds = h.each.0 }
    of_list (t ∷ u ∷ ts) h e = absurd (omega arith)

pub some_text : (mode : Bool) (text : List ℕ) → OnTokens mode text (λ ts. length ts ≡ 1) → 0 < length text
some_text mode [] o = let w = the_token mode [] o in absurd (some_byte w.token [] (append-nil (bytes_of w.token) ∙ w.bytes))
some_text mode (b ∷ text) o = omega arith

several : (at n : ℕ) → 1 < n → Some at ≡ last_at at n
several at n lt =
    elim (cases_Bool (nat_lt 1 n)) [
      | inl h ↦ rw h refl
      | inr h ↦ absurd (grind (arith, nat_tests))
    ]

-- one token with the end in it
one_open : (mode : Bool) (text : List ℕ) (t : Token) → bytes_of t ≡ text ++ end → IsToken mode t [] → (at : ℕ) →
    OnTokens mode (text ++ end) (λ us. Some at ≡ long_end_from at us)
one_open mode text t e h at = (t ∷ [], record { text = append-nil (bytes_of t) ∙ e; each = (h, tt) }, several at (length (bytes_of t)) two)
  where
    two : 1 < length (bytes_of t)
    two = omega (arith, ap length e, length-append text end)

long_end-snoc : (ts : List Token) (t : Token) (n : ℕ) →
    long_end_from n (ts ++ t ∷ []) ≡ last_at (n + length (text_of ts)) (length (bytes_of t))
long_end-snoc ts t n = long_end_from-append n ts (t ∷ []) (λ e. cc)

-- tokens with the newline, and then `;`
one_closed : (mode : Bool) (text : List ℕ) (us : List Token) → AreTokensBefore mode (semicolon ∷ []) us →
    text_of us ≡ text ++ newline ∷ [] → (at : ℕ) → OnTokens mode (text ++ end) (λ vs. None ≡ long_end_from at vs)
one_closed mode text us h e at = (us ++ Plain semicolon ∷ [], record { text = text_is; each = each }, sym (long_end-snoc us (Plain semicolon) at))
  where
    text_is : text_of (us ++ Plain semicolon ∷ []) ≡ text ++ end
    text_is = text_of-append us (Plain semicolon ∷ []) ∙ ap (λ x. x ++ semicolon ∷ []) e ∙ append_assoc text (newline ∷ []) (semicolon ∷ [])

    each : AreTokensBefore mode [] (us ++ Plain semicolon ∷ [])
    each = AreTokensBefore-append mode us (Plain semicolon ∷ []) [] h (plain_at mode semicolon [] refl, tt)

-- a token that stays before the end
stays : (mode : Bool) (text : List ℕ) (t : Token) → bytes_of t ≡ text → IsToken mode t end → (at : ℕ) →
    OnTokens mode (text ++ end) (λ us. None ≡ long_end_from at us)
stays mode text t e h = one_closed mode text (t ∷ Plain newline ∷ []) (h, (plain_newline mode (semicolon ∷ []), tt)) (ap (λ x. x ++ newline ∷ []) e)

-- ---- words and the end

-- a list is empty, or has a last item
last_of : (xs : List ℕ) → (xs ≡ []) ⊎ ((front : List ℕ) × (b : ℕ) × (xs ≡ front ++ b ∷ []))
last_of [] = inl refl
last_of (x ∷ xs) =
    elim (last_of xs) [
      | inl e ↦ inr ([], x, ap (λ y. x ∷ y) e)
      | inr e ↦ inr (x ∷ e.0, e.1, ap (λ y. x ∷ y) e.2)
    ]

-- another byte than the word's last one doesn't complete it
lacks_more : (word : List ℕ) (w b : ℕ) (bytes : List ℕ) → w ≢ b → Lacks (word ++ w ∷ []) bytes →
    Lacks (word ++ w ∷ []) (bytes ++ b ∷ [])
lacks_more word w b bytes ne lacks front back e =
    elim (last_of back) [
      | inl nil ↦
          let whole : (front ++ word) ++ w ∷ [] ≡ bytes ++ b ∷ [] =
          append_assoc front word (w ∷ []) ∙ ap (λ x. front ++ x) (sym (append-nil (word ++ w ∷ []))) ∙ ap (λ x. front ++ ((word ++ w ∷ []) ++ x)) (sym nil) ∙ e in
          ne (same_from_push (front ++ word) bytes w b whole).1
      | inr l ↦
          let whole : (front ++ ((word ++ w ∷ []) ++ l.0)) ++ l.1 ∷ [] ≡ bytes ++ b ∷ [] =
          append_assoc front ((word ++ w ∷ []) ++ l.0) (l.1 ∷ []) ∙ ap (λ x. front ++ x) (append_assoc (word ++ w ∷ []) l.0 (l.1 ∷ []))
          ∙ ap (λ x. front ++ ((word ++ w ∷ []) ++ x)) (sym l.2) ∙ e in
          lacks front l.0 (same_from_push _ bytes l.1 b whole).0
    ]

lacks_end : (word : List ℕ) (w : ℕ) (bytes : List ℕ) → w ≢ newline → w ≢ semicolon → Lacks (word ++ w ∷ []) bytes →
    Lacks (word ++ w ∷ []) (bytes ++ end)
lacks_end word w bytes n s lacks =
    subst (Lacks (word ++ w ∷ [])) (append_assoc bytes (newline ∷ []) (semicolon ∷ []))
    (lacks_more word w semicolon (bytes ++ newline ∷ []) s (lacks_more word w newline bytes n lacks))

-- a first newline at the very end
only_at_end : (bytes : List ℕ) → Lacks (newline ∷ []) bytes → HoldsOnlyAtEnd (newline ∷ []) (bytes ++ newline ∷ [])
only_at_end bytes lacks front back e =
    elim (last_of back) [
      | inl nil ↦ nil
      | inr l ↦
          let whole : (front ++ newline ∷ l.0) ++ l.1 ∷ [] ≡ bytes ++ newline ∷ [] =
          append_assoc front (newline ∷ l.0) (l.1 ∷ []) ∙ ap (λ x. front ++ newline ∷ x) (sym l.2) ∙ e in
          absurd (lacks front l.0 (same_from_push _ bytes l.1 newline whole).0)
    ]

-- up to a word that stands at the end, whatever follows
ended_by : (word bytes rest : List ℕ) → (front : List ℕ) → bytes ≡ front ++ word → IsUpTo word bytes [] → IsUpTo word bytes rest
ended_by word bytes rest front e (up_to_word body is ends) = up_to_word body is ends
ended_by word bytes rest front e (up_to_end lacks nil) = absurd (lacks front [] (ap (λ x. front ++ x) (append-nil word) ∙ sym e))

-- up to the end, if the word doesn't stand there
not_ended : (word : List ℕ) (w : ℕ) (bytes : List ℕ) → w ≢ newline → w ≢ semicolon → ((front : List ℕ) → bytes ≢ front ++ (word ++ w ∷ [])) →
    IsUpTo (word ++ w ∷ []) bytes [] → IsUpTo (word ++ w ∷ []) (bytes ++ end) []
not_ended word w bytes n s other (up_to_word body is ends) = absurd (other body (sym is))
not_ended word w bytes n s other (up_to_end lacks nil) = up_to_end (lacks_end word w bytes n s lacks) refl

-- a comment to the end of the line
comment_line : (bytes : List ℕ) → IsUpTo (newline ∷ []) bytes [] →
    IsUpTo (newline ∷ []) bytes end ⊎ IsUpTo (newline ∷ []) (bytes ++ newline ∷ []) (semicolon ∷ [])
comment_line bytes (up_to_word body is ends) = inl (up_to_word body is ends)
comment_line bytes (up_to_end lacks nil) = inr (up_to_word bytes refl (only_at_end bytes lacks))

-- ---- what one token is, by its first byte

the_same : (mode : Bool) (text : List ℕ) (t u : Token) (rest : List ℕ) → bytes_of t ≡ text → IsToken mode t [] → IsToken mode u rest →
    bytes_of u ++ rest ≡ text → t ≡ u
the_same mode text t u rest e h k is = one_token mode t u [] rest h k (append-nil (bytes_of t) ∙ e ∙ sym is)

pub string_tail : (mode : Bool) (text : List ℕ) (q : ℕ) (tail : List ℕ) → text ≡ q ∷ tail →
    OnTokens mode text (λ ts. length ts ≡ 1) → is_string_quote q ≡ true → IsStringTail mode q tail []
string_tail mode text q tail e o s =
    let w = the_token mode text o in
    let n : ℕ = string_len mode q false tail in
    let same = the_same mode text w.token (QuotedString q (take n tail)) (drop n tail) w.bytes w.holds (s, string_gives mode q tail) (rw take-append-drop (sym e)) in
    let whole : q ∷ take n tail ≡ q ∷ tail = ap bytes_of (sym same) ∙ w.bytes ∙ e in
    let tails : take n tail ≡ tail = cc in
    let held : IsToken mode (QuotedString q (take n tail)) [] = subst (λ x. IsToken mode x []) same w.holds in
    subst (λ x. IsStringTail mode q x []) tails held.1

pub string_open : (mode : Bool) (text : List ℕ) (q : ℕ) (tail : List ℕ) → text ≡ q ∷ tail → is_string_quote q ≡ true →
    IsStringTail mode q (tail ++ end) [] → (at : ℕ) → OnTokens mode (text ++ end) (λ us. Some at ≡ long_end_from at us)
string_open mode text q tail e s h = one_open mode text (QuotedString q (tail ++ end)) (ap (λ x. x ++ end) (sym e)) (s, h)

pub string_closed : (mode : Bool) (text : List ℕ) (q : ℕ) (tail : List ℕ) → text ≡ q ∷ tail → is_string_quote q ≡ true →
    IsStringTail mode q tail end → (at : ℕ) → OnTokens mode (text ++ end) (λ us. None ≡ long_end_from at us)
string_closed mode text q tail e s h = stays mode text (QuotedString q tail) (sym e) (s, h)

identifier_tail : (mode : Bool) (text tail : List ℕ) → text ≡ backquote ∷ tail →
    OnTokens mode text (λ ts. length ts ≡ 1) → IsUpTo (backquote ∷ []) tail []
identifier_tail mode text tail e o =
    let w = the_token mode text o in
    let n : ℕ = len_up_to (backquote ∷ []) tail in
    let same = the_same mode text w.token (QuotedIdentifier (take n tail)) (drop n tail) w.bytes w.holds (up_to_gives (backquote ∷ []) tail (omega arith)) (rw take-append-drop (sym e)) in
    let whole : backquote ∷ take n tail ≡ backquote ∷ tail = ap bytes_of (sym same) ∙ w.bytes ∙ e in
    let tails : take n tail ≡ tail = cc in
    let held : IsToken mode (QuotedIdentifier (take n tail)) [] = subst (λ x. IsToken mode x []) same w.holds in
    subst (λ x. IsUpTo (backquote ∷ []) x []) tails held

pub identifier_open : (mode : Bool) (text tail : List ℕ) → text ≡ backquote ∷ tail →
    OnTokens mode text (λ ts. length ts ≡ 1) → ((front : List ℕ) → tail ≢ front ++ backquote ∷ []) → (at : ℕ) →
    OnTokens mode (text ++ end) (λ us. Some at ≡ long_end_from at us)
identifier_open mode text tail e o other =
    one_open mode text (QuotedIdentifier (tail ++ end)) (ap (λ x. x ++ end) (sym e))
    (not_ended [] backquote tail (λ n. cc) (λ n. cc) other (identifier_tail mode text tail e o))

pub identifier_closed : (mode : Bool) (text tail front : List ℕ) → text ≡ backquote ∷ tail →
    OnTokens mode text (λ ts. length ts ≡ 1) → tail ≡ front ++ backquote ∷ [] → (at : ℕ) →
    OnTokens mode (text ++ end) (λ us. None ≡ long_end_from at us)
identifier_closed mode text tail front e o is =
    stays mode text (QuotedIdentifier tail) (sym e) (ended_by (backquote ∷ []) tail end front is (identifier_tail mode text tail e o))

first_bytes : (b c : ℕ) (x y : List ℕ) → b ∷ x ≡ c ∷ y → b ≡ c
first_bytes b c x y e = cc

-- the text is a block comment
pub record IsComment (mode : Bool) (text tail : List ℕ) : Type 0 where
  pub text_is : slash ∷ asterisk ∷ tail ≡ text
  pub holds : IsToken mode (BlockComment tail) []

pub comment_tail : (mode : Bool) (text rest : List ℕ) → text ≡ slash ∷ rest → 1 < length text →
    OnTokens mode text (λ ts. length ts ≡ 1) → IsComment mode text (slice_from 2 text)
comment_tail mode text rest e lt o = by_token w.token w.bytes w.holds
  where
    w : IsOneToken mode text
    w = the_token mode text o

    by_token : (t : Token) → bytes_of t ≡ text → IsToken mode t [] → IsComment mode text (slice_from 2 text)
    by_token (QuotedString q tail) b h = absurd (true≢false (sym h.0 ∙ ap is_string_quote first))
      where
        first : q ≡ slash
        first = first_bytes q slash _ _ (b ∙ e)
    by_token (QuotedIdentifier tail) b h = absurd (omega (arith, first_bytes backquote slash _ _ (b ∙ e)))
    by_token (HashComment tail) b h = absurd (omega (arith, first_bytes hash slash _ _ (b ∙ e)))
    by_token (DashComment gap tail) b h = absurd (omega (arith, first_bytes dash slash _ _ (b ∙ e)))
    by_token (Name name) b h = absurd (omega (arith, first_bytes colon slash _ _ (b ∙ e)))
    by_token Mark b h = absurd (omega (arith, first_bytes question_mark slash _ _ (b ∙ e)))
    by_token (Plain c) b h = absurd (omega (arith, ap length b))
    by_token (BlockComment tail) b h =
        let after : slice_from 2 (slash ∷ asterisk ∷ tail) ≡ tail = take_rest (slash ∷ asterisk ∷ tail) 2 in
        let same : tail ≡ slice_from 2 text = sym after ∙ ap (slice_from 2) b in
        subst (IsComment mode text) same (record { text_is = b; holds = h })

no_extension : (tail more : List ℕ) → begins is_extension (tail ++ []) ≡ false → begins is_extension ((tail ++ end) ++ more) ≡ false
no_extension [] more e = refl
no_extension (b ∷ tail) more e = e

no_extension_after : (tail : List ℕ) → begins is_extension (tail ++ []) ≡ false → begins is_extension (tail ++ end) ≡ false
no_extension_after [] e = refl
no_extension_after (b ∷ tail) e = e

pub comment_open : (mode : Bool) (text tail : List ℕ) → IsComment mode text tail →
    ((front : List ℕ) → tail ≢ front ++ asterisk ∷ slash ∷ []) → (at : ℕ) →
    OnTokens mode (text ++ end) (λ us. Some at ≡ long_end_from at us)
comment_open mode text tail k other =
    one_open mode text (BlockComment (tail ++ end)) (ap (λ x. x ++ end) k.text_is)
    (no_extension tail [] k.holds.0, not_ended (asterisk ∷ []) slash tail (λ n. cc) (λ n. cc) other k.holds.1)

pub comment_closed : (mode : Bool) (text tail front : List ℕ) → IsComment mode text tail →
    tail ≡ front ++ asterisk ∷ slash ∷ [] → (at : ℕ) → OnTokens mode (text ++ end) (λ us. None ≡ long_end_from at us)
comment_closed mode text tail front k is =
    stays mode text (BlockComment tail) k.text_is
    (no_extension_after tail k.holds.0, ended_by (asterisk ∷ slash ∷ []) tail end front is k.holds.1)

-- a byte that begins none of these
pub other_closed : (mode : Bool) (text : List ℕ) (b : ℕ) (rest : List ℕ) → text ≡ b ∷ rest → OnTokens mode text (λ ts. length ts ≡ 1) →
    is_string_quote b ≡ false → b ≢ backquote → (b ≡ slash → length text ≤ 1) → (at : ℕ) →
    OnTokens mode (text ++ end) (λ us. None ≡ long_end_from at us)
other_closed mode text b rest e o no_quote no_backquote short = by_token w.token w.bytes w.holds
  where
    w : IsOneToken mode text
    w = the_token mode text o

    by_token : (t : Token) → bytes_of t ≡ text → IsToken mode t [] → (at : ℕ) → OnTokens mode (text ++ end) (λ us. None ≡ long_end_from at us)
    by_token (QuotedString q tail) is h = absurd (true≢false (sym h.0 ∙ ap is_string_quote first ∙ no_quote))
      where
        first : q ≡ b
        first = first_bytes q b _ _ (is ∙ e)
    by_token (QuotedIdentifier tail) is h = absurd (no_backquote (sym (first_bytes backquote b _ _ (is ∙ e))))
    by_token (BlockComment tail) is h = absurd (omega (arith, ap length is, short first))
      where
        first : b ≡ slash
        first = sym (first_bytes slash b _ _ (is ∙ e))
    by_token (HashComment tail) is h =
        elim (comment_line tail h) [
          | inl k ↦ stays mode text (HashComment tail) is k
          | inr k ↦ one_closed mode text (HashComment (tail ++ newline ∷ []) ∷ []) (k, tt) (append-nil _ ∙ ap (λ x. x ++ newline ∷ []) is)
        ]
    by_token (DashComment gap tail) is h =
        elim (comment_line tail h.2) [
          | inl k ↦ stays mode text (DashComment gap tail) is (h.0, h.1, k)
          | inr k ↦ one_closed mode text (DashComment gap (tail ++ newline ∷ []) ∷ []) ((h.0, h.1, k), tt) (append-nil _ ∙ ap (λ x. x ++ newline ∷ []) is)
        ]
    by_token (Name name) is h = stays mode text (Name name) is (h.0, refl)
    by_token Mark is h = stays mode text Mark is tt
    by_token (Plain c) is h = stays mode text (Plain c) is (plain_at mode c end (plain_move mode c [] (semicolon ∷ []) (plain_none mode c [] h)))

pub first_and_rest : (text : List ℕ) (b : ℕ) → 0 < length text → get_or text 0 0 ≡ b → text ≡ b ∷ slice_from 1 text
first_and_rest [] b lt e = absurd (omega arith)
first_and_rest (a ∷ text) b lt e = ap (λ x. x ∷ text) e ∙ ap (λ x. b ∷ x) (sym (rest_is a text))

-- ---- places are passed

-- the tokens before some of a text's tokens
front_before : (mode : Bool) (xs ys : List Token) → AreTokensBefore mode [] (xs ++ ys) → AreTokensBefore mode (text_of ys) xs
front_before mode [] ys h = tt
front_before mode (x ∷ xs) ys h = (subst (IsToken mode x) (text_then-append xs ys []) h.0, front_before mode xs ys h.1)

cut_before : (mode : Bool) (text : List ℕ) (xs ys : List Token) → IsTokens mode text (xs ++ ys) → BeginsWithTokens mode text (text_of ys) xs
cut_before mode text xs ys is = record {
  text = sym (text_then-append xs ys []) ∙ is.text;
  each = front_before mode xs ys is.each;
}

cut_then : (mode : Bool) (query rest more : List ℕ) (ts us : List Token) → BeginsWithTokens mode query rest ts →
    BeginsWithTokens mode rest more us → BeginsWithTokens mode query more (ts ++ us)
cut_then mode query rest more ts us c r = record {
  text = text_then-append ts us more ∙ (ap (λ x. text_then x ts) r.text ∙ c.text);
  each = AreTokensBefore-append mode ts us more (subst (λ x. AreTokensBefore mode x ts) (sym r.text) c.each) r.each;
}

-- some tokens of the grammar in front of those that are left, whose wide reading is what is left of theirs
record CutWide (own back : List Token) : Type 0 where
  front : List Token
  left : List Token
  are : own ≡ front ++ left
  back_is : back ≡ widened left

-- one token more in front
cut_more_wide : (t : Token) (own back : List Token) → CutWide own back → CutWide (t ∷ own) back
cut_more_wide t own back c = record { front = t ∷ c.front; left = c.left; are = ap (λ ts. t ∷ ts) c.are; back_is = c.back_is }

-- a wide name in front takes its run
cut_run : (own : List Token) → CutWide own (widened_from true own)
cut_run [] = record { front = []; left = []; are = refl; back_is = refl }
cut_run (Plain b ∷ ts) = elim (plain_case true b ts) [
  | goes_on i w e ↦ subst (CutWide (Plain b ∷ ts)) (sym e) (cut_more_wide (Plain b) ts (widened_from true ts) (cut_run ts))
  | opens c w e ↦
      let same : widened_from false (Plain b ∷ ts) ≡ Name (run ts) ∷ widened_from true ts = rw (c, w) refl in
      record { front = []; left = Plain b ∷ ts; are = refl; back_is = e ∙ sym same }
  | stays_plain i c e ↦
      let same : widened_from false (Plain b ∷ ts) ≡ Plain b ∷ widened_from false ts = rw c refl in
      record { front = []; left = Plain b ∷ ts; are = refl; back_is = e ∙ sym same }
]
cut_run (t ∷ ts) = record { front = []; left = t ∷ ts; are = refl; back_is = refl }

-- after any tokens of the wide reading
cut_wide : (inside : Bool) (own front back : List Token) → widened_from inside own ≡ front ++ back → CutWide own back
cut_wide true own [] back e = subst (CutWide own) e (cut_run own)
cut_wide false own [] back e = record { front = []; left = own; are = refl; back_is = sym e }
cut_wide inside [] (t ∷ front) back e = absurd cc
cut_wide inside (Plain b ∷ ts) (t ∷ front) back e = elim (plain_case inside b ts) [
  | goes_on i w f ↦ cut_more_wide (Plain b) ts back (cut_wide true ts (t ∷ front) back (sym f ∙ e))
  | opens c w f ↦
      let both : Name (run ts) ∷ widened_from true ts ≡ t ∷ (front ++ back) = sym f ∙ e in
      let more : widened_from true ts ≡ front ++ back = cc in
      cut_more_wide (Plain b) ts back (cut_wide true ts front back more)
  | stays_plain i c f ↦
      let both : Plain b ∷ widened_from false ts ≡ t ∷ (front ++ back) = sym f ∙ e in
      let more : widened_from false ts ≡ front ++ back = cc in
      cut_more_wide (Plain b) ts back (cut_wide false ts front back more)
]
cut_wide inside (Name name ∷ ts) (t ∷ front) back e =
    let more : widened_from true ts ≡ front ++ back = cc in
    cut_more_wide (Name name) ts back (cut_wide true ts front back more)
cut_wide inside (u ∷ ts) (t ∷ front) back e =
    let more : widened_from false ts ≡ front ++ back = cc in
    cut_more_wide u ts back (cut_wide false ts front back more)

-- in either reading, some tokens of the grammar stand in front of what is left
record CutIn (mode : Bool) (text : List ℕ) (back : List Token) : Type 0 where
  front : List Token
  left : List Token
  tokens : IsTokens mode text (front ++ left)
  left_text : text_of left ≡ text_of back

cut_in : (wide mode : Bool) (text : List ℕ) (ts front back : List Token) → IsTokensWith wide mode text ts → ts ≡ front ++ back →
    CutIn mode text back
cut_in false mode text ts front back is e = record { front = front; left = back; tokens = subst (IsTokens mode text) e is; left_text = refl }
cut_in true mode text ts front back is e =
    let c = cut_wide false is.0 front back (sym is.2 ∙ e) in
    record {
      front = c.front;
      left = c.left;
      tokens = subst (IsTokens mode text) c.are is.1;
      left_text = sym (ap text_of c.back_is ∙ text_of-widened c.left);
    }

-- with the place, its text and what stands before it
pub passed_place : (reading : Reading) (query rest after : List ℕ) (found : FoundPlace) → PassedTo reading.no_backslash_escape query rest →
    OnTokensIn reading rest (λ us. IsFirstPlace us found) → after ≡ drop (found.before + found.len) rest → length after ≢ 0 →
    PassedTo reading.no_backslash_escape query after
passed_place reading query rest after found p o e some =
    let mode = reading.no_backslash_escape in
    let at = parted_in reading rest o.0 found o.1 o in
    let split : o.0 ≡ (at.front ++ at.place ∷ []) ++ at.back = at.tokens_are ∙ sym (append_assoc at.front (at.place ∷ []) at.back) in
    let c = cut_in reading.wide_names mode rest o.0 (at.front ++ at.place ∷ []) at.back o.1 split in
    let left : text_of c.left ≡ after = c.left_text ∙ (reading_text reading _ at.back at.rest_tokens ∙ sym e) in
    record {
      tokens = p.tokens ++ c.front;
      cut = cut_then mode query rest after p.tokens c.front p.cut
          (subst (λ x. BeginsWithTokens mode rest x c.front) left (cut_before mode rest c.front c.left c.tokens));
      some = λ h. omega (arith, some);
      within = omega (arith, p.within, ap length e, length-drop (found.before + found.len) rest);
    }
