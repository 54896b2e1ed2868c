-- Each query has tokens, of the grammar and on each server; the grammar is one of the servers.
use Rattle.std.specs.Prelude.{Bool}
use Rattle.std.proofs.Common.{◌≡◌, ◌≢◌, ◌⊎◌, ℕ, zero, suc, ◌≤◌, true, false, cond, not, ◌==◌, ◌&&◌, List, [], ◌∷◌, ◌++◌, length, drop, Option, Some, None, refl, sym, ap, ◌∙◌, subst, inl, inr, arith, true≢false, take-append-drop, length-append, ne_eqb}
use Rattle.std.proofs.lemmas.Bool.{cases_Bool, and_parts, and_right, or_from, or_right, eqb-true, eqb-false}
use Rattle.mysql_named_params.specs.Bytes.{asterisk, backquote, colon, dash, hash, newline, question_mark, slash, space, is_white_space, is_start_byte, is_string_quote, is_extension, begins}
use Rattle.mysql_named_params.specs.Tokens.{Token, bytes_of, text_of, IsToken, IsTokens, AreTokensBefore, IsStringTail, QuotedString, QuotedIdentifier, HashComment, DashComment, BlockComment, Name, Mark, Plain}
use Rattle.mysql_named_params.specs.TokensOf.{len_up_to, string_len, name_len, name_at, not_plain_at, dash_comment, block_comment}
use Rattle.mysql_named_params.proofs.RestLemmas.{cond_none, some_none, dash_none, block_none}
use Rattle.mysql_named_params.proofs.TokenEndLemmas.{up_to_gives, string_gives, name_gives}
use Rattle.mysql_named_params.proofs.PlainLemmas.{cond_some, plain_none}
use Rattle.mysql_named_params.proofs.CutLemmas.{token_length}
use Rattle.mysql_named_params.proofs.TokensExistLemmas.{tokens_exist}
use Rattle.mysql_portable.specs.Server.{Server, grammar, keeps_dashes, opens_line, holds_return, escapes_backquote, line_on, identifier_on, begins_special, begins_own, Block, executed, comment, comment_of, block_on, reads_in, usual_block, own_block, IsTailBy, usual_end, own_end, ended_tail, open_tail, usual_quotes, own_quotes, IsNotPlainOn, IsTokenOn, AreTokensOn, IsReadOn}
use Rattle.mysql_portable.proofs.ServerTokenLemmas.{tail_by, line_tail, dash_comment_on, comment_by, block_comment_on, own_text, own_on, not_plain_on, plain_on, one_list_on}
use Rattle.mysql_portable.proofs.PortableLemmas.{second_false, false_if, keeps_no_white}

-- ---- a token that is computed is there

-- the text begins with this token on the server, which is not plain, and something follows
abbrev pub BeginsOn : Server → Bool → List ℕ → Token → Type 0
BeginsOn server mode text t = (after : List ℕ) × IsNotPlainOn server mode t after × (bytes_of t ++ after ≡ text)

found_on : (server : Server) (mode : Bool) (text : List ℕ) (u t : Token) → BeginsOn server mode text u →
    Some u ≡ Some t → BeginsOn server mode text t
found_on server mode text u t f e = let p : u ≡ t = cc in subst (BeginsOn server mode text) p f

-- the text up to this end, or by the server's own number, and the text after it
tail_found : (own : List ℕ → Option ℕ) (end : ℕ) (bs : List ℕ) →
    (after : List ℕ) × IsTailBy (own (tail_by (own bs) end bs ++ after)) end (tail_by (own bs) end bs) after
    × (tail_by (own bs) end bs ++ after ≡ bs)
tail_found own end bs = go (own bs) refl
  where
    go : (k : Option ℕ) → own bs ≡ k →
        (after : List ℕ) × IsTailBy (own (tail_by k end bs ++ after)) end (tail_by k end bs) after × (tail_by k end bs ++ after ≡ bs)
    go None e = (drop (len_up_to (end ∷ []) bs) bs, usual_end (rw take-append-drop e) (up_to_gives (end ∷ []) bs (omega arith)), rw take-append-drop refl)
    go (Some n) e = (drop n bs, own_end n (rw take-append-drop e) (rw take-append-drop refl), rw take-append-drop refl)

identifier_found : (server : Server) (mode : Bool) (bs : List ℕ) →
    BeginsOn server mode (backquote ∷ bs) (QuotedIdentifier (tail_by (identifier_on server bs) backquote bs))
identifier_found server mode bs =
    let f = tail_found (identifier_on server) backquote bs in
    (f.0, f.1, ap (λ x. backquote ∷ x) f.2)

hash_found : (server : Server) (mode : Bool) (bs : List ℕ) →
    BeginsOn server mode (hash ∷ bs) (HashComment (tail_by (line_on server bs) newline bs))
hash_found server mode bs =
    let f = tail_found (line_on server) newline bs in
    (f.0, f.1, ap (λ x. hash ∷ x) f.2)

line_found : (server : Server) (mode : Bool) (gap : ℕ) (bs : List ℕ) → opens_line server gap ≡ true →
    BeginsOn server mode (dash ∷ dash ∷ gap ∷ bs) (DashComment gap (line_tail server gap bs))
line_found server mode gap bs o = go (cases_Bool (gap == newline))
  where
    go : ((gap == newline) ≡ true) ⊎ ((gap == newline) ≡ false) → BeginsOn server mode (dash ∷ dash ∷ gap ∷ bs) (DashComment gap (line_tail server gap bs))
    go (inl e) = rw e (bs, (o, ended_tail (eqb-true gap newline e) refl), refl)
    go (inr e) =
        let f = tail_found (line_on server) newline bs in
        rw e (f.0, (o, open_tail (eqb-false gap newline e) f.1), ap (λ x. dash ∷ dash ∷ gap ∷ x) f.2)

dash_found : (server : Server) (mode : Bool) (xs : List ℕ) (t : Token) → dash_comment_on server xs ≡ Some t →
    BeginsOn server mode (dash ∷ xs) t
dash_found server mode [] t e = cc
dash_found server mode (b ∷ []) t e = cc
dash_found server mode (b ∷ gap ∷ bs) t e =
    cond_some (b == dash && opens_line server gap) _ _ t _
    (λ h f.
    let p = and_parts (b == dash) (opens_line server gap) h in
    rw (eqb-true b dash p.0) (found_on server mode _ _ t (line_found server mode gap bs p.1) f))
    (λ h f. cc) e

block_by : (server : Server) (mode : Bool) (bs : List ℕ) (k : Block) (t : Token) → block_on server bs ≡ k →
    comment_by bs k ≡ Some t → BeginsOn server mode (slash ∷ asterisk ∷ bs) t
block_by server mode bs executed t k e = cc
block_by server mode bs comment t k e =
    found_on server mode _ _ t (drop (len_up_to (asterisk ∷ slash ∷ []) bs) bs, usual_block (rw take-append-drop k) (up_to_gives (asterisk ∷ slash ∷ []) bs (omega arith)), rw take-append-drop refl) e
block_by server mode bs (comment_of n) t k e =
    found_on server mode _ _ t (drop n bs, own_block n (rw take-append-drop k) (rw take-append-drop refl), rw take-append-drop refl) e

block_found : (server : Server) (mode : Bool) (xs : List ℕ) (t : Token) → block_comment_on server xs ≡ Some t →
    BeginsOn server mode (slash ∷ xs) t
block_found server mode [] t e = cc
block_found server mode (b ∷ bs) t e =
    cond_some (b == asterisk) _ _ t _
    (λ h f. rw (eqb-true b asterisk h) (block_by server mode bs (block_on server bs) t refl f))
    (λ h f. cc) e

name_found : (server : Server) (mode : Bool) (xs : List ℕ) (t : Token) → name_at xs ≡ Some t →
    BeginsOn server mode (colon ∷ xs) t
name_found server mode [] t e = cc
name_found server mode (b ∷ bs) t e =
    cond_some (is_start_byte b) _ _ t _
    (λ h f.
    let n = name_gives bs in
    found_on server mode _ _ t (drop (name_len bs) bs, ((h, n.each), n.ends), rw take-append-drop refl) f)
    (λ h f. cc) e

own_by : (server : Server) (mode : Bool) (b : ℕ) (bs : List ℕ) (k : Option ℕ) (t : Token) → begins_own b bs ≡ true →
    server.quotes b bs ≡ k → own_text b bs k ≡ Some t → BeginsOn server mode (b ∷ bs) t
own_by server mode b bs None t o k e = cc
own_by server mode b bs (Some n) t o k e =
    found_on server mode _ _ t (drop n bs, own_quotes n (rw take-append-drop o) (rw take-append-drop k) (rw take-append-drop refl), rw take-append-drop refl) e

own_found : (server : Server) (mode : Bool) (b : ℕ) (bs : List ℕ) (t : Token) → own_on server b bs ≡ Some t →
    BeginsOn server mode (b ∷ bs) t
own_found server mode b bs t e =
    cond_some (begins_own b bs) _ _ t _
    (λ h f. own_by server mode b bs (server.quotes b bs) t h refl f)
    (λ h f. cc) e

pub not_plain_found_on : (server : Server) (mode : Bool) (text : List ℕ) (t : Token) →
    not_plain_on server mode text ≡ Some t → BeginsOn server mode text t
not_plain_found_on server mode [] t e = cc
not_plain_found_on server mode (b ∷ bs) t e =
    cond_some (is_string_quote b) _ _ t _ (λ h f. found_on server mode _ _ t (drop (string_len (reads_in server mode b) b false bs) bs, usual_quotes h (string_gives (reads_in server mode b) b bs), rw take-append-drop refl) f)
    (λ h. cond_some (b == backquote) _ _ t _ (λ h f. rw (eqb-true b backquote h) (found_on server mode _ _ t (identifier_found server mode bs) f))
    (λ h. cond_some (b == hash) _ _ t _ (λ h f. rw (eqb-true b hash h) (found_on server mode _ _ t (hash_found server mode bs) f))
    (λ h. cond_some (b == dash) _ _ t _ (λ h f. rw (eqb-true b dash h) (dash_found server mode bs t f))
    (λ h. cond_some (b == slash) _ _ t _ (λ h f. rw (eqb-true b slash h) (block_found server mode bs t f))
    (λ h. cond_some (b == colon) _ _ t _ (λ h f. rw (eqb-true b colon h) (name_found server mode bs t f))
    (λ h. cond_some (b == question_mark) _ _ t _ (λ h f. rw (eqb-true b question_mark h) (found_on server mode _ _ t (bs, tt, refl) f)) (λ h f. own_found server mode b bs t f)))))))
    e

-- ---- each query has tokens on a server

pub record HasTokensOn (server : Server) (mode : Bool) (text : List ℕ) : Type 0 where
  pub tokens : List Token
  pub read : IsReadOn server mode text tokens

more_on : (server : Server) (mode : Bool) (t : Token) (after text : List ℕ) → IsTokenOn server mode t after →
    bytes_of t ++ after ≡ text → HasTokensOn server mode after → HasTokensOn server mode text
more_on server mode t after text h e r = record {
  tokens = t ∷ r.tokens;
  read = record {
    text = ap (λ x. bytes_of t ++ x) r.read.text ∙ e;
    each = (subst (IsTokenOn server mode t) (sym r.read.text) h, r.read.each);
  };
}

-- a token that is not plain is a token
pub as_token : (server : Server) (mode : Bool) (t : Token) (rest : List ℕ) → IsNotPlainOn server mode t rest →
    IsTokenOn server mode t rest
as_token server mode (QuotedString quote tail) rest h = h
as_token server mode (QuotedIdentifier tail) rest h = h
as_token server mode (HashComment tail) rest h = h
as_token server mode (DashComment gap tail) rest h = h
as_token server mode (BlockComment tail) rest h = h
as_token server mode (Name name) rest h = h
as_token server mode Mark rest h = h
as_token server mode (Plain b) rest h = absurd h

step_on : (server : Server) (mode : Bool) (b : ℕ) (bs : List ℕ) (o : Option Token) →
    not_plain_on server mode (b ∷ bs) ≡ o →
    ((after : List ℕ) → length after ≤ length bs → HasTokensOn server mode after) →
    HasTokensOn server mode (b ∷ bs)
step_on server mode b bs None e shorter = more_on server mode (Plain b) bs (b ∷ bs) (plain_on server mode b bs e) refl (shorter bs (omega arith))
step_on server mode b bs (Some t) e shorter =
    let f = not_plain_found_on server mode (b ∷ bs) t e in
    let le : length f.0 ≤ length bs = omega (arith, ap length f.2, length-append (bytes_of t) f.0, token_length t) in
    more_on server mode t f.0 (b ∷ bs) (as_token server mode t f.0 f.1) f.2 (shorter f.0 le)

tokens_within : (server : Server) (mode : Bool) (n : ℕ) (text : List ℕ) → length text ≤ n → HasTokensOn server mode text
tokens_within server mode n [] le = record { tokens = []; read = record { text = refl; each = tt } }
tokens_within server mode zero (b ∷ bs) le = absurd (omega arith)
tokens_within server mode (suc n) (b ∷ bs) le =
    step_on server mode b bs (not_plain_on server mode (b ∷ bs)) refl (λ after short. tokens_within server mode n after (omega arith))

pub tokens_on : (server : Server) (mode : Bool) (text : List ℕ) → (ts : List Token) × IsReadOn server mode text ts
tokens_on server mode text = let r = tokens_within server mode (length text) text (omega arith) in (r.tokens, r.read)

-- ---- the grammar as a server

reads_as_said : (mode : Bool) (q : ℕ) → mode ≡ reads_in grammar mode q
reads_as_said true q = refl
reads_as_said false q = refl

same_block : (c : Bool) (k : Block) → cond c k k ≡ k
same_block true k = refl
same_block false k = refl

block_read : (text : List ℕ) → begins is_extension text ≡ false → block_on grammar text ≡ comment
block_read text h = rw h (same_block (begins_special text) comment)

block_executed : (text : List ℕ) → begins is_extension text ≡ true → block_on grammar text ≡ executed
block_executed [] h = cc
block_executed (b ∷ bs) h = rw h refl

line_none : (b gap : ℕ) → (b == dash && (is_white_space gap && not (gap == newline))) ≡ false →
    (b == dash && opens_line grammar gap) ≡ false
line_none b gap h = false_if (b == dash) (opens_line grammar gap) (λ d. closed (second_false (b == dash) _ h d))
  where
    no_space : (c : Bool) → (gap == space) ≡ c → (is_white_space gap && not (gap == newline)) ≡ false → c ≡ false
    no_space false e w = refl
    no_space true e w = absurd (true≢false (subst (λ x. (is_white_space x && not (x == newline)) ≡ false) (eqb-true gap space e) w))

    closed : (is_white_space gap && not (gap == newline)) ≡ false → opens_line grammar gap ≡ false
    closed w =
        or_from _ _ (no_space (gap == space) refl w)
        (ap (λ x. not (keeps_dashes gap) && x) w ∙ and_right (not (keeps_dashes gap)) false refl)

dash_none_on : (xs : List ℕ) → dash_comment xs ≡ None → dash_comment_on grammar xs ≡ None
dash_none_on [] e = refl
dash_none_on (b ∷ []) e = refl
dash_none_on (b ∷ gap ∷ bs) e = rw (line_none b gap (dash_none (b ∷ gap ∷ bs) e)) refl

block_none_on : (xs : List ℕ) → block_comment xs ≡ None → block_comment_on grammar xs ≡ None
block_none_on [] e = refl
block_none_on (b ∷ bs) e = go (cases_Bool (b == asterisk)) (cases_Bool (begins is_extension bs)) (block_none (b ∷ bs) e)
  where
    go : ((b == asterisk) ≡ true) ⊎ ((b == asterisk) ≡ false) →
        (begins is_extension bs ≡ true) ⊎ (begins is_extension bs ≡ false) →
        (b == asterisk && not (begins is_extension bs)) ≡ false → block_comment_on grammar (b ∷ bs) ≡ None
    go (inr f) x h = rw f refl
    go (inl f) (inl x) h = rw f (ap (comment_by bs) (block_executed bs x))
    go (inl f) (inr x) h = absurd (true≢false (rw (f, x) at h))

own_none_on : (b : ℕ) (bs : List ℕ) → own_on grammar b bs ≡ None
own_none_on b bs = go (begins_own b bs)
  where
    go : (c : Bool) → cond c (own_text b bs None) None ≡ None
    go true = refl
    go false = refl

plain_none_on : (mode : Bool) (b : ℕ) (rest : List ℕ) → not_plain_at mode (b ∷ rest) ≡ None →
    not_plain_on grammar mode (b ∷ rest) ≡ None
plain_none_on mode b rest =
    cond_none (is_string_quote b) _ _ _ _ (some_none _ _)
    (cond_none (b == backquote) _ _ _ _ (some_none _ _)
    (cond_none (b == hash) _ _ _ _ (some_none _ _)
    (cond_none (b == dash) _ _ _ _ (dash_none_on rest)
    (cond_none (b == slash) _ _ _ _ (block_none_on rest)
    (cond_none (b == colon) _ _ _ _ (λ e. e)
    (cond_none (b == question_mark) _ _ _ _ (some_none _ _) (λ e. own_none_on b rest)))))))

-- before white space other than the newline the grammar opens a comment
opens_at_white : (b : ℕ) → is_white_space b ≡ true → b ≢ newline → opens_line grammar b ≡ true
opens_at_white b h ne = rw (keeps_no_white b h, h, ne_eqb b newline ne) (or_right (b == space) true refl)

none_asked : (asked : Bool) → ◌≡◌ {A = Option ℕ} (cond asked None None) None
none_asked true = refl
none_asked false = refl

token_to : (mode : Bool) (t : Token) (rest : List ℕ) → IsToken mode t rest → IsTokenOn grammar mode t rest
token_to mode (QuotedString quote tail) rest h = usual_quotes h.0 (subst (λ m. IsStringTail m quote tail rest) (reads_as_said mode quote) h.1)
token_to mode (QuotedIdentifier tail) rest h = usual_end (none_asked (escapes_backquote (tail ++ rest))) h
token_to mode (HashComment tail) rest h = usual_end (none_asked (holds_return (tail ++ rest))) h
token_to mode (DashComment gap tail) rest h =
    (opens_at_white gap h.0 h.1, open_tail h.1 (usual_end (none_asked (holds_return (tail ++ rest))) h.2))
token_to mode (BlockComment tail) rest h = usual_block (block_read (tail ++ rest) h.0) h.1
token_to mode (Name name) rest h = h
token_to mode Mark rest h = tt
token_to mode (Plain b) rest h = plain_on grammar mode b rest (plain_none_on mode b rest (plain_none mode b rest h))

tokens_to : (mode : Bool) (ts : List Token) → AreTokensBefore mode [] ts → AreTokensOn grammar mode ts
tokens_to mode [] h = tt
tokens_to mode (t ∷ ts) h = (token_to mode t (text_of ts) h.0, tokens_to mode ts h.1)

pub grammar_reads : (mode : Bool) (query : List ℕ) (ts : List Token) → IsTokens mode query ts →
    IsReadOn grammar mode query ts
grammar_reads mode query ts h = record { text = h.text; each = tokens_to mode ts h.each }

pub read_by_grammar : (mode : Bool) (query : List ℕ) (ts : List Token) → IsReadOn grammar mode query ts →
    IsTokens mode query ts
read_by_grammar mode query ts u =
    let h = tokens_exist mode query in
    subst (IsTokens mode query) (one_list_on grammar mode query h.0 ts (grammar_reads mode query h.0 h.1) u) h.1
