-- A client of which no block comment holds an opener reads as its server.
use Rattle.std.specs.Prelude.{Bool, ⊤}
use Rattle.std.proofs.Common.{◌≡◌, ◌⊎◌, ℕ, true, false, cond, ◌==◌, List, [], ◌∷◌, ◌++◌, Option, Some, None, refl, sym, ap, ◌∙◌, subst, inl, inr, arith, true≢false, append-nil}
use Rattle.std.proofs.lemmas.List.{append_cancel_left}
use Rattle.std.proofs.lemmas.Bool.{cases_Bool, eqb-true}
use Rattle.mysql_named_params.specs.Bytes.{asterisk, slash, is_string_quote, IsUpTo, up_to_word, up_to_end}
use Rattle.mysql_named_params.specs.Tokens.{Token, bytes_of, text_of, IsTokens, AreTokensBefore, QuotedString, QuotedIdentifier, HashComment, DashComment, BlockComment, Name, Mark, Plain}
use Rattle.mysql_named_params.proofs.TokenEnds.{take_front, up_to_is}
use Rattle.mysql_named_params.proofs.TokenListLemmas.{some_byte}
use Rattle.mysql_portable.specs.Server.{Server, comment, begins_special, begins_own, block_on, usual_block, own_block, usual_quotes, own_quotes, IsQuotedTail, IsTokenOn, AreTokensOn, IsReadOn}
use Rattle.mysql_portable.specs.Portable.{AreReadAlikeBefore, IsReadAs, read_all, read_same, read_empty_comment, read_skipped, read_executed}
use Rattle.mysql_portable.specs.Quiet.{IsHonest, plain_then}
use Rattle.mysql_portable.specs.Client.{Client, holds_opener, block_by, usual_block_by, own_block_by, IsNotPlainBy, IsTokenBy, AreTokensBy, IsReadBy, HoldNoOpener}
use Rattle.mysql_portable.proofs.ServerTokenLemmas.{not_plain_on, not_plain_on_is, comment_by, block_comment_on}
use Rattle.mysql_portable.proofs.GrammarLemmas.{tokens_on}
use Rattle.mysql_portable.proofs.SharpLemmas.{plain_none_on, after_row}
use Rattle.mysql_portable.proofs.QuietLemmas.{portable_read, read_text}

-- ---- openers

-- an opener is in the comment, or nowhere
pub opener_in_front : (tail rest : List ℕ) → IsUpTo (asterisk ∷ slash ∷ []) tail rest →
    holds_opener (tail ++ rest) ≡ holds_opener tail
opener_in_front tail rest (up_to_end lacks e) = rw e (ap holds_opener (append-nil tail))
opener_in_front tail rest (up_to_word body e ends) =
    subst (λ x. holds_opener (x ++ rest) ≡ holds_opener x) e (closed body)
  where
    at_end : (more : List ℕ) → holds_opener (asterisk ∷ slash ∷ more) ≡ false
    at_end [] = refl
    at_end (b ∷ bs) = refl

    closed : (xs : List ℕ) → holds_opener ((xs ++ asterisk ∷ slash ∷ []) ++ rest) ≡ holds_opener (xs ++ asterisk ∷ slash ∷ [])
    closed [] = at_end rest
    closed (b ∷ []) = rw (at_end rest) refl
    closed (b ∷ c ∷ []) = rw (closed (c ∷ [])) refl
    closed (b ∷ c ∷ d ∷ xs) = rw (closed (c ∷ d ∷ xs)) refl

-- ---- the token, computed

abbrev pub block_comment_by : Client → List ℕ → Option Token
block_comment_by client [] = None
block_comment_by client (b ∷ bs) = cond (b == asterisk) (comment_by bs (block_by client bs)) None

-- the token other than a plain one with which the text begins
abbrev pub not_plain_by : Client → Bool → List ℕ → Option Token
not_plain_by client mode [] = None
not_plain_by client mode (b ∷ bs) =
    cond (b == slash) (block_comment_by client bs) (not_plain_on client.reader mode (b ∷ bs))

cond_else : (c : Bool) (x y : Option Token) → c ≡ false → cond c x y ≡ y
cond_else true x y e = absurd (true≢false e)
cond_else false x y e = refl

no_slash : (b : ℕ) → (b ≡ slash → ⊥) → (b == slash) ≡ false
no_slash b f = elim (cases_Bool (b == slash)) [ inl e ↦ absurd (f (eqb-true b slash e)) | inr e ↦ e ]

slash_no_quote : (b : ℕ) → is_string_quote b ≡ true → b ≡ slash → ⊥
slash_no_quote b h e = true≢false (sym h ∙ ap is_string_quote e)

slash_no_own : (b : ℕ) (bs : List ℕ) → begins_own b bs ≡ true → b ≡ slash → ⊥
slash_no_own b bs h e = true≢false (sym h ∙ ap (λ x. begins_own x bs) e)

not_slash : (server : Server) (mode : Bool) (quote : ℕ) (tail rest : List ℕ) →
    IsQuotedTail server mode quote tail rest → (quote == slash) ≡ false
not_slash server mode quote tail rest (usual_quotes q h) = no_slash quote (slash_no_quote quote q)
not_slash server mode quote tail rest (own_quotes n o s e) = no_slash quote (slash_no_own quote (tail ++ rest) o)

not_plain_by_is : (client : Client) (mode : Bool) (t : Token) (rest : List ℕ) →
    IsNotPlainBy client mode t rest → not_plain_by client mode (bytes_of t ++ rest) ≡ Some t
not_plain_by_is client mode (QuotedString quote tail) rest h =
    cond_else (quote == slash) _ _ (not_slash client.reader mode quote tail rest h) ∙ not_plain_on_is client.reader mode (QuotedString quote tail) rest h
not_plain_by_is client mode (QuotedIdentifier tail) rest h = not_plain_on_is client.reader mode (QuotedIdentifier tail) rest h
not_plain_by_is client mode (HashComment tail) rest h = not_plain_on_is client.reader mode (HashComment tail) rest h
not_plain_by_is client mode (DashComment gap tail) rest h = not_plain_on_is client.reader mode (DashComment gap tail) rest h
not_plain_by_is client mode (BlockComment tail) rest (usual_block_by s h) =
    ap (comment_by (tail ++ rest)) s ∙ ap (λ x. Some (BlockComment x)) (take_front tail rest _ (up_to_is (asterisk ∷ slash ∷ []) tail rest (omega arith) h))
not_plain_by_is client mode (BlockComment tail) rest (own_block_by n s e) =
    ap (comment_by (tail ++ rest)) s ∙ ap (λ x. Some (BlockComment x)) e
not_plain_by_is client mode (Name name) rest h = not_plain_on_is client.reader mode (Name name) rest h
not_plain_by_is client mode Mark rest h = refl
not_plain_by_is client mode (Plain b) rest h = absurd h

-- if none is computed, the first byte is a plain token
plain_by : (client : Client) (mode : Bool) (b : ℕ) (rest : List ℕ) →
    not_plain_by client mode (b ∷ rest) ≡ None → IsTokenBy client mode (Plain b) rest
plain_by client mode b rest none_there t after h e =
    let found : not_plain_by client mode (b ∷ rest) ≡ Some t = sym (ap (not_plain_by client mode) e) ∙ not_plain_by_is client mode t after h in
    cc

-- ---- one token list

not_plain_or_plain : (client : Client) (mode : Bool) (t : Token) (r : List ℕ) → IsTokenBy client mode t r →
    IsNotPlainBy client mode t r ⊎ ((b : ℕ) × (t ≡ Plain b))
not_plain_or_plain client mode (Plain b) r h = inr (b, refl)
not_plain_or_plain client mode (QuotedString quote tail) r h = inl h
not_plain_or_plain client mode (QuotedIdentifier tail) r h = inl h
not_plain_or_plain client mode (HashComment tail) r h = inl h
not_plain_or_plain client mode (DashComment gap tail) r h = inl h
not_plain_or_plain client mode (BlockComment tail) r h = inl h
not_plain_or_plain client mode (Name name) r h = inl h
not_plain_or_plain client mode Mark r h = inl h

-- a text begins with one token
one_token_by : (client : Client) (mode : Bool) (t u : Token) (r s : List ℕ) → IsTokenBy client mode t r →
    IsTokenBy client mode u s → bytes_of t ++ r ≡ bytes_of u ++ s → t ≡ u
one_token_by client mode t u r s ht hu e =
    elim (not_plain_or_plain client mode t r ht) [
      | inl ht' ↦ elim (not_plain_or_plain client mode u s hu) [
        | inl hu' ↦
            let same : Some t ≡ Some u = sym (not_plain_by_is client mode t r ht') ∙ (ap (not_plain_by client mode) e ∙ not_plain_by_is client mode u s hu') in
            cc
        | inr p ↦
            let hp : IsTokenBy client mode (Plain p.0) s = subst (λ x. IsTokenBy client mode x s) p.1 hu in
            absurd (hp t r ht' (e ∙ ap (λ x. bytes_of x ++ s) p.1))
      ]
      | inr p ↦ elim (not_plain_or_plain client mode u s hu) [
        | inl hu' ↦
            let hp : IsTokenBy client mode (Plain p.0) r = subst (λ x. IsTokenBy client mode x r) p.1 ht in
            absurd (hp u s hu' (sym e ∙ ap (λ x. bytes_of x ++ r) p.1))
        | inr q ↦
            let heads : p.0 ∷ r ≡ q.0 ∷ s = sym (ap (λ x. bytes_of x ++ r) p.1) ∙ (e ∙ ap (λ x. bytes_of x ++ s) q.1) in
            let same : p.0 ≡ q.0 = cc in
            p.1 ∙ (ap Plain same ∙ sym q.1)
      ]
    ]

one_cut_by : (client : Client) (mode : Bool) (ts us : List Token) → AreTokensBy client mode ts →
    AreTokensBy client mode us → text_of ts ≡ text_of us → ts ≡ us
one_cut_by client mode [] [] ht hu e = refl
one_cut_by client mode [] (u ∷ us) ht hu e = absurd (some_byte u (text_of us) (sym e))
one_cut_by client mode (t ∷ ts) [] ht hu e = absurd (some_byte t (text_of ts) e)
one_cut_by client mode (t ∷ ts) (u ∷ us) ht hu e =
    let same : t ≡ u = one_token_by client mode t u (text_of ts) (text_of us) ht.0 hu.0 e in
    let rest : text_of ts ≡ text_of us = append_cancel_left (bytes_of t) _ _ (e ∙ ap (λ x. bytes_of x ++ text_of us) (sym same)) in
    let tails : ts ≡ us = one_cut_by client mode ts us ht.1 hu.1 rest in
    cc

-- no text has two token lists by one client in one mode
pub one_list_by : (client : Client) (mode : Bool) (text : List ℕ) (ts us : List Token) →
    IsReadBy client mode text ts → IsReadBy client mode text us → ts ≡ us
one_list_by client mode text ts us ht hu = one_cut_by client mode ts us ht.each hu.each (ht.text_is ∙ sym hu.text_is)

-- ---- if no comment holds an opener

-- the client's own reading of the comment isn't used
abbrev pub IsAskedNothing : Token → List ℕ → Type 0
IsAskedNothing (BlockComment tail) rest =
    (begins_special (tail ++ rest) ≡ true) ⊎ (holds_opener (tail ++ rest) ≡ false)
IsAskedNothing t rest = ⊤

abbrev pub AreAskedNothing : List Token → Type 0
AreAskedNothing [] = ⊤
AreAskedNothing (t ∷ ts) = IsAskedNothing t (text_of ts) × AreAskedNothing ts

block_same : (client : Client) (text : List ℕ) →
    (begins_special text ≡ true) ⊎ (holds_opener text ≡ false) → block_by client text ≡ block_on client.reader text
block_same client text (inl s) = rw s refl
block_same client text (inr o) = rw o (go (begins_special text))
  where
    go : (s : Bool) → cond s (client.reader.special text) (cond false (client.inside text) comment) ≡ cond s (client.reader.special text) comment
    go true = refl
    go false = refl

block_none_by : (client : Client) (rest : List ℕ) → block_comment_on client.reader rest ≡ None → block_comment_by client rest ≡ None
block_none_by client [] e = refl
block_none_by client (b ∷ bs) e = go (b == asterisk) (begins_special bs) e
  where
    go : (a s : Bool) → cond a (comment_by bs (cond s (client.reader.special bs) comment)) None ≡ None →
        cond a (comment_by bs (cond s (client.reader.special bs) (cond (holds_opener bs) (client.inside bs) comment))) None ≡ None
    go false s e = refl
    go true true e = e
    go true false e = cc

none_by : (client : Client) (mode : Bool) (b : ℕ) (rest : List ℕ) → not_plain_on client.reader mode (b ∷ rest) ≡ None →
    not_plain_by client mode (b ∷ rest) ≡ None
none_by client mode b rest e = go (cases_Bool (b == slash))
  where
    at_slash : (x : ℕ) → x ≡ slash → not_plain_on client.reader mode (x ∷ rest) ≡ None → block_comment_on client.reader rest ≡ None
    at_slash x f = subst (λ y. not_plain_on client.reader mode (y ∷ rest) ≡ None → block_comment_on client.reader rest ≡ None) (sym f) (λ n. n)

    go : ((b == slash) ≡ true) ⊎ ((b == slash) ≡ false) → not_plain_by client mode (b ∷ rest) ≡ None
    go (inl s) = rw s (block_none_by client rest (at_slash b (eqb-true b slash s) e))
    go (inr s) = cond_else (b == slash) _ _ s ∙ e

token_by : (client : Client) (mode : Bool) (t : Token) (rest : List ℕ) → IsTokenOn client.reader mode t rest →
    IsAskedNothing t rest → IsTokenBy client mode t rest
token_by client mode (BlockComment tail) rest (usual_block k u) q = usual_block_by (block_same client (tail ++ rest) q ∙ k) u
token_by client mode (BlockComment tail) rest (own_block n k e) q = own_block_by n (block_same client (tail ++ rest) q ∙ k) e
token_by client mode (Plain b) rest h q = plain_by client mode b rest (none_by client mode b rest (plain_none_on client.reader mode b rest h))
token_by client mode (QuotedString quote tail) rest h q = h
token_by client mode (QuotedIdentifier tail) rest h q = h
token_by client mode (HashComment tail) rest h q = h
token_by client mode (DashComment gap tail) rest h q = h
token_by client mode (Name name) rest h q = h
token_by client mode Mark rest h q = h

tokens_by : (client : Client) (mode : Bool) (us : List Token) → AreTokensOn client.reader mode us → AreAskedNothing us →
    AreTokensBy client mode us
tokens_by client mode [] h q = tt
tokens_by client mode (t ∷ ts) h q = (token_by client mode t (text_of ts) h.0 q.0, tokens_by client mode ts h.1 q.1)

after_plain : (tail : List ℕ) (us : List Token) → AreAskedNothing us → AreAskedNothing (plain_then us tail)
after_plain [] us h = h
after_plain (b ∷ bs) us h = (tt, after_plain bs us h)

opener_after_plain : (tail : List ℕ) (ts : List Token) → HoldNoOpener (plain_then ts tail) → HoldNoOpener ts
opener_after_plain [] ts h = h
opener_after_plain (b ∷ bs) ts h = opener_after_plain bs ts h

-- so it is of the tokens of such a query on the server
asked_nothing : (mode : Bool) {ts us : List Token} → IsReadAs ts us → AreTokensBefore mode [] ts → HoldNoOpener ts → AreAskedNothing us
asked_nothing mode read_all h o = tt
asked_nothing mode (read_same {t = BlockComment tail} {ts = ts} r) h o =
    (subst (λ x. (begins_special (tail ++ x) ≡ true) ⊎ (holds_opener (tail ++ x) ≡ false)) (sym (read_text r)) (inr (opener_in_front tail (text_of ts) h.0.1 ∙ o.0)), asked_nothing mode r h.1 o.1)
asked_nothing mode (read_same {t = QuotedString quote tail} r) h o = (tt, asked_nothing mode r h.1 o)
asked_nothing mode (read_same {t = QuotedIdentifier tail} r) h o = (tt, asked_nothing mode r h.1 o)
asked_nothing mode (read_same {t = HashComment tail} r) h o = (tt, asked_nothing mode r h.1 o)
asked_nothing mode (read_same {t = DashComment gap tail} r) h o = (tt, asked_nothing mode r h.1 o)
asked_nothing mode (read_same {t = Name name} r) h o = (tt, asked_nothing mode r h.1 o)
asked_nothing mode (read_same {t = Mark} r) h o = (tt, asked_nothing mode r h.1 o)
asked_nothing mode (read_same {t = Plain b} r) h o = (tt, asked_nothing mode r h.1 o)
asked_nothing mode (read_empty_comment r) h o = (tt, asked_nothing mode r h.1.1.1 o)
asked_nothing mode (read_skipped {ts = ts} tail q r) h o =
    (subst (λ x. (begins_special (tail ++ x) ≡ true) ⊎ (holds_opener (tail ++ x) ≡ false)) (sym (read_text r)) (inl q.special), asked_nothing mode r (after_row mode tail ts h.1.1) (opener_after_plain tail ts o))
asked_nothing mode (read_executed {us = us} tail q r) h o = (tt, (tt, after_plain tail us (asked_nothing mode r h.1 o.1)))

-- the client reads as its server
pub reads_as_server : (client : Client) (mode : Bool) (query : List ℕ) (ts us : List Token) → IsHonest client.reader →
    IsTokens mode query ts → AreReadAlikeBefore [] ts → HoldNoOpener ts → IsReadOn client.reader mode query us →
    IsReadBy client mode query us
reads_as_server client mode query ts us honest h p o u =
    let r = portable_read client.reader mode query ts us honest h p u in
    record { text_is = u.text; each = tokens_by client mode us u.each (asked_nothing mode r h.each o) }

-- and in no other way
pub read_as_server : (client : Client) (mode : Bool) (query : List ℕ) (ts us : List Token) → IsHonest client.reader →
    IsTokens mode query ts → AreReadAlikeBefore [] ts → HoldNoOpener ts → IsReadBy client mode query us →
    IsReadOn client.reader mode query us
read_as_server client mode query ts us honest h p o u =
    let v = tokens_on client.reader mode query in
    let same : v.0 ≡ us = one_list_by client mode query v.0 us (reads_as_server client mode query ts v.0 honest h p o v.1) u in
    subst (IsReadOn client.reader mode query) same v.1
