-- The token with which a text begins on a server, computed; no query has two token lists there.
use Rattle.std.specs.Prelude.{Bool}
use Rattle.std.proofs.Common.{◌≡◌, ◌⊎◌, ℕ, true, false, cond, ◌==◌, ◌&&◌, ◌||◌, List, [], ◌∷◌, ◌++◌, take, Option, Some, None, refl, sym, ap, ◌∙◌, subst, inl, inr, arith, eq-eqb, ne_eqb}
use Rattle.std.proofs.lemmas.List.{append_cancel_left}
use Rattle.std.proofs.lemmas.Bool.{and_parts, eqb-true}
use Rattle.mysql_named_params.specs.Bytes.{asterisk, backquote, colon, dash, hash, newline, question_mark, slash, is_string_quote, bracket, dollar, point}
use Rattle.mysql_named_params.specs.Tokens.{Token, bytes_of, text_of, QuotedString, QuotedIdentifier, HashComment, DashComment, BlockComment, Name, Mark, Plain}
use Rattle.mysql_named_params.specs.TokensOf.{len_up_to, string_len, name_at}
use Rattle.mysql_named_params.proofs.TokenEnds.{take_front, up_to_is, string_len_is, name_len_is}
use Rattle.mysql_named_params.proofs.TokenListLemmas.{some_byte}
use Rattle.mysql_portable.specs.Server.{Server, opens_line, line_on, identifier_on, begins_tag, begins_fraction, begins_own, Block, executed, comment, comment_of, block_on, reads_in, usual_block, own_block, IsTailBy, usual_end, own_end, IsDashTail, ended_tail, open_tail, usual_quotes, own_quotes, IsNotPlainOn, IsTokenOn, AreTokensOn, IsReadOn}

-- ---- the token, computed

-- the bytes after the first byte of a token, up to this end or by the server's own number
abbrev pub tail_by : Option ℕ → ℕ → List ℕ → List ℕ
tail_by None end bs = take (len_up_to (end ∷ []) bs) bs
tail_by (Some n) end bs = take n bs

-- the bytes after the byte after `--` in a comment
abbrev pub line_tail : Server → ℕ → List ℕ → List ℕ
line_tail server gap bs = cond (gap == newline) [] (tail_by (line_on server bs) newline bs)

abbrev pub dash_comment_on : Server → List ℕ → Option Token
dash_comment_on server [] = None
dash_comment_on server (b ∷ []) = None
dash_comment_on server (b ∷ gap ∷ bs) =
    cond (b == dash && opens_line server gap) (Some (DashComment gap (line_tail server gap bs))) None

abbrev pub comment_by : List ℕ → Block → Option Token
comment_by bs executed = None
comment_by bs comment = Some (BlockComment (take (len_up_to (asterisk ∷ slash ∷ []) bs) bs))
comment_by bs (comment_of n) = Some (BlockComment (take n bs))

abbrev pub block_comment_on : Server → List ℕ → Option Token
block_comment_on server [] = None
block_comment_on server (b ∷ bs) = cond (b == asterisk) (comment_by bs (block_on server bs)) None

abbrev pub own_text : ℕ → List ℕ → Option ℕ → Option Token
own_text b bs None = None
own_text b bs (Some n) = Some (QuotedString b (take n bs))

abbrev pub own_on : Server → ℕ → List ℕ → Option Token
own_on server b bs = cond (begins_own b bs) (own_text b bs (server.quotes b bs)) None

-- the token other than a plain one with which the text begins
abbrev pub not_plain_on : Server → Bool → List ℕ → Option Token
not_plain_on server mode [] = None
not_plain_on server mode (b ∷ bs) =
    cond (is_string_quote b) (Some (QuotedString b (take (string_len (reads_in server mode b) b false bs) bs)))
    (cond (b == backquote) (Some (QuotedIdentifier (tail_by (identifier_on server bs) backquote bs)))
    (cond (b == hash) (Some (HashComment (tail_by (line_on server bs) newline bs)))
    (cond (b == dash) (dash_comment_on server bs)
    (cond (b == slash) (block_comment_on server bs)
    (cond (b == colon) (name_at bs)
    (cond (b == question_mark) (Some Mark) (own_on server b bs)))))))

-- ---- a token on the server is the one that is computed

tail_by_is : (own : Option ℕ) (end : ℕ) (tail rest : List ℕ) → IsTailBy own end tail rest →
    tail_by own end (tail ++ rest) ≡ tail
tail_by_is own end tail rest (usual_end o h) =
    ap (λ k. tail_by k end (tail ++ rest)) o ∙ take_front tail rest _ (up_to_is (end ∷ []) tail rest (omega arith) h)
tail_by_is own end tail rest (own_end n o e) = ap (λ k. tail_by k end (tail ++ rest)) o ∙ e

line_tail_is : (server : Server) (gap : ℕ) (tail rest : List ℕ) → IsDashTail server gap tail rest →
    line_tail server gap (tail ++ rest) ≡ tail
line_tail_is server gap tail rest (ended_tail g nil) = rw (eq-eqb gap newline g) (sym nil)
line_tail_is server gap tail rest (open_tail ne h) =
    rw (ne_eqb gap newline ne) (tail_by_is (line_on server (tail ++ rest)) newline tail rest h)

-- a byte that may begin a text of a server's own is none that begins a token of the grammar
pub own_is : (b : ℕ) (bs : List ℕ) → begins_own b bs ≡ true → (b ≡ bracket) ⊎ ((b ≡ dollar) ⊎ (b ≡ point))
own_is b bs h = go (b == bracket) (b == dollar && begins_tag bs) refl refl h
  where
    go : (c d : Bool) → (b == bracket) ≡ c → (b == dollar && begins_tag bs) ≡ d →
        (c || (d || (b == point && begins_fraction bs))) ≡ true → (b ≡ bracket) ⊎ ((b ≡ dollar) ⊎ (b ≡ point))
    go true d e f h = inl (eqb-true b bracket e)
    go false true e f h = inr (inl (eqb-true b dollar ((and_parts (b == dollar) _ f).0)))
    go false false e f h = inr (inr (eqb-true b point ((and_parts (b == point) _ h).0)))

pub own_at : (server : Server) (mode : Bool) (b : ℕ) (bs : List ℕ) → begins_own b bs ≡ true →
    not_plain_on server mode (b ∷ bs) ≡ own_text b bs (server.quotes b bs)
own_at server mode b bs h = step (own_is b bs h) ∙ rw h refl
  where
    step : (b ≡ bracket) ⊎ ((b ≡ dollar) ⊎ (b ≡ point)) → not_plain_on server mode (b ∷ bs) ≡ own_on server b bs
    step (inl e) = subst (λ x. not_plain_on server mode (x ∷ bs) ≡ own_on server x bs) (sym e) refl
    step (inr (inl e)) = subst (λ x. not_plain_on server mode (x ∷ bs) ≡ own_on server x bs) (sym e) refl
    step (inr (inr e)) = subst (λ x. not_plain_on server mode (x ∷ bs) ≡ own_on server x bs) (sym e) refl

pub not_plain_on_is : (server : Server) (mode : Bool) (t : Token) (rest : List ℕ) →
    IsNotPlainOn server mode t rest → not_plain_on server mode (bytes_of t ++ rest) ≡ Some t
not_plain_on_is server mode (QuotedString quote tail) rest (usual_quotes q h) =
    rw q (ap (λ x. Some (QuotedString quote x)) (take_front tail rest _ (string_len_is (reads_in server mode quote) quote tail rest q h)))
not_plain_on_is server mode (QuotedString quote tail) rest (own_quotes n b s e) =
    own_at server mode quote (tail ++ rest) b ∙ (ap (own_text quote (tail ++ rest)) s ∙ ap (λ x. Some (QuotedString quote x)) e)
not_plain_on_is server mode (QuotedIdentifier tail) rest h =
    ap (λ x. Some (QuotedIdentifier x)) (tail_by_is (identifier_on server (tail ++ rest)) backquote tail rest h)
not_plain_on_is server mode (HashComment tail) rest h =
    ap (λ x. Some (HashComment x)) (tail_by_is (line_on server (tail ++ rest)) newline tail rest h)
not_plain_on_is server mode (DashComment gap tail) rest h =
    rw h.0 (ap (λ x. Some (DashComment gap x)) (line_tail_is server gap tail rest h.1))
not_plain_on_is server mode (BlockComment tail) rest (usual_block s h) =
    ap (comment_by (tail ++ rest)) s ∙ ap (λ x. Some (BlockComment x)) (take_front tail rest _ (up_to_is (asterisk ∷ slash ∷ []) tail rest (omega arith) h))
not_plain_on_is server mode (BlockComment tail) rest (own_block n s e) =
    ap (comment_by (tail ++ rest)) s ∙ ap (λ x. Some (BlockComment x)) e
not_plain_on_is server mode (Name []) rest h = absurd h.0
not_plain_on_is server mode (Name (b ∷ bs)) rest h =
    rw h.0.0 (ap (λ x. Some (Name (b ∷ x))) (take_front bs rest _ (name_len_is bs rest h.0.1 h.1)))
not_plain_on_is server mode Mark rest h = refl
not_plain_on_is server mode (Plain b) rest h = absurd h

-- if none is computed, the first byte is a plain token
pub plain_on : (server : Server) (mode : Bool) (b : ℕ) (rest : List ℕ) →
    not_plain_on server mode (b ∷ rest) ≡ None → IsTokenOn server mode (Plain b) rest
plain_on server mode b rest none_there t after h e =
    let found : not_plain_on server mode (b ∷ rest) ≡ Some t = sym (ap (not_plain_on server mode) e) ∙ not_plain_on_is server mode t after h in
    cc

-- ---- one token list

not_plain_or_plain : (server : Server) (mode : Bool) (t : Token) (r : List ℕ) → IsTokenOn server mode t r →
    IsNotPlainOn server mode t r ⊎ ((b : ℕ) × (t ≡ Plain b))
not_plain_or_plain server mode (Plain b) r h = inr (b, refl)
not_plain_or_plain server mode (QuotedString quote tail) r h = inl h
not_plain_or_plain server mode (QuotedIdentifier tail) r h = inl h
not_plain_or_plain server mode (HashComment tail) r h = inl h
not_plain_or_plain server mode (DashComment gap tail) r h = inl h
not_plain_or_plain server mode (BlockComment tail) r h = inl h
not_plain_or_plain server mode (Name name) r h = inl h
not_plain_or_plain server mode Mark r h = inl h

-- a text begins with one token
one_token_on : (server : Server) (mode : Bool) (t u : Token) (r s : List ℕ) → IsTokenOn server mode t r →
    IsTokenOn server mode u s → bytes_of t ++ r ≡ bytes_of u ++ s → t ≡ u
one_token_on server mode t u r s ht hu e =
    elim (not_plain_or_plain server mode t r ht) [
      | inl ht' ↦ elim (not_plain_or_plain server mode u s hu) [
        | inl hu' ↦
            let same : Some t ≡ Some u = sym (not_plain_on_is server mode t r ht') ∙ (ap (not_plain_on server mode) e ∙ not_plain_on_is server mode u s hu') in
            cc
        | inr p ↦
            let hp : IsTokenOn server mode (Plain p.0) s = subst (λ x. IsTokenOn server mode x s) p.1 hu in
            absurd (hp t r ht' (e ∙ ap (λ x. bytes_of x ++ s) p.1))
      ]
      | inr p ↦ elim (not_plain_or_plain server mode u s hu) [
        | inl hu' ↦
            let hp : IsTokenOn server mode (Plain p.0) r = subst (λ x. IsTokenOn server mode x r) p.1 ht in
            absurd (hp u s hu' (sym e ∙ ap (λ x. bytes_of x ++ r) p.1))
        | inr q ↦
            let heads : p.0 ∷ r ≡ q.0 ∷ s = sym (ap (λ x. bytes_of x ++ r) p.1) ∙ (e ∙ ap (λ x. bytes_of x ++ s) q.1) in
            let same : p.0 ≡ q.0 = cc in
            p.1 ∙ (ap Plain same ∙ sym q.1)
      ]
    ]

one_cut_on : (server : Server) (mode : Bool) (ts us : List Token) → AreTokensOn server mode ts →
    AreTokensOn server mode us → text_of ts ≡ text_of us → ts ≡ us
one_cut_on server mode [] [] ht hu e = refl
one_cut_on server mode [] (u ∷ us) ht hu e = absurd (some_byte u (text_of us) (sym e))
one_cut_on server mode (t ∷ ts) [] ht hu e = absurd (some_byte t (text_of ts) e)
one_cut_on server mode (t ∷ ts) (u ∷ us) ht hu e =
    let same : t ≡ u = one_token_on server mode t u (text_of ts) (text_of us) ht.0 hu.0 e in
    let rest : text_of ts ≡ text_of us = append_cancel_left (bytes_of t) _ _ (e ∙ ap (λ x. bytes_of x ++ text_of us) (sym same)) in
    let tails : ts ≡ us = one_cut_on server mode ts us ht.1 hu.1 rest in
    cc

-- no query has two token lists on one server in one mode
pub one_list_on : (server : Server) (mode : Bool) (query : List ℕ) (ts us : List Token) →
    IsReadOn server mode query ts → IsReadOn server mode query us → ts ≡ us
one_list_on server mode query ts us ht hu = one_cut_on server mode ts us ht.each hu.each (ht.text ∙ sym hu.text)
