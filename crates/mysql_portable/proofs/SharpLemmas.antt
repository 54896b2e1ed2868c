-- No weaker condition than `AreReadAlike` serves: a query that every honest server reads alike, except
-- within quiet comments, passes.
use Rattle.std.specs.Prelude.{Bool}
use Rattle.std.proofs.Common.{◌≡◌, ◌≢◌, ◌⊎◌, ℕ, true, false, cond, not, ◌==◌, ◌&&◌, ◌||◌, List, [], ◌∷◌, ◌++◌, take, Option, Some, None, refl, sym, ap, ◌∙◌, subst, inl, inr, true≢false, ne_eqb}
use Rattle.std.proofs.lemmas.Bool.{cases_Bool, or_from, or_right, false_from_ne_true, eqb-true, not-true}
use Rattle.mysql_sql_text.specs.StringUnits.{AreUnits, no_units, byte_unit, escape_unit}
use Rattle.mysql_named_params.specs.Bytes.{asterisk, backquote, dash, double_quote, newline, slash, space, is_white_space, is_string_quote, begins, IsUpTo, bracket, dollar, point}
use Rattle.mysql_named_params.specs.Tokens.{Token, text_of, IsToken, IsTokens, AreTokensBefore, IsStringTail, closed_string, open_string, open_in_escape, QuotedString, QuotedIdentifier, HashComment, DashComment, BlockComment, Name, Mark, Plain}
use Rattle.mysql_named_params.specs.TokensOf.{not_plain_at, dash_comment}
use Rattle.mysql_named_params.proofs.PlainLemmas.{plain_none}
use Rattle.mysql_named_params.proofs.RestLemmas.{dash_none}
use Rattle.mysql_portable.specs.Server.{Server, keeps_dashes, opens_line, holds_return, escapes_backquote, line_on, identifier_on, begins_special, begins_own, comment, comment_of, block_on, reads_in, IsBlockTail, usual_block, own_block, IsTailBy, usual_end, own_end, IsDashTail, ended_tail, open_tail, IsQuotedTail, usual_quotes, own_quotes, IsTokenOn, AreTokensOn, IsReadOn}
use Rattle.mysql_portable.specs.Portable.{stands_inside, may_open_line, differs_at, is_read_alike, AreReadAlikeBefore, IsReadAs, read_all, read_same, read_empty_comment, read_skipped, read_executed}
use Rattle.mysql_portable.specs.Quiet.{may_begin_something, is_quiet, IsHonest, begins_quiet, plain_then}
use Rattle.mysql_portable.proofs.ServerTokenLemmas.{not_plain_on, dash_comment_on, block_comment_on, comment_by, own_is, own_at}
use Rattle.mysql_portable.proofs.GrammarLemmas.{not_plain_found_on, tokens_on}
use Rattle.mysql_portable.proofs.PortableLemmas.{false_if, returns_alike, escapes_alike, special_more, is_alike_on_all}
use Rattle.mysql_portable.proofs.QuietLemmas.{BeginNothing, begins_nothing, each_begins_nothing, plain_text, read_text}

-- a server that skips quiet comments, and differs from the grammar wherever else one may
abbrev pub contrary : Server
contrary = record {
  special = λ text. cond (is_quiet text) comment (comment_of 0);
  quotes = λ b text. Some 0;
  also_opens = λ b. not (is_white_space b) || b == newline;
  lines = λ text. Some 0;
  identifiers = λ text. Some 0;
  ansi_quotes = true;
}

pub contrary_is_honest : IsHonest contrary
contrary_is_honest text h = rw h refl

-- ---- strings

no_quote_inside : (q : ℕ) (body : List ℕ) → AreUnits true q body → stands_inside q body ≡ false
no_quote_inside q [] no_units = refl
no_quote_inside q (b ∷ []) (byte_unit ne p u) = refl
no_quote_inside q (b ∷ c ∷ bs) (byte_unit ne p u) = or_from _ _ (ne_eqb b q ne) (no_quote_inside q (c ∷ bs) u)
no_quote_inside q (b ∷ c ∷ bs) (escape_unit s u) = absurd (true≢false (sym s))

no_quote_before : (q : ℕ) (body : List ℕ) → AreUnits true q body → stands_inside q (body ++ q ∷ []) ≡ false
no_quote_before q [] no_units = refl
no_quote_before q (b ∷ []) (byte_unit ne p u) = or_from _ _ (ne_eqb b q ne) refl
no_quote_before q (b ∷ c ∷ bs) (byte_unit ne p u) = or_from _ _ (ne_eqb b q ne) (no_quote_before q (c ∷ bs) u)
no_quote_before q (b ∷ c ∷ bs) (escape_unit s u) = absurd (true≢false (sym s))

pub string_ends : (q : ℕ) (tail rest : List ℕ) → IsStringTail true q tail rest → stands_inside q tail ≡ false
string_ends q tail rest (closed_string body u e) = subst (λ x. stands_inside q x ≡ false) e (no_quote_before q body u)
string_ends q tail rest (open_string u nil) = no_quote_inside q tail u
string_ends q tail rest (open_in_escape body b u s e nil) = absurd (true≢false (sym s))

string_alike : (mode : Bool) (q : ℕ) (tail rest : List ℕ) → IsStringTail (reads_in contrary mode q) q tail rest →
    not (q == double_quote && stands_inside q tail) ≡ true
string_alike mode q tail rest h = go (q == double_quote) h
  where
    go : (d : Bool) → IsStringTail (mode || (true && d)) q tail rest → not (d && stands_inside q tail) ≡ true
    go false h = refl
    go true h = ap not (string_ends q tail rest (subst (λ m. IsStringTail m q tail rest) (or_right mode true refl) h))

pub no_own_quote : (q : ℕ) (bs : List ℕ) → is_string_quote q ≡ true → begins_own q bs ≡ true → ⊥
no_own_quote q bs h o = go (own_is q bs o)
  where
    go : (q ≡ bracket) ⊎ ((q ≡ dollar) ⊎ (q ≡ point)) → ⊥
    go (inl e) = true≢false (sym h ∙ ap is_string_quote e)
    go (inr (inl e)) = true≢false (sym h ∙ ap is_string_quote e)
    go (inr (inr e)) = true≢false (sym h ∙ ap is_string_quote e)

quoted_alike : (mode : Bool) (q : ℕ) (tail rest : List ℕ) → is_string_quote q ≡ true → IsQuotedTail contrary mode q tail rest →
    not (q == double_quote && stands_inside q tail) ≡ true
quoted_alike mode q tail rest h (usual_quotes i s) = string_alike mode q tail rest s
quoted_alike mode q tail rest h (own_quotes n o s e) = absurd (no_own_quote q (tail ++ rest) h o)

pub plain_none_on : (server : Server) (mode : Bool) (b : ℕ) (rest : List ℕ) → IsTokenOn server mode (Plain b) rest →
    not_plain_on server mode (b ∷ rest) ≡ None
plain_none_on server mode b rest h = go (not_plain_on server mode (b ∷ rest)) refl
  where
    go : (o : Option Token) → not_plain_on server mode (b ∷ rest) ≡ o → o ≡ None
    go None e = refl
    go (Some t) e = let f = not_plain_found_on server mode (b ∷ rest) t e in absurd (h t f.0 f.1 f.2)

dash_none_there : (mode : Bool) (b : ℕ) (rest : List ℕ) → b ≡ dash → not_plain_on contrary mode (b ∷ rest) ≡ None →
    dash_comment_on contrary rest ≡ None
dash_none_there mode b rest e = subst (λ x. not_plain_on contrary mode (x ∷ rest) ≡ None → dash_comment_on contrary rest ≡ None) (sym e) (λ n. n)

dash_none_here : (mode : Bool) (b : ℕ) (rest : List ℕ) → b ≡ dash → not_plain_at mode (b ∷ rest) ≡ None →
    dash_comment rest ≡ None
dash_none_here mode b rest e = subst (λ x. not_plain_at mode (x ∷ rest) ≡ None → dash_comment rest ≡ None) (sym e) (λ n. n)

no_line : (rest : List ℕ) → dash_comment rest ≡ None → dash_comment_on contrary rest ≡ None → may_open_line rest ≡ false
no_line [] g e = refl
no_line (b ∷ []) g e = refl
no_line (b ∷ gap ∷ bs) g e =
    go (b == dash) (gap == space) (gap == newline) (keeps_dashes gap) (is_white_space gap) _ (dash_none (b ∷ gap ∷ bs) g) e
  where
    go : (d s l k w : Bool) (t : Token) → (d && (w && not l)) ≡ false →
        cond (d && (s || (not k && (not w || l)))) (Some t) None ≡ None → (d && not (s || (l || k))) ≡ false
    go false s l k w t g e = refl
    go true true l k w t g e = refl
    go true false true k w t g e = refl
    go true false false true w t g e = refl
    go true false false false true t g e = absurd (true≢false g)
    go true false false false false t g e = cc

no_own : (mode : Bool) (b : ℕ) (rest : List ℕ) → not_plain_on contrary mode (b ∷ rest) ≡ None → begins_own b rest ≡ false
no_own mode b rest n =
    false_from_ne_true (begins_own b rest) (λ o. let bad : Some (QuotedString b []) ≡ None = sym (own_at contrary mode b rest o) ∙ n in cc)

-- ---- comments

block_alike : (tail rest : List ℕ) → IsBlockTail contrary tail rest →
    (not (begins_special tail) || is_quiet (tail ++ rest)) ≡ true
block_alike tail rest h = go (cases_Bool (begins_special tail)) (cases_Bool (is_quiet (tail ++ rest)))
  where
    no_usual : (s q : Bool) → s ≡ true → q ≡ false → cond s (cond q comment (comment_of 0)) comment ≡ comment → ⊥
    no_usual true false p r e = cc
    no_usual true true p r e = true≢false r
    no_usual false q p r e = true≢false (sym p)

    no_length : (s q : Bool) (n : ℕ) → s ≡ true → q ≡ false → cond s (cond q comment (comment_of 0)) comment ≡ comment_of n → n ≡ 0
    no_length true false n p r e = cc
    no_length true true n p r e = absurd (true≢false r)
    no_length false q n p r e = absurd (true≢false (sym p))

    nothing : (n : ℕ) (xs : List ℕ) → n ≡ 0 → take n xs ≡ []
    nothing n xs e = subst (λ k. take k xs ≡ []) (sym e) refl

    not_quiet : begins_special tail ≡ true → is_quiet (tail ++ rest) ≡ false → IsBlockTail contrary tail rest → ⊥
    not_quiet p r (usual_block k u) = no_usual (begins_special (tail ++ rest)) (is_quiet (tail ++ rest)) (special_more tail rest p) r k
    not_quiet p r (own_block n k e) =
        let zero_is : n ≡ 0 = no_length (begins_special (tail ++ rest)) (is_quiet (tail ++ rest)) n (special_more tail rest p) r k in
        let nil : tail ≡ [] = sym e ∙ nothing n (tail ++ rest) zero_is in
        true≢false (sym p ∙ ap begins_special nil)

    go : (begins_special tail ≡ true) ⊎ (begins_special tail ≡ false) → (is_quiet (tail ++ rest) ≡ true) ⊎ (is_quiet (tail ++ rest) ≡ false) →
        (not (begins_special tail) || is_quiet (tail ++ rest)) ≡ true
    go (inr p) r = rw p refl
    go (inl p) (inl r) = rw r (or_right (not (begins_special tail)) true refl)
    go (inl p) (inr r) = absurd (not_quiet p r h)

-- ---- tokens that end at one byte

-- the server has no number of its own, or ends the text that follows at once
unasked_or_empty : (asked : Bool) (end : ℕ) (tail rest : List ℕ) → IsTailBy (cond asked (Some 0) None) end tail rest →
    (asked ≡ false) ⊎ (tail ≡ [])
unasked_or_empty false end tail rest h = inl refl
unasked_or_empty true end tail rest (usual_end o u) = cc
unasked_or_empty true end tail rest (own_end n o e) =
    let z : n ≡ 0 = cc in
    inr (sym e ∙ ap (λ k. take k (tail ++ rest)) z)

no_return_inside : (tail rest : List ℕ) → IsUpTo (newline ∷ []) tail rest → IsTailBy (line_on contrary (tail ++ rest)) newline tail rest →
    holds_return tail ≡ false
no_return_inside tail rest u h =
    elim (unasked_or_empty (holds_return (tail ++ rest)) newline tail rest h) [
      | inl e ↦ sym (returns_alike tail rest u) ∙ e
      | inr nil ↦ ap holds_return nil
    ]

no_escaped_backquote : (tail rest : List ℕ) → IsUpTo (backquote ∷ []) tail rest →
    IsTailBy (identifier_on contrary (tail ++ rest)) backquote tail rest → escapes_backquote tail ≡ false
no_escaped_backquote tail rest u h =
    elim (unasked_or_empty (escapes_backquote (tail ++ rest)) backquote tail rest h) [
      | inl e ↦ sym (escapes_alike tail rest u) ∙ e
      | inr nil ↦ ap escapes_backquote nil
    ]

space_alone : (gap : ℕ) → is_white_space gap ≡ true → gap ≢ newline → opens_line contrary gap ≡ true → (gap == space) ≡ true
space_alone gap w ne o = go (gap == space) (keeps_dashes gap) (rw (w, ne_eqb gap newline ne) at o)
  where
    go : (s k : Bool) → (s || (not k && (not true || false))) ≡ true → s ≡ true
    go true k e = refl
    go false true e = e
    go false false e = e

no_newline : (server : Server) (gap : ℕ) (tail rest : List ℕ) → gap ≢ newline → IsDashTail server gap tail rest →
    IsTailBy (line_on server (tail ++ rest)) newline tail rest
no_newline server gap tail rest ne (ended_tail e nil) = absurd (ne e)
no_newline server gap tail rest ne (open_tail other h) = h

-- ---- plain bytes

slash_none : (mode : Bool) (b : ℕ) (rest : List ℕ) → b ≡ slash → not_plain_on contrary mode (b ∷ rest) ≡ None →
    block_comment_on contrary rest ≡ None
slash_none mode b rest e = subst (λ x. not_plain_on contrary mode (x ∷ rest) ≡ None → block_comment_on contrary rest ≡ None) (sym e) (λ n. n)

always_block : (bs : List ℕ) → comment_by bs (block_on contrary bs) ≡ None → ⊥
always_block bs = go (begins_special bs) (is_quiet bs)
  where
    go : (s q : Bool) → comment_by bs (cond s (cond q comment (comment_of 0)) comment) ≡ None → ⊥
    go true true e = cc
    go true false e = cc
    go false q e = cc

no_star : (rest : List ℕ) → block_comment_on contrary rest ≡ None → begins (λ c. c == asterisk) rest ≡ false
no_star [] e = refl
no_star (b ∷ bs) e = go (b == asterisk) e
  where
    go : (s : Bool) → cond s (comment_by bs (block_on contrary bs)) None ≡ None → s ≡ false
    go true e = absurd (always_block bs e)
    go false e = refl

plain_same : (mode : Bool) (b : ℕ) (rest : List ℕ) → not_plain_at mode (b ∷ rest) ≡ None →
    not_plain_on contrary mode (b ∷ rest) ≡ None → differs_at b rest ≡ false
plain_same mode b rest g n =
    or_from _ _ (false_if (b == slash) _ (λ h. no_star rest (slash_none mode b rest (eqb-true b slash h) n)))
    (or_from _ _ (false_if (b == dash) _ (λ h. no_line rest (dash_none_here mode b rest (eqb-true b dash h) g) (dash_none_there mode b rest (eqb-true b dash h) n))) (no_own mode b rest n))

by_first : (p q : Bool) → p ≡ true → (p || q) ≡ true
by_first p q e = rw e refl

both : (p q : Bool) → p ≡ true → q ≡ true → (p && q) ≡ true
both p q e f = rw (e, f) refl

token_alike : (mode : Bool) (t : Token) (rest : List ℕ) → IsToken mode t rest → IsTokenOn contrary mode t rest →
    is_read_alike t rest ≡ true
token_alike mode (QuotedString quote tail) rest h o = quoted_alike mode quote tail rest h.0 o
token_alike mode (QuotedIdentifier tail) rest h o = ap not (no_escaped_backquote tail rest h o)
token_alike mode (HashComment tail) rest h o = ap not (no_return_inside tail rest h o)
token_alike mode (DashComment gap tail) rest h o =
    both _ _ (space_alone gap h.0 h.1 o.0) (ap not (no_return_inside tail rest h.2 (no_newline contrary gap tail rest h.1 o.1)))
token_alike mode (BlockComment tail) rest h o = block_alike tail rest o
token_alike mode (Name name) rest h o = refl
token_alike mode Mark rest h o = refl
token_alike mode (Plain b) rest h o =
    by_first (is_alike_on_all (Plain b) rest) (b == slash && begins_quiet rest) (ap not (plain_same mode b rest (plain_none mode b rest h) (plain_none_on contrary mode b rest o)))

-- ---- rows of plain bytes

line_closed : (rest : List ℕ) → begins (λ c. c == dash) rest ≡ false → may_open_line rest ≡ false
line_closed [] h = refl
line_closed (b ∷ []) h = refl
line_closed (b ∷ gap ∷ bs) h = rw h refl

byte_alike : (b : ℕ) (rest : List ℕ) → may_begin_something b rest ≡ false → is_read_alike (Plain b) rest ≡ true
byte_alike b rest h =
    let q = begins_nothing b rest h in
    let d : differs_at b rest ≡ false = or_from _ _ (false_if _ _ (λ e. q.no_block e)) (or_from _ _ (false_if _ _ (λ e. line_closed rest (q.no_dashes e))) q.no_own) in
    by_first (is_alike_on_all (Plain b) rest) (b == slash && begins_quiet rest) (ap not d)

row_alike : (tail : List ℕ) (ts : List Token) → BeginNothing (text_of ts) tail → AreReadAlikeBefore [] ts →
    AreReadAlikeBefore [] (plain_then ts tail)
row_alike [] ts q h = h
row_alike (b ∷ bs) ts q h =
    (subst (λ x. is_read_alike (Plain b) x ≡ true) (sym (plain_text bs ts)) (byte_alike b (bs ++ text_of ts) (not-true _ q.0)), row_alike bs ts q.1 h)

pub after_row : (mode : Bool) (tail : List ℕ) (ts : List Token) → AreTokensBefore mode [] (plain_then ts tail) → AreTokensBefore mode [] ts
after_row mode [] ts h = h
after_row mode (b ∷ bs) ts h = after_row mode bs ts h.1

pub after_row_on : (server : Server) (mode : Bool) (tail : List ℕ) (us : List Token) → AreTokensOn server mode (plain_then us tail) → AreTokensOn server mode us
after_row_on server mode [] us h = h
after_row_on server mode (b ∷ bs) us h = after_row_on server mode bs us h.1

second_dash : (text : List ℕ) → is_read_alike (Plain dash) (newline ∷ text) ≡ true
second_dash [] = refl
second_dash (b ∷ text) = refl

all_alike : (mode : Bool) {ts us : List Token} → IsReadAs ts us → AreTokensBefore mode [] ts →
    AreTokensOn contrary mode us → AreReadAlikeBefore [] ts
all_alike mode read_all h o = tt
all_alike mode (read_same {t = t} {ts = ts} r) h o =
    (token_alike mode t (text_of ts) h.0 (subst (IsTokenOn contrary mode t) (read_text r) o.0), all_alike mode r h.1 o.1)
all_alike mode (read_empty_comment {ts = ts} r) h o =
    (refl, (second_dash (text_of ts), (refl, all_alike mode r h.1.1.1 o.1)))
all_alike mode (read_skipped {ts = ts} tail q r) h o =
    let there : (begins_special (tail ++ text_of ts) && is_quiet (tail ++ text_of ts)) ≡ true = both _ _ q.special q.quiet in
    let opener : begins_quiet (asterisk ∷ text_of (plain_then ts tail)) ≡ true =
    subst (λ x. (begins_special x && is_quiet x) ≡ true) (sym (plain_text tail ts)) there in
    (opener, (refl, row_alike tail ts (each_begins_nothing tail (text_of ts) q.ends q.quiet) (all_alike mode r (after_row mode tail ts h.1.1) o.1)))
all_alike mode (read_executed {us = us} tail q r) h o =
    (or_right (not (begins_special tail)) _ q.quiet, all_alike mode r h.1 (after_row_on contrary mode tail us o.1.1))

pub sharp : (mode : Bool) (query : List ℕ) (ts : List Token) → IsTokens mode query ts →
    ((server : Server) (us : List Token) → IsHonest server → IsReadOn server mode query us → IsReadAs ts us) →
    AreReadAlikeBefore [] ts
sharp mode query ts h alike =
    let u = tokens_on contrary mode query in
    all_alike mode (alike contrary u.0 contrary_is_honest u.1) h.each u.1.each
