-- The tokens of a portable query, on an honest server.
use Rattle.std.specs.Prelude.{Bool, IsTrue, ⊤}
use Rattle.std.proofs.Common.{◌≡◌, ◌⊎◌, ℕ, zero, suc, ◌+◌, ◌≤◌, true, false, cond, not, ◌==◌, ◌&&◌, ◌||◌, List, [], ◌∷◌, ◌++◌, length, take, drop, Option, None, refl, sym, ap, ◌∙◌, subst, inl, inr, arith, true≢false, take-append-drop}
use Rattle.std.proofs.lemmas.List.{append_cancel_left}
use Rattle.std.proofs.lemmas.Bool.{cases_Bool, and_parts, or_parts, or_cases, not-true, not-false, eqb-true}
use Rattle.mysql_named_params.specs.Bytes.{asterisk, backquote, colon, dash, hash, newline, question_mark, slash, is_start_byte, is_string_quote, begins, IsUpTo}
use Rattle.mysql_named_params.specs.Tokens.{Token, bytes_of, text_of, IsToken, IsTokens, AreTokensBefore, QuotedString, QuotedIdentifier, HashComment, DashComment, BlockComment, Name, Mark, Plain}
use Rattle.mysql_named_params.specs.Places.{names, marks}
use Rattle.mysql_named_params.specs.Positions.{positions_from}
use Rattle.mysql_named_params.specs.TokensOf.{not_plain_at, dash_comment, block_comment, begins_with, len_up_to}
use Rattle.mysql_named_params.proofs.TokenEnds.{take_front, up_to_is}
use Rattle.mysql_named_params.proofs.TokenEndLemmas.{up_to_gives}
use Rattle.mysql_portable.specs.Server.{Server, Block, executed, comment, comment_of, begins_special, begins_place, begins_own, block_on, opens_line, usual_block, ended_tail, IsTokenOn, AreTokensOn, IsReadOn}
use Rattle.mysql_portable.specs.Portable.{is_read_alike, AreReadAlikeBefore, IsReadAs, read_all, read_same, read_empty_comment, read_skipped, read_executed}
use Rattle.mysql_portable.specs.Quiet.{may_begin_something, is_for_client, stands_apart, closes, is_quiet, IsQuietComment, reads_or_skips, IsHonest, begins_quiet, plain_then}
use Rattle.mysql_portable.proofs.ServerTokenLemmas.{not_plain_on, dash_comment_on, plain_on, comment_by, one_list_on}
use Rattle.mysql_portable.proofs.PortableLemmas.{second_false, is_alike_on_all, special_more, slash_on, own_none, token_on, head_is, dash_line, has_empty, empty_here, none_here}
use Rattle.mysql_named_params.proofs.RestLemmas.{none_name}

-- ---- a byte that begins nothing

cond_of : (c : Bool) (p q : Option Token) → (c ≡ true → p ≡ None) → q ≡ None → cond c p q ≡ None
cond_of true p q f e = f refl
cond_of false p q f e = e

none_if : (c : Bool) (p : Option Token) → c ≡ false → c ≡ true → p ≡ None
none_if c p f t = absurd (true≢false (sym t ∙ f))

-- the facts about a byte that begins nothing
pub record BeginsNothing (b : ℕ) (rest : List ℕ) : Type 0 where
  pub no_quote : is_string_quote b ≡ false
  pub no_backquote : (b == backquote) ≡ false
  pub no_hash : (b == hash) ≡ false
  pub no_dashes : (b == dash) ≡ true → begins (λ c. c == dash) rest ≡ false
  pub no_block : (b == slash) ≡ true → begins (λ c. c == asterisk) rest ≡ false
  pub no_mark : (b == question_mark) ≡ false
  pub no_name : (b == colon) ≡ true → begins is_start_byte rest ≡ false
  pub no_own : begins_own b rest ≡ false
  pub apart : closes b rest ≡ true → stands_apart (drop 1 rest) ≡ true

pub begins_nothing : (b : ℕ) (rest : List ℕ) → may_begin_something b rest ≡ false → BeginsNothing b rest
begins_nothing b rest h =
    let p1 = or_parts (is_string_quote b) _ h in
    let p2 = or_parts (b == backquote) _ p1.1 in
    let p3 = or_parts (b == hash) _ p2.1 in
    let p4 = or_parts (b == dash) _ p3.1 in
    let p5 = or_parts (b == slash && begins (λ c. c == asterisk) rest) _ p4.1 in
    let p6 = or_parts (begins_place (b ∷ rest)) _ p5.1 in
    let p7 = or_parts (begins_own b rest) _ p6.1 in
    let p8 = or_parts (b == question_mark) _ p6.0 in
    let p9 = or_parts (is_for_client b) _ p7.1 in
    let p10 = or_parts (closes b rest && not (stands_apart (drop 1 rest))) _ p9.1 in
    record {
      no_quote = p1.0;
      no_backquote = p2.0;
      no_hash = p3.0;
      no_dashes = λ e. absurd (true≢false (sym e ∙ p4.0));
      no_block = λ e. second_false _ _ p5.0 e;
      no_mark = p8.0;
      no_name = λ e. second_false _ _ p8.1 e;
      no_own = p7.0;
      apart = λ e. not-false _ (second_false _ _ p10.0 e);
    }

dash_no_on : (server : Server) (rest : List ℕ) → begins (λ c. c == dash) rest ≡ false → dash_comment_on server rest ≡ None
dash_no_on server [] h = refl
dash_no_on server (b ∷ []) h = refl
dash_no_on server (b ∷ gap ∷ bs) h = rw h refl

dash_no : (rest : List ℕ) → begins (λ c. c == dash) rest ≡ false → dash_comment rest ≡ None
dash_no [] h = refl
dash_no (b ∷ []) h = refl
dash_no (b ∷ gap ∷ bs) h = rw h refl

slash_no : (rest : List ℕ) → begins (λ c. c == asterisk) rest ≡ false → block_comment rest ≡ None
slash_no [] h = refl
slash_no (b ∷ bs) h = rw h refl

-- such a byte is plain on a server
pub begins_nothing_on : (server : Server) (mode : Bool) (b : ℕ) (rest : List ℕ) → may_begin_something b rest ≡ false →
    not_plain_on server mode (b ∷ rest) ≡ None
begins_nothing_on server mode b rest h =
    let q = begins_nothing b rest h in
    cond_of (is_string_quote b) _ _ (none_if _ _ q.no_quote)
    (cond_of (b == backquote) _ _ (none_if _ _ q.no_backquote)
    (cond_of (b == hash) _ _ (none_if _ _ q.no_hash)
    (cond_of (b == dash) _ _ (λ e. dash_no_on server rest (q.no_dashes e))
    (cond_of (b == slash) _ _ (λ e. slash_on server rest (q.no_block e))
    (cond_of (b == colon) _ _ (λ e. none_name rest (q.no_name e))
    (cond_of (b == question_mark) _ _ (none_if _ _ q.no_mark) (own_none server b rest q.no_own)))))))

-- and in the grammar
pub begins_nothing_at : (mode : Bool) (b : ℕ) (rest : List ℕ) → may_begin_something b rest ≡ false →
    not_plain_at mode (b ∷ rest) ≡ None
begins_nothing_at mode b rest h =
    let q = begins_nothing b rest h in
    cond_of (is_string_quote b) _ _ (none_if _ _ q.no_quote)
    (cond_of (b == backquote) _ _ (none_if _ _ q.no_backquote)
    (cond_of (b == hash) _ _ (none_if _ _ q.no_hash)
    (cond_of (b == dash) _ _ (λ e. dash_no rest (q.no_dashes e))
    (cond_of (b == slash) _ _ (λ e. slash_no rest (q.no_block e))
    (cond_of (b == colon) _ _ (λ e. none_name rest (q.no_name e))
    (cond_of (b == question_mark) _ _ (none_if _ _ q.no_mark) refl))))))

-- ---- the text of a quiet comment

-- no byte begins something, before those after it and then a rest
abbrev pub BeginNothing : List ℕ → List ℕ → Type 0
BeginNothing rest [] = ⊤
BeginNothing rest (b ∷ bs) = IsTrue (not (may_begin_something b (bs ++ rest))) × BeginNothing rest bs

apart_no_asterisk : (text : List ℕ) → stands_apart text ≡ true → begins (λ x. x == asterisk) text ≡ false
apart_no_asterisk [] h = refl
apart_no_asterisk (b ∷ rest) h = grind arith

-- a text that begins with `*/`, and is quiet
two_begin_nothing : (b : ℕ) (rest : List ℕ) → is_quiet (b ∷ rest) ≡ true → begins_with (asterisk ∷ slash ∷ []) (b ∷ rest) ≡ true →
    BeginNothing (drop 2 (b ∷ rest)) (take 2 (b ∷ rest))
two_begin_nothing b [] h w = absurd (true≢false (sym (and_parts (asterisk == b) false w).1))
two_begin_nothing b (c ∷ bs) h w =
    let p = and_parts (not (may_begin_something b (c ∷ bs))) (closes b (c ∷ bs) || is_quiet (c ∷ bs)) h in
    (p.0, (last p.0 (or_cases (closes b (c ∷ bs)) (is_quiet (c ∷ bs)) p.1), tt))
  where
    at_slash : (d : ℕ) → d ≡ slash → begins (λ x. x == asterisk) bs ≡ false → not (may_begin_something d bs) ≡ true
    at_slash d e f = rw (e, f) refl

    last : not (may_begin_something b (c ∷ bs)) ≡ true → (closes b (c ∷ bs) ≡ true) ⊎ (is_quiet (c ∷ bs) ≡ true) →
        not (may_begin_something c bs) ≡ true
    last f (inr q) = (and_parts (not (may_begin_something c bs)) _ q).0
    last f (inl q) =
        let r = and_parts (b == asterisk) _ q in
        at_slash c (eqb-true c slash r.1) (apart_no_asterisk bs ((begins_nothing b (c ∷ bs) (not-true _ f)).apart q))

later_quiet : (b : ℕ) (rest : List ℕ) → is_quiet (b ∷ rest) ≡ true → begins_with (asterisk ∷ slash ∷ []) (b ∷ rest) ≡ false →
    is_quiet rest ≡ true
later_quiet b [] h w =
    elim (or_cases (b == asterisk && false) false (and_parts (not (may_begin_something b [])) _ h).1) [
      | inl q ↦ absurd (true≢false (sym (and_parts (b == asterisk) false q).1))
      | inr q ↦ absurd (true≢false (sym q))
    ]
later_quiet b (c ∷ bs) h w =
    let p = and_parts (not (may_begin_something b (c ∷ bs))) (closes b (c ∷ bs) || is_quiet (c ∷ bs)) h in
    elim (or_cases (closes b (c ∷ bs)) (is_quiet (c ∷ bs)) p.1) [
      | inr q ↦ q
      | inl q ↦ absurd (no_close q)
    ]
  where
    no_close : closes b (c ∷ bs) ≡ true → ⊥
    no_close q =
        let r = and_parts (b == asterisk) _ q in
        let x : b ≡ asterisk = eqb-true b asterisk r.0 in
        let y : c ≡ slash = eqb-true c slash r.1 in
        let z : begins_with (asterisk ∷ slash ∷ []) (asterisk ∷ slash ∷ bs) ≡ false =
        subst (λ u. begins_with (asterisk ∷ slash ∷ []) (asterisk ∷ u ∷ bs) ≡ false) y (subst (λ u. begins_with (asterisk ∷ slash ∷ []) (u ∷ c ∷ bs) ≡ false) x w) in
        true≢false z

front_begins_nothing : (text : List ℕ) → is_quiet text ≡ true →
    BeginNothing (drop (len_up_to (asterisk ∷ slash ∷ []) text) text) (take (len_up_to (asterisk ∷ slash ∷ []) text) text)
front_begins_nothing [] h = tt
front_begins_nothing (b ∷ bs) h = go (front_begins_nothing bs) (cases_Bool (begins_with (asterisk ∷ slash ∷ []) (b ∷ bs)))
  where
    go : (is_quiet bs ≡ true → BeginNothing (drop (len_up_to (asterisk ∷ slash ∷ []) bs) bs) (take (len_up_to (asterisk ∷ slash ∷ []) bs) bs)) →
        (begins_with (asterisk ∷ slash ∷ []) (b ∷ bs) ≡ true) ⊎ (begins_with (asterisk ∷ slash ∷ []) (b ∷ bs) ≡ false) →
        BeginNothing (drop (len_up_to (asterisk ∷ slash ∷ []) (b ∷ bs)) (b ∷ bs)) (take (len_up_to (asterisk ∷ slash ∷ []) (b ∷ bs)) (b ∷ bs))
    go more (inl w) = rw w (two_begin_nothing b bs h w)
    go more (inr w) =
        let p = and_parts (not (may_begin_something b bs)) _ h in
        let first : not (may_begin_something b (take (len_up_to (asterisk ∷ slash ∷ []) bs) bs ++ drop (len_up_to (asterisk ∷ slash ∷ []) bs) bs)) ≡ true = rw take-append-drop p.0 in
        rw w (first, more (later_quiet b bs h w))

-- the bytes up to and with the first `*/` begin nothing
pub each_begins_nothing : (tail rest : List ℕ) → IsUpTo (asterisk ∷ slash ∷ []) tail rest → is_quiet (tail ++ rest) ≡ true →
    BeginNothing rest tail
each_begins_nothing tail rest u h =
    let n = up_to_is (asterisk ∷ slash ∷ []) tail rest (omega arith) u in
    let front : take (len_up_to (asterisk ∷ slash ∷ []) (tail ++ rest)) (tail ++ rest) ≡ tail = take_front tail rest _ n in
    let back : drop (len_up_to (asterisk ∷ slash ∷ []) (tail ++ rest)) (tail ++ rest) ≡ rest =
    append_cancel_left tail _ _ (subst (λ x. x ++ drop (len_up_to (asterisk ∷ slash ∷ []) (tail ++ rest)) (tail ++ rest) ≡ tail ++ rest) front (take-append-drop (len_up_to (asterisk ∷ slash ∷ []) (tail ++ rest)) (tail ++ rest))) in
    subst (λ x. BeginNothing x tail) back (subst (BeginNothing (drop (len_up_to (asterisk ∷ slash ∷ []) (tail ++ rest)) (tail ++ rest))) front (front_begins_nothing (tail ++ rest) h))

-- ---- rows of plain bytes

pub plain_text : (tail : List ℕ) (ts : List Token) → text_of (plain_then ts tail) ≡ tail ++ text_of ts
plain_text [] ts = refl
plain_text (b ∷ bs) ts = ap (λ x. b ∷ x) (plain_text bs ts)

-- a quiet text is a row of plain tokens on a server
pub row_on : (server : Server) (mode : Bool) (tail : List ℕ) (us : List Token) → BeginNothing (text_of us) tail →
    AreTokensOn server mode us → AreTokensOn server mode (plain_then us tail)
row_on server mode [] us q h = h
row_on server mode (b ∷ bs) us q h =
    (plain_on server mode b _ (subst (λ x. not_plain_on server mode (b ∷ x) ≡ None) (sym (plain_text bs us)) (begins_nothing_on server mode b (bs ++ text_of us) (not-true _ q.0))), row_on server mode bs us q.1 h)

-- and in the grammar: tokens of such a text are that row, and others
pub record PlainRow (mode : Bool) (ts : List Token) (tail rest : List ℕ) : Type 0 where
  pub later : List Token
  pub row : ts ≡ plain_then later tail
  pub text : text_of later ≡ rest
  pub holds : AreTokensBefore mode [] later
  pub alike : AreReadAlikeBefore [] later
  pub shorter : length later ≤ length ts

pub plain_row : (mode : Bool) (tail rest : List ℕ) (ts : List Token) → BeginNothing rest tail →
    AreTokensBefore mode [] ts → AreReadAlikeBefore [] ts → text_of ts ≡ tail ++ rest → PlainRow mode ts tail rest
plain_row mode [] rest ts q h a e = record { later = ts; row = refl; text = e; holds = h; alike = a; shorter = omega arith }
plain_row mode (b ∷ bs) rest ts q h a e =
    let i = head_is mode ts b (bs ++ rest) h e (begins_nothing_at mode b (bs ++ rest) (not-true _ q.0)) in
    let h' : AreTokensBefore mode [] (Plain b ∷ i.0) = subst (AreTokensBefore mode []) i.1 h in
    let a' : AreReadAlikeBefore [] (Plain b ∷ i.0) = subst (AreReadAlikeBefore []) i.1 a in
    let r = plain_row mode bs rest i.0 q.1 h'.1 a'.1 i.2 in
    record {
      later = r.later;
      row = i.1 ∙ ap (λ x. Plain b ∷ x) r.row;
      text = r.text;
      holds = r.holds;
      alike = r.alike;
      shorter = omega (arith, r.shorter, ap length i.1);
    }

-- ---- the tokens of a query

pub read_text : {ts us : List Token} → IsReadAs ts us → text_of us ≡ text_of ts
read_text read_all = refl
read_text (read_same {t = t} r) = ap (λ x. bytes_of t ++ x) (read_text r)
read_text (read_empty_comment r) = ap (λ x. dash ∷ dash ∷ newline ∷ x) (read_text r)
read_text (read_skipped {ts = ts} tail q r) =
    ap (λ x. slash ∷ asterisk ∷ x) (ap (λ x. tail ++ x) (read_text r) ∙ sym (plain_text tail ts))
read_text (read_executed {us = us} tail q r) =
    ap (λ x. slash ∷ asterisk ∷ x) (plain_text tail us ∙ ap (λ x. tail ++ x) (read_text r))

-- the tokens as the server reads them
pub record ReadingOn (server : Server) (mode : Bool) (ts : List Token) : Type 0 where
  pub tokens : List Token
  pub alike : IsReadAs ts tokens
  pub holds : AreTokensOn server mode tokens

reading_same : (server : Server) (mode : Bool) (t : Token) (ts : List Token) →
    IsTokenOn server mode t (text_of ts) → ReadingOn server mode ts → ReadingOn server mode (t ∷ ts)
reading_same server mode t ts h r = record {
  tokens = t ∷ r.tokens;
  alike = read_same r.alike;
  holds = (subst (IsTokenOn server mode t) (sym (read_text r.alike)) h, r.holds);
}

reading_empty : (server : Server) (mode : Bool) (ts : List Token) → opens_line server newline ≡ true →
    ReadingOn server mode ts → ReadingOn server mode (Plain dash ∷ Plain dash ∷ Plain newline ∷ ts)
reading_empty server mode ts o r = record {
  tokens = DashComment newline [] ∷ r.tokens;
  alike = read_empty_comment r.alike;
  holds = ((o, ended_tail refl refl), r.holds);
}

-- an honest server's reading of `/*` before a quiet text
two_ways : (k : Block) → reads_or_skips k ≡ true → (k ≡ executed) ⊎ (k ≡ comment)
two_ways executed h = inl refl
two_ways comment h = inr refl
two_ways (comment_of n) h = absurd (true≢false (sym h))

pub block_ways : (server : Server) → IsHonest server → (text : List ℕ) → begins_special text ≡ true → is_quiet text ≡ true →
    (block_on server text ≡ executed) ⊎ (block_on server text ≡ comment)
block_ways server honest text s q = rw s (two_ways (server.special text) (honest text q))

pub opener_on : (server : Server) (mode : Bool) (text : List ℕ) → block_on server text ≡ executed →
    IsTokenOn server mode (Plain slash) (asterisk ∷ text)
opener_on server mode text e = plain_on server mode slash (asterisk ∷ text) (ap (comment_by text) e)

pub star_on : (server : Server) (mode : Bool) (text : List ℕ) → IsTokenOn server mode (Plain asterisk) text
star_on server mode text = plain_on server mode asterisk text refl

reading_skipped : (server : Server) (mode : Bool) (tail : List ℕ) (ts : List Token) → IsQuietComment tail (text_of ts) →
    block_on server (tail ++ text_of ts) ≡ comment → ReadingOn server mode ts →
    ReadingOn server mode (Plain slash ∷ Plain asterisk ∷ plain_then ts tail)
reading_skipped server mode tail ts q k r = record {
  tokens = BlockComment tail ∷ r.tokens;
  alike = read_skipped tail q r.alike;
  holds = (subst (IsTokenOn server mode (BlockComment tail)) (sym (read_text r.alike)) (usual_block k q.ends), r.holds);
}

reading_executed : (server : Server) (mode : Bool) (tail : List ℕ) (ts : List Token) → IsQuietComment tail (text_of ts) →
    block_on server (tail ++ text_of ts) ≡ executed → ReadingOn server mode ts →
    ReadingOn server mode (BlockComment tail ∷ ts)
reading_executed server mode tail ts q k r =
    let same : text_of (plain_then r.tokens tail) ≡ tail ++ text_of ts = plain_text tail r.tokens ∙ ap (λ x. tail ++ x) (read_text r.alike) in
    record {
      tokens = Plain slash ∷ Plain asterisk ∷ plain_then r.tokens tail;
      alike = read_executed tail q r.alike;
      holds = (
        subst (λ x. IsTokenOn server mode (Plain slash) (asterisk ∷ x)) (sym same) (opener_on server mode _ k),
        (star_on server mode _, row_on server mode tail r.tokens (subst (λ x. BeginNothing x tail) (sym (read_text r.alike)) (each_begins_nothing tail (text_of ts) q.ends q.quiet)) r.holds),
      );
    }

-- how a token passes its test
pub data QuietKind (t : Token) (rest : List ℕ) : Type 0 where
  usual_token : is_alike_on_all t rest ≡ true → QuietKind t rest
  opens_text : (text : List ℕ) → t ≡ Plain slash → asterisk ∷ text ≡ rest → begins_special text ≡ true →
      is_quiet text ≡ true → QuietKind t rest
  whole_comment : (tail : List ℕ) → t ≡ BlockComment tail → begins_special tail ≡ true →
      is_quiet (tail ++ rest) ≡ true → QuietKind t rest

comment_kind : (tail rest : List ℕ) → (s q : Bool) → begins_special tail ≡ s → is_quiet (tail ++ rest) ≡ q →
    (not s || q) ≡ true → QuietKind (BlockComment tail) rest
comment_kind tail rest false q es eq h = usual_token (ap not es)
comment_kind tail rest true true es eq h = whole_comment tail refl es eq
comment_kind tail rest true false es eq h = absurd (true≢false (sym h))

slash_kind : (b : ℕ) (rest : List ℕ) → (b == slash && begins_quiet rest) ≡ true → QuietKind (Plain b) rest
slash_kind b [] h = absurd (true≢false (sym (and_parts (b == slash) false h).1))
slash_kind b (c ∷ text) h =
    let p = and_parts (b == slash) _ h in
    let q = and_parts (c == asterisk) _ p.1 in
    let r = and_parts (begins_special text) _ q.1 in
    opens_text text (ap Plain (eqb-true b slash p.0)) (ap (λ x. x ∷ text) (sym (eqb-true c asterisk q.0))) r.0 r.1

pub quiet_kind : (t : Token) (rest : List ℕ) → is_read_alike t rest ≡ true → QuietKind t rest
quiet_kind (BlockComment tail) rest h = comment_kind tail rest (begins_special tail) (is_quiet (tail ++ rest)) refl refl h
quiet_kind (Plain b) rest h =
    elim (or_cases (is_alike_on_all (Plain b) rest) (b == slash && begins_quiet rest) h) [
      | inl e ↦ usual_token e
      | inr e ↦ slash_kind b rest e
    ]
quiet_kind (QuotedString quote tail) rest h = usual_token h
quiet_kind (QuotedIdentifier tail) rest h = usual_token h
quiet_kind (HashComment tail) rest h = usual_token h
quiet_kind (DashComment gap tail) rest h = usual_token h
quiet_kind (Name name) rest h = usual_token h
quiet_kind Mark rest h = usual_token h

-- the tokens of the text of a quiet comment, in the grammar
pub record QuietRow (mode : Bool) (ts : List Token) (text : List ℕ) : Type 0 where
  pub tail : List ℕ
  pub later : List Token
  pub row : ts ≡ Plain asterisk ∷ plain_then later tail
  pub joined : tail ++ text_of later ≡ text
  pub quiet : IsQuietComment tail (text_of later)
  pub holds : AreTokensBefore mode [] later
  pub alike : AreReadAlikeBefore [] later
  pub shorter : length later ≤ length ts

pub quiet_row : (mode : Bool) (ts : List Token) (text : List ℕ) → AreTokensBefore mode [] ts → AreReadAlikeBefore [] ts →
    asterisk ∷ text ≡ text_of ts → begins_special text ≡ true → is_quiet text ≡ true → QuietRow mode ts text
quiet_row mode ts text h a e s q =
    let i = head_is mode ts asterisk text h (sym e) refl in
    let h' : AreTokensBefore mode [] (Plain asterisk ∷ i.0) = subst (AreTokensBefore mode []) i.1 h in
    let a' : AreReadAlikeBefore [] (Plain asterisk ∷ i.0) = subst (AreReadAlikeBefore []) i.1 a in
    let joined : take (len_up_to (asterisk ∷ slash ∷ []) text) text ++ drop (len_up_to (asterisk ∷ slash ∷ []) text) text ≡ text = take-append-drop (len_up_to (asterisk ∷ slash ∷ []) text) text in
    let r = plain_row mode (take (len_up_to (asterisk ∷ slash ∷ []) text) text) (drop (len_up_to (asterisk ∷ slash ∷ []) text) text) i.0 (front_begins_nothing text q) h'.1 a'.1 (i.2 ∙ sym joined) in
    let whole : take (len_up_to (asterisk ∷ slash ∷ []) text) text ++ text_of r.later ≡ text = ap (λ x. take (len_up_to (asterisk ∷ slash ∷ []) text) text ++ x) r.text ∙ joined in
    record {
      tail = take (len_up_to (asterisk ∷ slash ∷ []) text) text;
      later = r.later;
      row = i.1 ∙ ap (λ x. Plain asterisk ∷ x) r.row;
      joined = whole;
      quiet = record {
        special = subst (λ x. begins_special x ≡ true) (sym whole) s;
        ends = subst (IsUpTo (asterisk ∷ slash ∷ []) (take (len_up_to (asterisk ∷ slash ∷ []) text) text)) (sym r.text) (up_to_gives (asterisk ∷ slash ∷ []) text (omega arith));
        quiet = subst (λ x. is_quiet x ≡ true) (sym whole) q;
      };
      holds = r.holds;
      alike = r.alike;
      shorter = omega (arith, r.shorter, ap length i.1);
    }

reading_within : (server : Server) → IsHonest server → (mode : Bool) (n : ℕ) (ts : List Token) → length ts ≤ n →
    AreTokensBefore mode [] ts → AreReadAlikeBefore [] ts → ReadingOn server mode ts
reading_within server honest mode n [] le h p = record { tokens = []; alike = read_all; holds = tt }
reading_within server honest mode zero (t ∷ ts) le h p = absurd (omega arith)
reading_within server honest mode (suc n) (t ∷ ts) le h p =
    elim (quiet_kind t (text_of ts) p.0) [
      | usual_token a ↦ elim (cases_Bool (opens_line server newline)) [
        | inr o ↦ reading_same server mode t ts (token_on server mode t (text_of ts) h.0 a (λ d more e. o)) (reading_within server honest mode n ts (omega arith) h.1 p.1)
        | inl o ↦ elim (has_empty t (text_of ts)) [
          | none_here other ↦ reading_same server mode t ts (token_on server mode t (text_of ts) h.0 a (λ d more e. absurd (other more d e))) (reading_within server honest mode n ts (omega arith) h.1 p.1)
          | empty_here more d e ↦
              let line = dash_line mode ts more h.1 e in
              let h' : AreTokensBefore mode [] (Plain dash ∷ Plain newline ∷ line.0) = subst (AreTokensBefore mode []) line.1 h.1 in
              let p' : AreReadAlikeBefore [] (Plain dash ∷ Plain newline ∷ line.0) = subst (AreReadAlikeBefore []) line.1 p.1 in
              let shorter : length line.0 ≤ n = omega (arith, ap length line.1) in
              let whole : Plain dash ∷ Plain dash ∷ Plain newline ∷ line.0 ≡ t ∷ ts = sym (ap (λ x. x ∷ ts) d ∙ ap (λ x. Plain dash ∷ x) line.1) in
              subst (ReadingOn server mode) whole (reading_empty server mode line.0 o (reading_within server honest mode n line.0 shorter h'.1.1 p'.1.1))
        ]
      ]
      | opens_text text d e s q ↦ elim (block_ways server honest text s q) [
        | inl k ↦
            let plain : IsTokenOn server mode t (text_of ts) = subst (λ x. IsTokenOn server mode x (text_of ts)) (sym d) (subst (IsTokenOn server mode (Plain slash)) e (opener_on server mode text k)) in
            reading_same server mode t ts plain (reading_within server honest mode n ts (omega arith) h.1 p.1)
        | inr k ↦
            let r = quiet_row mode ts text h.1 p.1 e s q in
            let whole : Plain slash ∷ Plain asterisk ∷ plain_then r.later r.tail ≡ t ∷ ts = sym (ap (λ x. x ∷ ts) d ∙ ap (λ x. Plain slash ∷ x) r.row) in
            let by : block_on server (r.tail ++ text_of r.later) ≡ comment = subst (λ x. block_on server x ≡ comment) (sym r.joined) k in
            subst (ReadingOn server mode) whole (reading_skipped server mode r.tail r.later r.quiet by (reading_within server honest mode n r.later (omega (arith, r.shorter)) r.holds r.alike))
      ]
      | whole_comment tail d s q ↦
          let c : IsToken mode (BlockComment tail) (text_of ts) = subst (λ x. IsToken mode x (text_of ts)) d h.0 in
          let quiet : IsQuietComment tail (text_of ts) = record { special = special_more tail (text_of ts) s; ends = c.1; quiet = q } in
          elim (block_ways server honest (tail ++ text_of ts) (special_more tail (text_of ts) s) q) [
            | inl k ↦ subst (λ x. ReadingOn server mode (x ∷ ts)) (sym d) (reading_executed server mode tail ts quiet k (reading_within server honest mode n ts (omega arith) h.1 p.1))
            | inr k ↦ subst (λ x. ReadingOn server mode (x ∷ ts)) (sym d) (reading_same server mode (BlockComment tail) ts (usual_block k c.1) (reading_within server honest mode n ts (omega arith) h.1 p.1))
          ]
    ]

-- a query of which each token passes its test, on a server of the family
pub portable_read : (server : Server) (mode : Bool) (query : List ℕ) (ts us : List Token) → IsHonest server →
    IsTokens mode query ts → AreReadAlikeBefore [] ts → IsReadOn server mode query us → IsReadAs ts us
portable_read server mode query ts us honest h p u =
    let r = reading_within server honest mode (length ts) ts (omega arith) h.each p in
    let same : r.tokens ≡ us = one_list_on server mode query r.tokens us (record { text = read_text r.alike ∙ h.text; each = r.holds }) u in
    subst (IsReadAs ts) same r.alike

-- ---- the places

plain_names : (tail : List ℕ) (ts : List Token) → names (plain_then ts tail) ≡ names ts
plain_names [] ts = refl
plain_names (b ∷ bs) ts = plain_names bs ts

plain_marks : (tail : List ℕ) (ts : List Token) → marks (plain_then ts tail) ≡ marks ts
plain_marks [] ts = refl
plain_marks (b ∷ bs) ts = plain_marks bs ts

plain_positions : (tail : List ℕ) (ts : List Token) (n : ℕ) → positions_from n (plain_then ts tail) ≡ positions_from (n + length tail) ts
plain_positions [] ts n = ap (λ x. positions_from x ts) (omega arith)
plain_positions (b ∷ bs) ts n = plain_positions bs ts (n + 1) ∙ ap (λ x. positions_from x ts) (omega arith)

pub read_names : {ts us : List Token} → IsReadAs ts us → names us ≡ names ts
read_names read_all = refl
read_names (read_same {t = Name name} r) = ap (λ x. name ∷ x) (read_names r)
read_names (read_same {t = Mark} r) = read_names r
read_names (read_same {t = t} r) = read_names r
read_names (read_empty_comment r) = read_names r
read_names (read_skipped {ts = ts} tail q r) = read_names r ∙ sym (plain_names tail ts)
read_names (read_executed {us = us} tail q r) = plain_names tail us ∙ read_names r

pub read_marks : {ts us : List Token} → IsReadAs ts us → marks us ≡ marks ts
read_marks read_all = refl
read_marks (read_same {t = Mark} r) = ap (λ x. x + 1) (read_marks r)
read_marks (read_same {t = Name name} r) = read_marks r
read_marks (read_same {t = t} r) = read_marks r
read_marks (read_empty_comment r) = read_marks r
read_marks (read_skipped {ts = ts} tail q r) = read_marks r ∙ sym (plain_marks tail ts)
read_marks (read_executed {us = us} tail q r) = plain_marks tail us ∙ read_marks r

pub read_positions : {ts us : List Token} → IsReadAs ts us → (n : ℕ) → positions_from n us ≡ positions_from n ts
read_positions read_all n = refl
read_positions (read_same {t = Name name} r) n = ap (λ x. n ∷ x) (read_positions r _)
read_positions (read_same {t = Mark} r) n = ap (λ x. n ∷ x) (read_positions r _)
read_positions (read_same {t = t} r) n = read_positions r _
read_positions (read_empty_comment {ts = ts} {us = us} r) n =
    let e : n + 3 ≡ n + 1 + 1 + 1 = omega arith in
    ap (λ x. positions_from x us) e ∙ read_positions r _
read_positions (read_skipped {ts = ts} {us = us} tail q r) n =
    let e : n + length (slash ∷ asterisk ∷ tail) ≡ n + 1 + 1 + length tail = omega arith in
    ap (λ x. positions_from x us) e ∙ (read_positions r _ ∙ sym (plain_positions tail ts (n + 1 + 1)))
read_positions (read_executed {ts = ts} {us = us} tail q r) n =
    let e : n + 1 + 1 + length tail ≡ n + length (slash ∷ asterisk ∷ tail) = omega arith in
    plain_positions tail us (n + 1 + 1) ∙ (ap (λ x. positions_from x us) e ∙ read_positions r _)

-- ---- a token that every server reads alike passes

pub wider_token : (t : Token) (rest : List ℕ) → is_alike_on_all t rest ≡ true → is_read_alike t rest ≡ true
wider_token (QuotedString quote tail) rest h = h
wider_token (QuotedIdentifier tail) rest h = h
wider_token (HashComment tail) rest h = h
wider_token (DashComment gap tail) rest h = h
wider_token (BlockComment tail) rest h = rw h refl
wider_token (Name name) rest h = h
wider_token Mark rest h = h
wider_token (Plain b) rest h = rw h refl
