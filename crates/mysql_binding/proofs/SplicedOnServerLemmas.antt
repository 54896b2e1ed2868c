-- The splice law on servers: the tokens that an honest server reads, with lists of tokens in the
-- places of a portable query (SpliceLemmas names the facts that it needs). `spliced_on`: if the
-- server decides about quiet comments within, the tokens that it reads in the query, with the lists
-- in its places. `spliced_read`: the tokens that any honest server reads in the text. `list_on`:
-- one list, read by itself.
use Rattle.std.specs.Prelude.{Bool}
use Rattle.std.proofs.Common.{◌≡◌, ◌++◌, ℕ, true, List, [], ◌∷◌, None, inl, inr, refl, ap, ◌∙◌, sym, subst, append-nil, true≢false}
use Rattle.std.proofs.lemmas.Bool.{cases_Bool}
use Rattle.mysql_named_params.specs.Bytes.{asterisk, dash, newline, slash, space, colon, question_mark}
use Rattle.mysql_named_params.specs.Tokens.{Token, IsToken, IsTokens, bytes_of, text_of, text_then, AreTokensBefore, BlockComment, DashComment, Name, Mark, Plain}
use Rattle.mysql_named_params.proofs.TokenRowLemmas.{text_then-append, text_of-append}
use Rattle.mysql_portable.specs.Server.{Server, executed, comment, comment_of, block_on, IsBlockTail, usual_block, own_block, ended_tail, opens_line, IsTokenOn, AreTokensOn, IsReadOn}
use Rattle.mysql_portable.specs.Portable.{is_read_alike, AreReadAlikeBefore, IsReadAs, read_all, read_same, read_empty_comment, read_skipped, read_executed}
use Rattle.mysql_portable.specs.Quiet.{IsQuietComment, IsHonest, DecidesWithin, plain_then}
use Rattle.mysql_portable.proofs.PortableLemmas.{NoEmptyComment, token_on, special_more}
use Rattle.mysql_portable.proofs.ServerTokenLemmas.{comment_by}
use Rattle.mysql_portable.proofs.QuietLemmas.{BeginNothing, each_begins_nothing, plain_text, row_on, read_text, block_ways, opener_on, star_on, usual_token, opens_text, whole_comment, quiet_kind, quiet_row, portable_read}
use Rattle.mysql_portable.proofs.SharpLemmas.{plain_none_on, after_row, after_row_on}
use Rattle.mysql_binding.specs.Replaced.{with_literal_tokens}
use Rattle.mysql_binding.proofs.LiteralTokenLemmas.{AreSettledBefore, no_double}
use Rattle.mysql_binding.proofs.QuietTextLemmas.{quiet_stays}
use Rattle.mysql_binding.proofs.SpliceLemmas.{AtPlaces, IsSpliced, IsSettled, spliced_portable, spliced_tokens, spliced_up_to}
use Rattle.mysql_binding.proofs.UpToSpliceLemmas.{SameUpToSplice, last_byte, portable_move, empty_move}

-- ---- its tokens on the server

-- settled tokens, before others
pub settled_on : (server : Server) (mode : Bool) (xs us : List Token) →
    AreTokensBefore mode (text_of us) xs → AreSettledBefore (text_of us) xs → AreTokensOn server mode us →
    AreTokensOn server mode (xs ++ us)
settled_on server mode [] us h s o = o
settled_on server mode (x ∷ xs) us h s o =
    (rw (text_then-append xs us []) (token_on server mode x (text_then (text_of us) xs) h.0 s.0 (λ d more e. absurd (double x (text_then (text_of us) xs) more s.1 d e))), settled_on server mode xs us h.1 s.2 o)
  where
    double : (x : Token) (rest more : List ℕ) → no_double x rest ≡ true → x ≡ Plain dash → dash ∷ newline ∷ more ≡ rest → ⊥
    double x rest more n d e =
        let f : no_double (Plain dash) (dash ∷ newline ∷ more) ≡ true = subst (λ u. no_double u (dash ∷ newline ∷ more) ≡ true) d (subst (λ u. no_double x u ≡ true) (sym e) n) in
        true≢false (sym f)

-- a plain dash before `-` and a newline, on a server: it opens no comment at a newline
pub dash_stays : (server : Server) (mode : Bool) (t : Token) (before : ℕ) (x y : List ℕ) → IsTokenOn server mode t x →
    SameUpToSplice before x y → t ≡ Plain dash → NoEmptyComment server y
dash_stays server mode t before x y h a d more e =
    let m = empty_move a more e in
    let h' : IsTokenOn server mode (Plain dash) (dash ∷ newline ∷ m.0) = subst (λ u. IsTokenOn server mode (Plain dash) u) (sym m.1) (subst (λ u. IsTokenOn server mode u x) d h) in
    elim (cases_Bool (opens_line server newline)) [
      | inl o ↦ absurd (h' (DashComment newline []) m.0 (o, ended_tail refl refl) refl)
      | inr o ↦ o
    ]

-- ---- rows of plain bytes

plain_replaced : (tail : List ℕ) (ts : List Token) (lists : List (List Token)) →
    with_literal_tokens (plain_then ts tail) lists ≡ plain_then (with_literal_tokens ts lists) tail
plain_replaced [] ts lists = refl
plain_replaced (b ∷ bs) ts lists = ap (λ x. Plain b ∷ x) (plain_replaced bs ts lists)

places_after : (Holds : ℕ → List Token → List ℕ → Type 0) (before : ℕ) (tail : List ℕ) (ts : List Token) (lists : List (List Token)) →
    AtPlaces Holds before (plain_then ts tail) lists → AtPlaces Holds (last_byte before tail) ts lists
places_after Holds before [] ts lists s = s
places_after Holds before (b ∷ bs) ts lists s = places_after Holds b bs ts lists s

after_alike : (tail : List ℕ) (ts : List Token) → AreReadAlikeBefore [] (plain_then ts tail) → AreReadAlikeBefore [] ts
after_alike [] ts h = h
after_alike (b ∷ bs) ts h = after_alike bs ts h.1

replaced_row_text : (tail : List ℕ) (ts : List Token) (lists : List (List Token)) →
    text_of (with_literal_tokens (plain_then ts tail) lists) ≡ tail ++ text_of (with_literal_tokens ts lists)
replaced_row_text tail ts lists = ap text_of (plain_replaced tail ts lists) ∙ plain_text tail (with_literal_tokens ts lists)

-- the same lists in the places of both
replaced_alike : {ts us : List Token} → IsReadAs ts us → (lists : List (List Token)) →
    text_of (with_literal_tokens us lists) ≡ text_of (with_literal_tokens ts lists)
replaced_alike read_all lists = refl
replaced_alike (read_same {t = Name name} r) [] = ap (λ x. bytes_of (Name name) ++ x) (replaced_alike r [])
replaced_alike (read_same {t = Name name} r) (list ∷ lists) =
    text_of-append list _ ∙ (ap (λ x. text_of list ++ x) (replaced_alike r lists) ∙ sym (text_of-append list _))
replaced_alike (read_same {t = Mark} r) [] = ap (λ x. bytes_of Mark ++ x) (replaced_alike r [])
replaced_alike (read_same {t = Mark} r) (list ∷ lists) =
    text_of-append list _ ∙ (ap (λ x. text_of list ++ x) (replaced_alike r lists) ∙ sym (text_of-append list _))
replaced_alike (read_same {t = t} r) lists = ap (λ x. bytes_of t ++ x) (replaced_alike r lists)
replaced_alike (read_empty_comment r) lists = ap (λ x. dash ∷ dash ∷ newline ∷ x) (replaced_alike r lists)
replaced_alike (read_skipped {ts = ts} tail q r) lists =
    ap (λ x. slash ∷ asterisk ∷ x) (ap (λ x. tail ++ x) (replaced_alike r lists) ∙ sym (replaced_row_text tail ts lists))
replaced_alike (read_executed {us = us} tail q r) lists =
    ap (λ x. slash ∷ asterisk ∷ x) (replaced_row_text tail us lists ∙ ap (λ x. tail ++ x) (replaced_alike r lists))

-- ---- a server's reading of a quiet comment

comment_there : (server : Server) → IsHonest server → (tail rest : List ℕ) → IsQuietComment tail rest →
    IsBlockTail server tail rest → block_on server (tail ++ rest) ≡ comment
comment_there server honest tail rest q (usual_block k u) = k
comment_there server honest tail rest q (own_block n k e) =
    elim (block_ways server honest (tail ++ rest) q.special q.quiet) [
      | inl f ↦ let bad : executed ≡ comment_of n = sym f ∙ k in cc
      | inr f ↦ f
    ]

read_there : (server : Server) → IsHonest server → (mode : Bool) (tail rest : List ℕ) → IsQuietComment tail rest →
    IsTokenOn server mode (Plain slash) (asterisk ∷ (tail ++ rest)) → block_on server (tail ++ rest) ≡ executed
read_there server honest mode tail rest q h =
    let n : comment_by (tail ++ rest) (block_on server (tail ++ rest)) ≡ None = plain_none_on server mode slash (asterisk ∷ (tail ++ rest)) h in
    elim (block_ways server honest (tail ++ rest) q.special q.quiet) [
      | inl f ↦ f
      | inr f ↦ let bad : comment_by (tail ++ rest) comment ≡ None = subst (λ k. comment_by (tail ++ rest) k ≡ None) f n in cc
    ]

block_stays : (server : Server) → DecidesWithin server → (before : ℕ) (tail : List ℕ) {x y : List ℕ} → SameUpToSplice (last_byte before tail) x y →
    IsQuietComment tail x → block_on server (tail ++ y) ≡ block_on server (tail ++ x)
block_stays server within before tail {x = x} {y = y} a q =
    let r = quiet_stays before tail a q in
    rw (q.special, r.special) (within tail y x r q)

comment_stays : (server : Server) → IsHonest server → DecidesWithin server → (before : ℕ) (tail : List ℕ) {x y : List ℕ} →
    SameUpToSplice (last_byte before tail) x y → IsQuietComment tail x → IsBlockTail server tail x → IsBlockTail server tail y
comment_stays server honest within before tail {x = x} a q h =
    usual_block (block_stays server within before tail a q ∙ comment_there server honest tail x q h) (quiet_stays before tail a q).ends

read_stays : (server : Server) → IsHonest server → DecidesWithin server → (mode : Bool) (before : ℕ) (tail : List ℕ) {x y : List ℕ} →
    SameUpToSplice (last_byte before tail) x y → IsQuietComment tail x → IsTokenOn server mode (Plain slash) (asterisk ∷ (tail ++ x)) →
    block_on server (tail ++ y) ≡ executed
read_stays server honest within mode before tail {x = x} a q h =
    block_stays server within before tail a q ∙ read_there server honest mode tail x q h

-- a token of the query on the server is one in the text
token_stays : (server : Server) → IsHonest server → DecidesWithin server → (mode : Bool) (before : ℕ) (t : Token) (ts : List Token)
    (lists : List (List Token)) → IsToken mode t (text_of ts) →
    IsToken mode t (text_of (with_literal_tokens ts lists)) → is_read_alike t (text_of ts) ≡ true →
    AreTokensBefore mode [] ts → AreReadAlikeBefore [] ts → AtPlaces (IsSpliced mode) (last_byte before (bytes_of t)) ts lists →
    IsTokenOn server mode t (text_of ts) → IsTokenOn server mode t (text_of (with_literal_tokens ts lists))
token_stays server honest within mode before t ts lists k m p h g s o =
    let up = spliced_up_to mode (last_byte before (bytes_of t)) ts lists h s in
    elim (quiet_kind t (text_of ts) p) [
      | usual_token e ↦ token_on server mode t (text_of (with_literal_tokens ts lists)) m (portable_move before t up e) (dash_stays server mode t (last_byte before (bytes_of t)) (text_of ts) (text_of (with_literal_tokens ts lists)) o up)
      | opens_text text d e special quiet ↦
          let r = quiet_row mode ts text h g e special quiet in
          let o' : IsTokenOn server mode (Plain slash) (asterisk ∷ (r.tail ++ text_of r.later)) = subst (λ x. IsTokenOn server mode (Plain slash) (asterisk ∷ x)) (sym r.joined) (subst (IsTokenOn server mode (Plain slash)) (sym e) (subst (λ x. IsTokenOn server mode x (text_of ts)) d o)) in
          let row : AtPlaces (IsSpliced mode) (last_byte before (bytes_of t)) (Plain asterisk ∷ plain_then r.later r.tail) lists = subst (λ x. AtPlaces (IsSpliced mode) (last_byte before (bytes_of t)) x lists) r.row s in
          let up' = spliced_up_to mode (last_byte asterisk r.tail) r.later lists r.holds (places_after (IsSpliced mode) asterisk r.tail r.later lists row) in
          let there = read_stays server honest within mode asterisk r.tail up' r.quiet o' in
          let whole : text_of (with_literal_tokens ts lists) ≡ asterisk ∷ (r.tail ++ text_of (with_literal_tokens r.later lists)) = ap (λ x. text_of (with_literal_tokens x lists)) r.row ∙ ap (λ x. asterisk ∷ x) (replaced_row_text r.tail r.later lists) in
          subst (λ x. IsTokenOn server mode x (text_of (with_literal_tokens ts lists))) (sym d) (subst (IsTokenOn server mode (Plain slash)) (sym whole) (opener_on server mode (r.tail ++ text_of (with_literal_tokens r.later lists)) there))
      | whole_comment tail d special quiet ↦
          let c : IsToken mode (BlockComment tail) (text_of ts) = subst (λ x. IsToken mode x (text_of ts)) d k in
          let q : IsQuietComment tail (text_of ts) = record { special = special_more tail (text_of ts) special; ends = c.1; quiet = quiet } in
          let up' : SameUpToSplice (last_byte asterisk tail) (text_of ts) (text_of (with_literal_tokens ts lists)) = subst (λ x. SameUpToSplice (last_byte before (bytes_of x)) (text_of ts) (text_of (with_literal_tokens ts lists))) d up in
          subst (λ x. IsTokenOn server mode x (text_of (with_literal_tokens ts lists))) (sym d) (comment_stays server honest within asterisk tail up' q (subst (λ x. IsTokenOn server mode x (text_of ts)) d o))
    ]

-- a list in a place, on the server
list_there : (server : Server) (mode : Bool) (before : ℕ) (list ts us : List Token) → text_of us ≡ text_of ts →
    IsSpliced mode before list (text_of ts) → AreSettledBefore (text_of ts) list → AreTokensOn server mode us →
    AreTokensOn server mode (list ++ us)
list_there server mode before list ts us e s q o =
    settled_on server mode list us (subst (λ x. AreTokensBefore mode x list) (sym e) s.tokens) (subst (λ x. AreSettledBefore x list) (sym e) q) o

-- the tokens of the text on the server
places_on : (server : Server) → IsHonest server → DecidesWithin server → (mode : Bool) (before : ℕ) {ts us : List Token} → IsReadAs ts us →
    (lists : List (List Token)) → AreTokensOn server mode us → AreTokensBefore mode [] ts → AreReadAlikeBefore [] ts →
    AtPlaces (IsSpliced mode) before ts lists → AtPlaces IsSettled before ts lists →
    AreTokensOn server mode (with_literal_tokens us lists)
places_on server honest within mode before read_all lists o h p s q = tt
places_on server honest within mode before (read_same {t = Name name} r) [] o h p s q = absurd s
places_on server honest within mode before (read_same {t = Name name} {ts = ts} {us = us} r) (list ∷ lists) o h p s q =
    list_there server mode before list (with_literal_tokens ts lists) (with_literal_tokens us lists) (replaced_alike r lists) s.0 q.0
    (places_on server honest within mode (last_byte colon name) r lists o.1 h.1 p.1 s.1 q.1)
places_on server honest within mode before (read_same {t = Mark} r) [] o h p s q = absurd s
places_on server honest within mode before (read_same {t = Mark} {ts = ts} {us = us} r) (list ∷ lists) o h p s q =
    list_there server mode before list (with_literal_tokens ts lists) (with_literal_tokens us lists) (replaced_alike r lists) s.0 q.0
    (places_on server honest within mode question_mark r lists o.1 h.1 p.1 s.1 q.1)
places_on server honest within mode before (read_same {t = t} {ts = ts} {us = us} r) lists o h p s q =
    let there = token_stays server honest within mode before t ts lists h.0
    ((spliced_tokens mode before (t ∷ ts) lists h s).0)
    p.0 h.1 p.1 s (subst (IsTokenOn server mode t) (read_text r) o.0) in
    (subst (IsTokenOn server mode t) (sym (replaced_alike r lists)) there, places_on server honest within mode (last_byte before (bytes_of t)) r lists o.1 h.1 p.1 s q)
places_on server honest within mode before (read_empty_comment {ts = ts} {us = us} r) lists o h p s q =
    ((o.0.0, ended_tail refl refl), places_on server honest within mode newline r lists o.1 h.1.1.1 p.1.1.1 s q)
places_on server honest within mode before (read_skipped {ts = ts} {us = us} tail c r) lists o h p s q =
    let h' : AreTokensBefore mode [] ts = after_row mode tail ts h.1.1 in
    let p' : AreReadAlikeBefore [] ts = after_alike tail ts p.1.1 in
    let s' = places_after (IsSpliced mode) asterisk tail ts lists s in
    let up = spliced_up_to mode (last_byte asterisk tail) ts lists h' s' in
    let there = comment_stays server honest within asterisk tail up c (subst (IsBlockTail server tail) (read_text r) o.0) in
    (subst (IsBlockTail server tail) (sym (replaced_alike r lists)) there, places_on server honest within mode (last_byte asterisk tail) r lists o.1 h' p' s' (places_after IsSettled asterisk tail ts lists q))
places_on server honest within mode before (read_executed {ts = ts} {us = us} tail c r) lists o h p s q =
    let up = spliced_up_to mode (last_byte asterisk tail) ts lists h.1 s in
    let c' = quiet_stays asterisk tail up c in
    let old : text_of (plain_then us tail) ≡ tail ++ text_of ts = plain_text tail us ∙ ap (λ x. tail ++ x) (read_text r) in
    let there = read_stays server honest within mode asterisk tail up c (subst (λ x. IsTokenOn server mode (Plain slash) (asterisk ∷ x)) old o.0) in
    let more = places_on server honest within mode (last_byte asterisk tail) r lists (after_row_on server mode tail us o.1.1) h.1 p.1 s q in
    let quiet : BeginNothing (text_of (with_literal_tokens us lists)) tail = subst (λ x. BeginNothing x tail) (sym (replaced_alike r lists)) (each_begins_nothing tail (text_of (with_literal_tokens ts lists)) c'.ends c'.quiet) in
    let new : text_of (plain_then (with_literal_tokens us lists) tail) ≡ tail ++ text_of (with_literal_tokens ts lists) = plain_text tail (with_literal_tokens us lists) ∙ ap (λ x. tail ++ x) (replaced_alike r lists) in
    let row : AreTokensOn server mode (Plain slash ∷ Plain asterisk ∷ plain_then (with_literal_tokens us lists) tail) = (subst (λ x. IsTokenOn server mode (Plain slash) (asterisk ∷ x)) (sym new) (opener_on server mode (tail ++ text_of (with_literal_tokens ts lists)) there), (star_on server mode _, row_on server mode tail (with_literal_tokens us lists) quiet more)) in
    subst (λ zs. AreTokensOn server mode (Plain slash ∷ Plain asterisk ∷ zs)) (sym (plain_replaced tail us lists)) row

-- isolation on a server that decides about quiet comments within
pub spliced_on : (server : Server) (mode : Bool) (query : List ℕ) (ts us : List Token) (lists : List (List Token)) →
    IsHonest server → DecidesWithin server → IsTokens mode query ts → AreReadAlikeBefore [] ts →
    AtPlaces (IsSpliced mode) space ts lists → AtPlaces IsSettled space ts lists → IsReadOn server mode query us →
    IsReadOn server mode (text_of (with_literal_tokens ts lists)) (with_literal_tokens us lists)
spliced_on server mode query ts us lists honest within h p s q u =
    let r = portable_read server mode query ts us honest h p u in
    record {
      text = replaced_alike r lists;
      each = places_on server honest within mode space r lists u.each h.each p s q;
    }

-- the tokens that an honest server reads in the text
pub spliced_read : (server : Server) (mode : Bool) (ts vs : List Token) (lists : List (List Token)) →
    IsHonest server → AreTokensBefore mode [] ts → AreReadAlikeBefore [] ts →
    AtPlaces (IsSpliced mode) space ts lists → AtPlaces IsSettled space ts lists →
    IsReadOn server mode (text_of (with_literal_tokens ts lists)) vs → IsReadAs (with_literal_tokens ts lists) vs
spliced_read server mode ts vs lists honest h p s q v =
    portable_read server mode (text_of (with_literal_tokens ts lists)) (with_literal_tokens ts lists) vs honest (record { text = refl; each = spliced_tokens mode space ts lists h s }) (spliced_portable mode space ts lists h p s q) v

-- one list, read by itself
pub list_on : (server : Server) (mode : Bool) (text : List ℕ) (list : List Token) → IsTokens mode text list →
    AreSettledBefore [] list → IsReadOn server mode text list
list_on server mode text list is q =
    record { text = is.text; each = subst (AreTokensOn server mode) (append-nil list) (settled_on server mode list [] is.each q tt) }
