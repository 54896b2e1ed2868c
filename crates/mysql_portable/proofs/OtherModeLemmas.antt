-- Tokens whose strings have no backslash are tokens in the other mode too, in the grammar and on
-- every server.
use Rattle.std.specs.Prelude.{Bool}
use Rattle.std.proofs.Common.{◌≡◌, ◌≢◌, ◌++◌, ℕ, true, false, List, [], ◌∷◌, take, refl, sym, ◌∙◌, subst, true≢false}
use Rattle.std.specs.List.{list_all}
use Rattle.std.proofs.lemmas.Bool.{and_parts, not-true}
use Rattle.std.proofs.lemmas.List.Folds.{list_all-append}
use Rattle.mysql_sql_text.specs.StringUnits.{is_escape, AreUnits, no_units, byte_unit, escape_unit}
use Rattle.mysql_named_params.specs.Tokens.{Token, text_of, text_then, IsToken, IsTokens, AreTokensBefore, IsStringTail, closed_string, open_string, open_in_escape, QuotedString, QuotedIdentifier, HashComment, DashComment, BlockComment, Name, Mark, Plain}
use Rattle.mysql_named_params.specs.TokensOf.{string_len}
use Rattle.mysql_named_params.proofs.PlainLemmas.{not_plain_found}
use Rattle.mysql_portable.specs.Server.{Server, reads_in, IsQuotedTail, usual_quotes, own_quotes, IsTokenOn, AreTokensOn, IsReadOn}
use Rattle.mysql_portable.specs.Steady.{is_no_backslash, holds_no_escape, HoldNoEscapes}
use Rattle.mysql_portable.proofs.GrammarLemmas.{not_plain_found_on}

-- a byte that is no backslash escapes nothing
no_escape : (mode : Bool) (b : ℕ) → is_no_backslash b ≡ true → is_escape mode b ≡ false
no_escape false b h = not-true _ h
no_escape true b h = refl

-- a test of all bytes of two texts in a row is that of each
pub all_parts : (test : ℕ → Bool) (xs ys : List ℕ) → list_all test (xs ++ ys) ≡ true →
    (list_all test xs ≡ true) × (list_all test ys ≡ true)
all_parts test xs ys h = and_parts (list_all test xs) (list_all test ys) (sym (list_all-append test xs ys) ∙ h)

-- units without a backslash are units in the other mode
units_other : (mode other : Bool) (quote : ℕ) {bytes : List ℕ} → AreUnits mode quote bytes →
    list_all is_no_backslash bytes ≡ true → AreUnits other quote bytes
units_other mode other quote no_units h = no_units
units_other mode other quote (byte_unit {b = b} {bytes = bytes} n e u) h =
    let p = and_parts (is_no_backslash b) (list_all is_no_backslash bytes) h in
    byte_unit n (no_escape other b p.0) (units_other mode other quote u p.1)
units_other mode other quote (escape_unit {b = b} {c = c} {bytes = bytes} e u) h =
    let p = and_parts (is_no_backslash b) (list_all is_no_backslash (c ∷ bytes)) h in
    absurd (true≢false (sym e ∙ no_escape mode b p.0))

-- the last byte of a text without a backslash is none
last_lacks : (body : List ℕ) (b : ℕ) (tail : List ℕ) → body ++ b ∷ [] ≡ tail → list_all is_no_backslash tail ≡ true →
    is_no_backslash b ≡ true
last_lacks body b tail e h =
    let p = all_parts is_no_backslash body (b ∷ []) (subst (λ x. list_all is_no_backslash x ≡ true) (sym e) h) in
    (and_parts (is_no_backslash b) true p.1).0

-- the bytes after the quote of a string, without a backslash
string_other : (mode other : Bool) (quote : ℕ) (tail rest : List ℕ) → list_all is_no_backslash tail ≡ true →
    IsStringTail mode quote tail rest → IsStringTail other quote tail rest
string_other mode other quote tail rest h (closed_string body u e) =
    closed_string body (units_other mode other quote u (all_parts is_no_backslash body (quote ∷ []) (subst (λ x. list_all is_no_backslash x ≡ true) (sym e) h)).0) e
string_other mode other quote tail rest h (open_string u e) = open_string (units_other mode other quote u h) e
string_other mode other quote tail rest h (open_in_escape body b u s e n) =
    absurd (true≢false (sym s ∙ no_escape mode b (last_lacks body b tail e h)))

-- ---- the grammar

-- a byte that is plain in one mode is plain in the other: no quote opens a string in only one mode
plain_other : (mode other : Bool) (b : ℕ) (rest : List ℕ) → IsToken mode (Plain b) rest →
    IsToken other (Plain b) rest
plain_other mode other b rest h (QuotedString quote tail) after k e =
    let t : Token = QuotedString quote (take (string_len mode quote false (tail ++ after)) (tail ++ after)) in
    let f = not_plain_found mode (quote ∷ (tail ++ after)) t (rw k.0 refl) in
    h t f.0 f.1 (f.2 ∙ e)
plain_other mode other b rest h (QuotedIdentifier tail) after k e = h (QuotedIdentifier tail) after k e
plain_other mode other b rest h (HashComment tail) after k e = h (HashComment tail) after k e
plain_other mode other b rest h (DashComment gap tail) after k e = h (DashComment gap tail) after k e
plain_other mode other b rest h (BlockComment tail) after k e = h (BlockComment tail) after k e
plain_other mode other b rest h (Name name) after k e = h (Name name) after k e
plain_other mode other b rest h Mark after k e = h Mark after k e
plain_other mode other b rest h (Plain c) after k e = absurd k

-- a token whose text has no escape
pub token_other : (mode other : Bool) (t : Token) (rest : List ℕ) → holds_no_escape t ≡ true →
    IsToken mode t rest → IsToken other t rest
token_other mode other (QuotedString quote tail) rest n h = (h.0, string_other mode other quote tail rest n h.1)
token_other mode other (QuotedIdentifier tail) rest n h = h
token_other mode other (HashComment tail) rest n h = h
token_other mode other (DashComment gap tail) rest n h = h
token_other mode other (BlockComment tail) rest n h = h
token_other mode other (Name name) rest n h = h
token_other mode other Mark rest n h = h
token_other mode other (Plain b) rest n h = plain_other mode other b rest h

pub tokens_before_other : (mode other : Bool) (rest : List ℕ) (ts : List Token) → HoldNoEscapes ts →
    AreTokensBefore mode rest ts → AreTokensBefore other rest ts
tokens_before_other mode other rest [] n h = tt
tokens_before_other mode other rest (t ∷ ts) n h =
    (token_other mode other t (text_then rest ts) n.0 h.0, tokens_before_other mode other rest ts n.1 h.1)

-- the tokens of a query in the other mode
pub tokens_other : (mode other : Bool) (query : List ℕ) (ts : List Token) → HoldNoEscapes ts →
    IsTokens mode query ts → IsTokens other query ts
tokens_other mode other query ts n h = record { text = h.text; each = tokens_before_other mode other [] ts n h.each }

-- ---- servers

quoted_other : (server : Server) (mode other : Bool) (quote : ℕ) (tail rest : List ℕ) →
    list_all is_no_backslash tail ≡ true → IsQuotedTail server mode quote tail rest →
    IsQuotedTail server other quote tail rest
quoted_other server mode other quote tail rest n (usual_quotes q h) =
    usual_quotes q (string_other (reads_in server mode quote) (reads_in server other quote) quote tail rest n h)
quoted_other server mode other quote tail rest n (own_quotes k b s e) = own_quotes k b s e

quoted_there : (server : Server) (mode other : Bool) (b : ℕ) (rest : List ℕ) → IsTokenOn server mode (Plain b) rest →
    (quote : ℕ) (tail after : List ℕ) → IsQuotedTail server other quote tail after →
    quote ∷ (tail ++ after) ≢ b ∷ rest
quoted_there server mode other b rest h quote tail after (usual_quotes q k) e =
    let t : Token = QuotedString quote (take (string_len (reads_in server mode quote) quote false (tail ++ after)) (tail ++ after)) in
    let f = not_plain_found_on server mode (quote ∷ (tail ++ after)) t (rw q refl) in
    h t f.0 f.1 (f.2 ∙ e)
quoted_there server mode other b rest h quote tail after (own_quotes n o s k) e = h (QuotedString quote tail) after (own_quotes n o s k) e

plain_other_on : (server : Server) (mode other : Bool) (b : ℕ) (rest : List ℕ) →
    IsTokenOn server mode (Plain b) rest → IsTokenOn server other (Plain b) rest
plain_other_on server mode other b rest h (QuotedString quote tail) after k e = quoted_there server mode other b rest h quote tail after k e
plain_other_on server mode other b rest h (QuotedIdentifier tail) after k e = h (QuotedIdentifier tail) after k e
plain_other_on server mode other b rest h (HashComment tail) after k e = h (HashComment tail) after k e
plain_other_on server mode other b rest h (DashComment gap tail) after k e = h (DashComment gap tail) after k e
plain_other_on server mode other b rest h (BlockComment tail) after k e = h (BlockComment tail) after k e
plain_other_on server mode other b rest h (Name name) after k e = h (Name name) after k e
plain_other_on server mode other b rest h Mark after k e = h Mark after k e
plain_other_on server mode other b rest h (Plain c) after k e = absurd k

pub token_other_on : (server : Server) (mode other : Bool) (t : Token) (rest : List ℕ) → holds_no_escape t ≡ true →
    IsTokenOn server mode t rest → IsTokenOn server other t rest
token_other_on server mode other (QuotedString quote tail) rest n h = quoted_other server mode other quote tail rest n h
token_other_on server mode other (QuotedIdentifier tail) rest n h = h
token_other_on server mode other (HashComment tail) rest n h = h
token_other_on server mode other (DashComment gap tail) rest n h = h
token_other_on server mode other (BlockComment tail) rest n h = h
token_other_on server mode other (Name name) rest n h = h
token_other_on server mode other Mark rest n h = h
token_other_on server mode other (Plain b) rest n h = plain_other_on server mode other b rest h

tokens_on_other : (server : Server) (mode other : Bool) (ts : List Token) → HoldNoEscapes ts →
    AreTokensOn server mode ts → AreTokensOn server other ts
tokens_on_other server mode other [] n h = tt
tokens_on_other server mode other (t ∷ ts) n h =
    (token_other_on server mode other t (text_of ts) n.0 h.0, tokens_on_other server mode other ts n.1 h.1)

-- the tokens of a query on a server in the other mode
pub read_other : (server : Server) (mode other : Bool) (query : List ℕ) (ts : List Token) → HoldNoEscapes ts →
    IsReadOn server mode query ts → IsReadOn server other query ts
read_other server mode other query ts n h = record { text = h.text; each = tokens_on_other server mode other ts n h.each }
