-- The token at the front of a text, for each first byte.
use Rattle.std.specs.Prelude.{Bool}
use Rattle.std.proofs.Common.{◌≡◌, ◌≢◌, ◌⊎◌, ℕ, ◌+◌, ◌<◌, ◌≤◌, true, false, not, ◌==◌, ◌&&◌, List, [], ◌∷◌, ◌++◌, length, take, drop, get_or, None, refl, sym, ap, ◌∙◌, subst, inl, inr, arith, take-append-drop, drop_at, length-take-le, ne_eqb}
use Rattle.std.proofs.lemmas.List.{take_rest}
use Rattle.std.proofs.lemmas.Bool.{and_parts, eqb-true, eqb-false, not-true}
use Rattle.mysql_named_params.specs.Bytes.{asterisk, backquote, colon, dash, double_quote, hash, newline, question_mark, single_quote, slash, is_white_space, is_start_byte, is_string_quote, is_extension, begins, IsUpTo}
use Rattle.mysql_named_params.specs.Tokens.{Token, bytes_of, IsToken, IsStringTail, QuotedString, QuotedIdentifier, HashComment, DashComment, BlockComment, Name, Mark, Plain}
use Rattle.mysql_named_params.specs.FirstToken.{kind_of, opens_dash_comment, opens_block_comment, IsNameFront, IsFirstToken}
use Rattle.mysql_named_params.specs.declared.tokens.TokenKind.TheVariants as kind
use Rattle.mysql_named_params.specs.TokensOf.{not_plain_at}
use Rattle.mysql_named_params.proofs.TokenEnds.{plain_at}
use Rattle.mysql_named_params.proofs.TokenEndLemmas.{slice_from}

-- a token before the text that follows it is the front
pub whole : (mode : Bool) (t : Token) (text after : List ℕ) (n : ℕ) → bytes_of t ++ after ≡ text →
    length (bytes_of t) ≡ n → IsToken mode t after → IsFirstToken mode text (kind_of t) n
whole mode t text after n e len holds =
    let d : drop n text ≡ after = ap (drop n) (sym e) ∙ drop_at (bytes_of t) after n len in
    record {
      token = t;
      bytes = ap (λ x. bytes_of t ++ x) d ∙ e;
      len_is = len;
      kind_is = refl;
      holds = subst (IsToken mode t) (sym d) holds;
    }

pub rest_is : (b : ℕ) (bs : List ℕ) → slice_from 1 (b ∷ bs) ≡ bs
rest_is b bs = take_rest (b ∷ bs) 1

pub string_first : (mode : Bool) (text : List ℕ) (n : ℕ) → 0 < length text →
    (get_or text 0 0 ≡ double_quote) ⊎ (get_or text 0 0 ≡ single_quote) →
    n ≤ length (slice_from 1 text) →
    IsStringTail mode (get_or text 0 0) (take n (slice_from 1 text)) (drop n (slice_from 1 text)) →
    IsFirstToken mode text kind.Other (1 + n)
string_first mode [] n some q le tail = absurd (omega arith)
string_first mode (b ∷ bs) n some q le tail =
    let le' : n ≤ length bs = rw rest_is at le in
    let quote : is_string_quote b ≡ true = elim q [ inl e ↦ ap is_string_quote e | inr e ↦ ap is_string_quote e ] in
    whole mode (QuotedString b (take n bs)) (b ∷ bs) (drop n bs) (1 + n) (ap (λ x. b ∷ x) (take-append-drop n bs)) (omega (arith, length-take-le n bs le')) (quote, rw rest_is at tail)

pub identifier_first : (mode : Bool) (text : List ℕ) (n : ℕ) → 0 < length text →
    get_or text 0 0 ≡ backquote → n ≤ length (slice_from 1 text) →
    IsUpTo (backquote ∷ []) (take n (slice_from 1 text)) (drop n (slice_from 1 text)) →
    IsFirstToken mode text kind.Other (1 + n)
identifier_first mode [] n some q le tail = absurd (omega arith)
identifier_first mode (b ∷ bs) n some q le tail =
    let le' : n ≤ length bs = rw rest_is at le in
    whole mode (QuotedIdentifier (take n bs)) (b ∷ bs) (drop n bs) (1 + n) (ap (λ x. backquote ∷ x) (take-append-drop n bs) ∙ ap (λ x. x ∷ bs) (sym q)) (omega (arith, length-take-le n bs le')) (rw rest_is at tail)

pub hash_first : (mode : Bool) (text : List ℕ) (n : ℕ) → 0 < length text → get_or text 0 0 ≡ hash →
    n ≤ length (slice_from 1 text) →
    IsUpTo (newline ∷ []) (take n (slice_from 1 text)) (drop n (slice_from 1 text)) →
    IsFirstToken mode text kind.Other (1 + n)
hash_first mode [] n some q le tail = absurd (omega arith)
hash_first mode (b ∷ bs) n some q le tail =
    let le' : n ≤ length bs = rw rest_is at le in
    whole mode (HashComment (take n bs)) (b ∷ bs) (drop n bs) (1 + n) (ap (λ x. hash ∷ x) (take-append-drop n bs) ∙ ap (λ x. x ∷ bs) (sym q)) (omega (arith, length-take-le n bs le')) (rw rest_is at tail)

pub mark_first : (mode : Bool) (text : List ℕ) → 0 < length text → get_or text 0 0 ≡ question_mark →
    IsFirstToken mode text kind.Mark 1
mark_first mode [] some q = absurd (omega arith)
mark_first mode (b ∷ bs) some q = whole mode Mark (b ∷ bs) bs 1 (ap (λ x. x ∷ bs) (sym q)) refl tt

pub name_first : (mode : Bool) (text : List ℕ) (n : ℕ) → 0 < length text → get_or text 0 0 ≡ colon →
    begins is_start_byte (slice_from 1 text) ≡ true →
    n ≤ length (slice_from 1 (slice_from 1 text)) →
    IsNameFront (take n (slice_from 1 (slice_from 1 text))) (drop n (slice_from 1 (slice_from 1 text))) →
    IsFirstToken mode text kind.Name (2 + n)
name_first mode [] n some q opens le front = absurd (omega arith)
name_first mode (b ∷ bs) n some q opens le front = go bs (rw rest_is at opens) (rw rest_is at le) (rw rest_is at front)
  where
    go : (bs : List ℕ) → begins is_start_byte bs ≡ true → n ≤ length (slice_from 1 bs) →
        IsNameFront (take n (slice_from 1 bs)) (drop n (slice_from 1 bs)) →
        IsFirstToken mode (b ∷ bs) kind.Name (2 + n)
    go [] opens le front = cc
    go (s ∷ bs) opens le front =
        let le' : n ≤ length bs = rw rest_is at le in
        let front' : IsNameFront (take n bs) (drop n bs) = rw rest_is at front in
        whole mode (Name (s ∷ take n bs)) (b ∷ s ∷ bs) (drop n bs) (2 + n) (ap (λ x. colon ∷ s ∷ x) (take-append-drop n bs) ∙ ap (λ x. x ∷ s ∷ bs) (sym q)) (omega (arith, length-take-le n bs le')) ((opens, front'.each), front'.ends)

pub dash_first : (mode : Bool) (text : List ℕ) (n : ℕ) → 0 < length text → get_or text 0 0 ≡ dash →
    opens_dash_comment (slice_from 1 text) ≡ true → n ≤ length (slice_from 2 (slice_from 1 text)) →
    IsUpTo (newline ∷ []) (take n (slice_from 2 (slice_from 1 text))) (drop n (slice_from 2 (slice_from 1 text))) →
    IsFirstToken mode text kind.Other (3 + n)
dash_first mode [] n some q opens le tail = absurd (omega arith)
dash_first mode (b ∷ bs) n some q opens le tail = go bs (rw rest_is at opens) (rw rest_is at le) (rw rest_is at tail)
  where
    go : (bs : List ℕ) → opens_dash_comment bs ≡ true → n ≤ length (slice_from 2 bs) →
        IsUpTo (newline ∷ []) (take n (slice_from 2 bs)) (drop n (slice_from 2 bs)) →
        IsFirstToken mode (b ∷ bs) kind.Other (3 + n)
    go [] opens le tail = cc
    go (d ∷ []) opens le tail = cc
    go (d ∷ w ∷ bs) opens le tail =
        let rest : slice_from 2 (d ∷ w ∷ bs) ≡ bs = take_rest (d ∷ w ∷ bs) 2 in
        let le' : n ≤ length bs = rw rest at le in
        let tail' : IsUpTo (newline ∷ []) (take n bs) (drop n bs) = rw rest at tail in
        let p = and_parts (d == dash) (is_white_space w && not (w == newline)) opens in
        let r = and_parts (is_white_space w) (not (w == newline)) p.1 in
        let dash_is : d ≡ dash = eqb-true d dash p.0 in
        whole mode (DashComment w (take n bs)) (b ∷ d ∷ w ∷ bs) (drop n bs) (3 + n) (ap (λ x. dash ∷ dash ∷ w ∷ x) (take-append-drop n bs) ∙ (ap (λ x. x ∷ dash ∷ w ∷ bs) (sym q) ∙ ap (λ x. b ∷ x ∷ w ∷ bs) (sym dash_is))) (omega (arith, length-take-le n bs le')) (r.0, eqb-false w newline (not-true (w == newline) r.1), tail')

pub block_first : (mode : Bool) (text : List ℕ) (n : ℕ) → 0 < length text →
    get_or text 0 0 ≡ slash → opens_block_comment (slice_from 1 text) ≡ true →
    n ≤ length (slice_from 1 (slice_from 1 text)) →
    IsUpTo (asterisk ∷ slash ∷ []) (take n (slice_from 1 (slice_from 1 text))) (drop n (slice_from 1 (slice_from 1 text))) →
    IsFirstToken mode text kind.Other (2 + n)
block_first mode [] n some q opens le tail = absurd (omega arith)
block_first mode (b ∷ bs) n some q opens le tail = go bs (rw rest_is at opens) (rw rest_is at le) (rw rest_is at tail)
  where
    go : (bs : List ℕ) → opens_block_comment bs ≡ true → n ≤ length (slice_from 1 bs) →
        IsUpTo (asterisk ∷ slash ∷ []) (take n (slice_from 1 bs)) (drop n (slice_from 1 bs)) →
        IsFirstToken mode (b ∷ bs) kind.Other (2 + n)
    go [] opens le tail = cc
    go (s ∷ bs) opens le tail =
        let le' : n ≤ length bs = rw rest_is at le in
        let tail' : IsUpTo (asterisk ∷ slash ∷ []) (take n bs) (drop n bs) = rw rest_is at tail in
        let p = and_parts (s == asterisk) (not (begins is_extension bs)) opens in
        let asterisk_is : s ≡ asterisk = eqb-true s asterisk p.0 in
        whole mode (BlockComment (take n bs)) (b ∷ s ∷ bs) (drop n bs) (2 + n) (ap (λ x. slash ∷ asterisk ∷ x) (take-append-drop n bs) ∙ (ap (λ x. x ∷ asterisk ∷ bs) (sym q) ∙ ap (λ x. b ∷ x ∷ bs) (sym asterisk_is))) (omega (arith, length-take-le n bs le')) (rw take-append-drop (not-true (begins is_extension bs) p.1), tail')

-- ---- plain bytes

pub plain_first : (mode : Bool) (text : List ℕ) → 0 < length text →
    not_plain_at mode (get_or text 0 0 ∷ slice_from 1 text) ≡ None →
    IsFirstToken mode text kind.Other 1
plain_first mode [] some e = absurd (omega arith)
plain_first mode (b ∷ bs) some e = whole mode (Plain b) (b ∷ bs) bs 1 refl refl (plain_at mode b bs (rw rest_is at e))

pub plain_colon : (mode : Bool) (b : ℕ) (rest : List ℕ) → b ≡ colon →
    begins is_start_byte rest ≡ false → not_plain_at mode (b ∷ rest) ≡ None
plain_colon mode b [] e no_name = ap (λ x. not_plain_at mode (x ∷ [])) e
plain_colon mode b (s ∷ rest) e no_name = ap (λ x. not_plain_at mode (x ∷ s ∷ rest)) e ∙ rw no_name refl

pub plain_dash : (mode : Bool) (b : ℕ) (rest : List ℕ) → b ≡ dash →
    opens_dash_comment rest ≡ false → not_plain_at mode (b ∷ rest) ≡ None
plain_dash mode b [] e no_comment = ap (λ x. not_plain_at mode (x ∷ [])) e
plain_dash mode b (d ∷ []) e no_comment = ap (λ x. not_plain_at mode (x ∷ d ∷ [])) e
plain_dash mode b (d ∷ w ∷ rest) e no_comment = ap (λ x. not_plain_at mode (x ∷ d ∷ w ∷ rest)) e ∙ rw no_comment refl

pub plain_slash : (mode : Bool) (b : ℕ) (rest : List ℕ) → b ≡ slash →
    opens_block_comment rest ≡ false → not_plain_at mode (b ∷ rest) ≡ None
plain_slash mode b [] e no_comment = ap (λ x. not_plain_at mode (x ∷ [])) e
plain_slash mode b (s ∷ rest) e no_comment = ap (λ x. not_plain_at mode (x ∷ s ∷ rest)) e ∙ rw no_comment refl

pub plain_other : (mode : Bool) (b : ℕ) (rest : List ℕ) →
    ((b ≡ double_quote) ⊎ (b ≡ single_quote) → ⊥) → b ≢ backquote → b ≢ hash → b ≢ dash →
    b ≢ slash → b ≢ colon → b ≢ question_mark → not_plain_at mode (b ∷ rest) ≡ None
plain_other mode b rest e1 e3 e4 e5 e6 e7 e8 = rw (ne_eqb b single_quote (λ e. e1 (inr e)), ne_eqb b double_quote (λ e. e1 (inl e)), ne_eqb b backquote e3, ne_eqb b hash e4, ne_eqb b dash e5, ne_eqb b slash e6, ne_eqb b colon e7, ne_eqb b question_mark e8) refl
