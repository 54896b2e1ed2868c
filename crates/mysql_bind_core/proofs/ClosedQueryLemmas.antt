-- A query that ends within no token: its last token is closed, or is a comment to the end of the line.
use Rattle.std.specs.Prelude.{Bool, nat_lt}
use Rattle.std.specs.List.{list_all}
use Rattle.std.proofs.Common.{◌≡◌, ◌≢◌, ◌⊎◌, ℕ, ◌+◌, true, false, List, [], ◌∷◌, ◌++◌, length, inl, inr, refl, sym, ap, ◌∙◌, subst, append-nil, append_assoc, true≢false, Some, None, arith, length-append}
use Rattle.std.proofs.lemmas.Bool.{cases_Bool}
use Rattle.std.proofs.lemmas.Bool.Decides.{nat_tests}
use Rattle.std.proofs.lemmas.List.{same_from_push}
use Rattle.mysql_named_params.specs.Bytes.{asterisk, backquote, dash, hash, newline, slash, is_name_byte, is_start_byte, is_string_quote, Lacks, IsUpTo, up_to_word, up_to_end}
use Rattle.mysql_named_params.specs.Tokens.{Token, IsToken, IsTokens, OnTokens, AreTokensBefore, IsStringTail, closed_string, open_string, open_in_escape, bytes_of, text_of, QuotedString, QuotedIdentifier, HashComment, DashComment, BlockComment, Name, Mark, Plain}
use Rattle.mysql_bind_core.specs.ScriptTokens.{semicolon}
use Rattle.mysql_bind_core.specs.QueryEnd.{end, last_at, long_end, long_end_from}
use Rattle.mysql_bind_core.proofs.NewlineLemmas.{token_without_newline}
use Rattle.mysql_bind_core.proofs.LineLemmas.{line_end, EndClosed, ends_before}
use Rattle.mysql_named_params.proofs.TokenListLemmas.{one_token_list, some_byte}
use Rattle.mysql_portable.proofs.OtherModeLemmas.{all_parts}

-- ---- two fronts of one text

-- the first front is within the second one, or is longer
Fronts : List ℕ → List ℕ → List ℕ → List ℕ → Type 0
Fronts xs rest ys back =
    ((more : List ℕ) × (ys ≡ xs ++ more) × (rest ≡ more ++ back))
    ⊎ ((b : ℕ) × (more : List ℕ) × (xs ≡ ys ++ b ∷ more) × (back ≡ b ∷ (more ++ rest)))

fronts : (xs rest ys back : List ℕ) → xs ++ rest ≡ ys ++ back → Fronts xs rest ys back
unfolding Fronts
fronts [] rest ys back e = inl (ys, refl, e)
fronts (x ∷ xs) rest [] back e = inr (x, xs, refl, sym e)
fronts (x ∷ xs) rest (y ∷ ys) back e =
    let same : x ≡ y = cc in
    let tails : xs ++ rest ≡ ys ++ back = cc in
    elim (fronts xs rest ys back tails) [
      | inl f ↦ inl (f.0, ap (λ z. y ∷ z) f.1 ∙ ap (λ b. b ∷ (xs ++ f.0)) (sym same), f.2)
      | inr f ↦ inr (f.0, f.1, ap (λ z. x ∷ z) f.2 ∙ ap (λ b. b ∷ (ys ++ f.0 ∷ f.1)) same, f.3)
    ]

-- ---- the tokens of a text up to the newline

-- there are tokens of this text, and their end is closed
record HasClosedTokens (mode : Bool) (text : List ℕ) : Type 0 where
  tokens : List Token
  each : AreTokensBefore mode [] tokens
  text_is : text_of tokens ≡ text
  closed : EndClosed mode tokens

none_left : (mode : Bool) (x : List ℕ) → x ≡ [] → HasClosedTokens mode x
none_left mode x e = record { tokens = []; each = tt; text_is = sym e; closed = tt }

no_line_left : (x : List ℕ) → x ++ newline ∷ [] ≡ [] → ⊥
no_line_left [] e = cc
no_line_left (b ∷ x) e = cc

-- what ends with this byte doesn't end with a newline
ends_otherwise : (body x : List ℕ) (b : ℕ) → b ≢ newline → body ++ b ∷ [] ≡ x ++ newline ∷ [] → ⊥
ends_otherwise body x b n e = n (same_from_push body x b newline e).1

quote_no_newline : (q : ℕ) → is_string_quote q ≡ true → q ≢ newline
quote_no_newline q h e = true≢false (sym h ∙ ap is_string_quote e)

-- what follows the first byte
after_first : (b c : ℕ) (bytes x : List ℕ) → b ∷ bytes ≡ (c ∷ x) ++ newline ∷ [] → bytes ≡ x ++ newline ∷ []
after_first b c bytes x e = cc

up_to_newline : (x rest : List ℕ) → rest ≢ [] → IsUpTo (newline ∷ []) (x ++ newline ∷ []) rest → IsUpTo (newline ∷ []) x []
up_to_newline x rest some (up_to_end lacks e) = absurd (some e)
up_to_newline x rest some (up_to_word body e ends) = up_to_end lacks refl
  where
    lacks : Lacks (newline ∷ []) x
    lacks front back p = no_line_left back (ends front (back ++ newline ∷ []) (sym (append_assoc front (newline ∷ back) (newline ∷ [])) ∙ ap (λ y. y ++ newline ∷ []) p))

up_to_other : (word : List ℕ) (b : ℕ) (tail x rest : List ℕ) → b ≢ newline → rest ≢ [] → IsUpTo (word ++ b ∷ []) tail rest →
    tail ≡ x ++ newline ∷ [] → ⊥
up_to_other word b tail x rest n some (up_to_end lacks e) p = some e
up_to_other word b tail x rest n some (up_to_word body e ends) p =
    ends_otherwise (body ++ word) x b n (append_assoc body word (b ∷ []) ∙ e ∙ p)

string_other : (mode : Bool) (q : ℕ) (tail x rest : List ℕ) → q ≢ newline → rest ≢ [] → IsStringTail mode q tail rest →
    tail ≡ x ++ newline ∷ [] → ⊥
string_other mode q tail x rest n some (closed_string body u e) p = ends_otherwise body x q n (e ∙ p)
string_other mode q tail x rest n some (open_string u e) p = some e
string_other mode q tail x rest n some (open_in_escape body b u escapes e nil) p = some nil

name_other : (name x : List ℕ) → list_all is_name_byte name ≡ true → name ≡ x ++ newline ∷ [] → ⊥
name_other name x h p = true≢false (sym (all_parts is_name_byte x (newline ∷ []) (subst (λ y. list_all is_name_byte y ≡ true) p h)).1)

-- a token that ends with the newline: a comment, or the newline itself
line_token : (mode : Bool) (t : Token) (x rest : List ℕ) → rest ≢ [] → IsToken mode t rest → bytes_of t ≡ x ++ newline ∷ [] →
    HasClosedTokens mode x
line_token mode (Plain b) [] rest some h e = none_left mode [] refl
line_token mode (Plain b) (c ∷ x) rest some h e = absurd (no_line_left x (sym (after_first b c [] x e)))
line_token mode Mark [] rest some h e = absurd cc
line_token mode Mark (c ∷ x) rest some h e = absurd (no_line_left x (sym (after_first _ c [] x e)))
line_token mode (QuotedString q tail) [] rest some h e = absurd (quote_no_newline q h.0 cc)
line_token mode (QuotedString q tail) (c ∷ x) rest some h e = absurd (string_other mode q tail x rest (quote_no_newline q h.0) some h.1 (after_first q c tail x e))
line_token mode (QuotedIdentifier tail) [] rest some h e = absurd cc
line_token mode (QuotedIdentifier tail) (c ∷ x) rest some h e = absurd (up_to_other [] backquote tail x rest (λ n. cc) some h (after_first _ c tail x e))
line_token mode (Name name) [] rest some h e = absurd cc
line_token mode (Name []) (c ∷ x) rest some h e = absurd h.0
line_token mode (Name (b ∷ name)) (c ∷ []) rest some h e = absurd (true≢false (sym h.0.0 ∙ ap is_start_byte first))
  where
    first : b ≡ newline
    first = cc
line_token mode (Name (b ∷ name)) (c ∷ d ∷ x) rest some h e = absurd (name_other name x h.0.1 (after_first b d name x (after_first _ c (b ∷ name) (d ∷ x) e)))
line_token mode (BlockComment tail) [] rest some h e = absurd cc
line_token mode (BlockComment tail) (c ∷ []) rest some h e = absurd cc
line_token mode (BlockComment tail) (c ∷ d ∷ x) rest some h e = absurd (up_to_other (asterisk ∷ []) slash tail x rest (λ n. cc) some h.1 (after_first _ d tail x (after_first _ c (asterisk ∷ tail) (d ∷ x) e)))
line_token mode (HashComment tail) [] rest some h e = absurd cc
line_token mode (HashComment tail) (c ∷ x) rest some h e =
    let p : tail ≡ x ++ newline ∷ [] = after_first hash c tail x e in
    let first : hash ≡ c = cc in
    record {
      tokens = HashComment x ∷ [];
      each = (up_to_newline x rest some (subst (λ y. IsUpTo (newline ∷ []) y rest) p h), tt);
      text_is = append-nil (hash ∷ x) ∙ ap (λ y. y ∷ x) first;
      closed = tt;
    }
line_token mode (DashComment gap tail) [] rest some h e = absurd cc
line_token mode (DashComment gap tail) (c ∷ []) rest some h e = absurd cc
line_token mode (DashComment gap tail) (c ∷ d ∷ []) rest some h e = absurd (h.1 cc)
line_token mode (DashComment gap tail) (c ∷ d ∷ g ∷ x) rest some h e =
    let one : dash ∷ gap ∷ tail ≡ (d ∷ g ∷ x) ++ newline ∷ [] = after_first dash c (dash ∷ gap ∷ tail) (d ∷ g ∷ x) e in
    let two : gap ∷ tail ≡ (g ∷ x) ++ newline ∷ [] = after_first dash d (gap ∷ tail) (g ∷ x) one in
    let p : tail ≡ x ++ newline ∷ [] = after_first gap g tail x two in
    let first : dash ≡ c = cc in
    let second : dash ≡ d = cc in
    let third : gap ≡ g = cc in
    record {
      tokens = DashComment gap x ∷ [];
      each = ((h.0, h.1, up_to_newline x rest some (subst (λ y. IsUpTo (newline ∷ []) y rest) p h.2)), tt);
      text_is = append-nil (dash ∷ dash ∷ gap ∷ x) ∙ ap (λ y. y ∷ dash ∷ gap ∷ x) first ∙ ap (λ y. c ∷ y ∷ gap ∷ x) second ∙ ap (λ y. c ∷ d ∷ y ∷ x) third;
      closed = tt;
    }

-- one token before others whose end is closed
ends_cons : (mode : Bool) (t : Token) (ts : List Token) → IsToken mode t (text_of ts ++ line_end) → EndClosed mode ts →
    EndClosed mode (t ∷ ts)
ends_cons mode t [] h c = ends_before mode t h
ends_cons mode t (u ∷ ts) h c = c

one_more : (mode : Bool) (t : Token) (x : List ℕ) → IsToken mode t (x ++ line_end) → HasClosedTokens mode x →
    HasClosedTokens mode (bytes_of t ++ x)
one_more mode t x h r = record {
  tokens = t ∷ r.tokens;
  each = (subst (IsToken mode t) (sym r.text_is) (token_without_newline mode t x (semicolon ∷ []) h), r.each);
  text_is = ap (λ y. bytes_of t ++ y) r.text_is;
  closed = ends_cons mode t r.tokens (subst (λ y. IsToken mode t (y ++ line_end)) (sym r.text_is) h) r.closed;
}

short : (n len : ℕ) → None ≡ last_at n len → nat_lt 1 len ≡ false
short n len e =
    elim (cases_Bool (nat_lt 1 len)) [
      | inl h ↦ let some : None ≡ Some n = rw h at e in absurd cc
      | inr h ↦ h
    ]

-- the tokens of a text with a newline and `;`, of which the last is a single byte
up_to_line : (mode : Bool) (n : ℕ) (vs : List Token) (x : List ℕ) → AreTokensBefore mode [] vs → text_of vs ≡ x ++ line_end →
    None ≡ long_end_from n vs → HasClosedTokens mode x
unfolding Fronts
up_to_line mode n [] x h e s = absurd (no_end x (sym e))
  where
    no_end : (x : List ℕ) → x ++ line_end ≡ [] → ⊥
    no_end [] p = cc
    no_end (b ∷ x) p = cc
up_to_line mode n (t ∷ []) x h e s =
    let few = short n (length (bytes_of t)) s in
    let long : length (bytes_of t ++ []) ≡ length (x ++ line_end) = ap length e in
    let two : length (x ++ line_end) ≡ length x + 2 = length-append x line_end in
    let same : length (bytes_of t ++ []) ≡ length (bytes_of t) = ap length (append-nil (bytes_of t)) in
    absurd (grind (arith, nat_tests))
up_to_line mode n (t ∷ u ∷ us) x h e s =
    elim (fronts (bytes_of t) (text_of (u ∷ us)) x line_end e) [
      | inl f ↦
          let r = up_to_line mode (n + length (bytes_of t)) (u ∷ us) f.0 h.1 f.2 s in
          subst (HasClosedTokens mode) (sym f.1) (one_more mode t f.0 (subst (IsToken mode t) f.2 h.0) r)
      | inr f ↦ longer f.0 f.1 f.2 f.3
    ]
  where
    longer : (b : ℕ) (more : List ℕ) → bytes_of t ≡ x ++ b ∷ more → line_end ≡ b ∷ (more ++ text_of (u ∷ us)) → HasClosedTokens mode x
    longer b [] p q =
        let first : b ≡ newline = cc in
        line_token mode t x (text_of (u ∷ us)) (some_byte u _) h.0 (subst (λ y. bytes_of t ≡ x ++ y ∷ []) first p)
    longer b (c ∷ []) p q =
        let nil : [] ≡ text_of (u ∷ us) = cc in
        absurd (some_byte u _ (sym nil))
    longer b (c ∷ d ∷ more) p q = absurd cc

-- the tokens of a query that ends within none
pub closed_query : (mode : Bool) (query : List ℕ) (ts : List Token) → IsTokens mode query ts →
    OnTokens mode (query ++ end) (λ vs. None ≡ long_end vs) → EndClosed mode ts
closed_query mode query ts h c =
    let r = up_to_line mode 0 c.0 query c.1.each c.1.text c.2 in
    subst (EndClosed mode) (one_token_list mode query r.tokens ts (record { text = r.text_is; each = r.each }) h) r.closed
