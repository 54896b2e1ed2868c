-- Steady texts: their strings hold no backslash, and every character set shows them as they are.
use Rattle.std.specs.Prelude.{◌↔◌, Bool, nat_le, nat_lt, cond, not}
use Rattle.std.proofs.Common.{◌≡◌, ◌+◌, ℕ, true, false, List, [], ◌∷◌, Option, Some, None, refl, sym, ap, subst, ◌∙◌, arith}
use Rattle.std.specs.List.{list_all, position_from}
use Rattle.std.proofs.lemmas.Bool.{and_parts, and_from}
use Rattle.std.proofs.lemmas.Bool.Decides.{nat_tests}
use Rattle.std.proofs.lemmas.Iterator.Adapters.{position_from-zero}
use Rattle.mysql_named_params.specs.Tokens.{Token, bytes_of, text_of, IsTokens, QuotedString, QuotedIdentifier, HashComment, DashComment, BlockComment, Name, Mark, Plain}
use Rattle.mysql_portable.specs.Server.{Server, IsReadOn}
use Rattle.mysql_portable.specs.Steady.{is_no_backslash, is_steady, holds_no_escape, HoldNoEscapes, first_unsteady, IsSteady}
use Rattle.mysql_portable.specs.CharacterSet.{CharacterSet, seen_after}
use Rattle.mysql_portable.proofs.OtherModeLemmas.{all_parts, tokens_other, read_other}

-- steady bytes have no backslash
pub no_backslashes : (bytes : List ℕ) → list_all is_steady bytes ≡ true → list_all is_no_backslash bytes ≡ true
no_backslashes [] h = refl
no_backslashes (b ∷ bytes) h =
    let p = and_parts (is_steady b) (list_all is_steady bytes) h in
    and_from _ _ ((and_parts (nat_lt b 128) (is_no_backslash b) p.0).1) (no_backslashes bytes p.1)

no_escape_in : (t : Token) → list_all is_steady (bytes_of t) ≡ true → holds_no_escape t ≡ true
no_escape_in (QuotedString quote tail) h =
    no_backslashes tail ((and_parts (is_steady quote) (list_all is_steady tail) h).1)
no_escape_in (QuotedIdentifier tail) h = refl
no_escape_in (HashComment tail) h = refl
no_escape_in (DashComment gap tail) h = refl
no_escape_in (BlockComment tail) h = refl
no_escape_in (Name name) h = refl
no_escape_in Mark h = refl
no_escape_in (Plain b) h = refl

-- the strings of a steady text hold no escape
pub steady_tokens : (ts : List Token) → list_all is_steady (text_of ts) ≡ true → HoldNoEscapes ts
steady_tokens [] h = tt
steady_tokens (t ∷ ts) h =
    let p = all_parts is_steady (bytes_of t) (text_of ts) h in
    (no_escape_in t p.0, steady_tokens ts p.1)

pub steady_other : (mode other : Bool) (text : List ℕ) (ts : List Token) → list_all is_steady text ≡ true →
    IsTokens mode text ts → IsTokens other text ts
steady_other mode other text ts s h =
    tokens_other mode other text ts (steady_tokens ts (subst (λ x. list_all is_steady x ≡ true) (sym h.text) s)) h

pub steady_other_on : (server : Server) (mode other : Bool) (text : List ℕ) (ts : List Token) →
    list_all is_steady text ≡ true → IsReadOn server mode text ts → IsReadOn server other text ts
steady_other_on server mode other text ts s h =
    read_other server mode other text ts (steady_tokens ts (subst (λ x. list_all is_steady x ≡ true) (sym h.text) s)) h

below : (b : ℕ) → nat_lt b 128 ≡ true → nat_le 128 b ≡ false
below b h = grind (arith, nat_tests)

-- ---- character sets

-- a steady text is shown as it is
pub steady_seen : (set : CharacterSet) (text : List ℕ) → list_all is_steady text ≡ true → seen_after set 0 text ≡ text
steady_seen set [] h = refl
steady_seen set (b ∷ text) h =
    let p = and_parts (is_steady b) (list_all is_steady text) h in
    let q = and_parts (nat_lt b 128) (is_no_backslash b) p.0 in
    rw (below b q.0) (ap (λ x. b ∷ x) (steady_seen set text p.1))

-- ---- the test

none_step : (c : Bool) (at : ℕ) (o : Option ℕ) → cond (not c) (Some at) o ≡ None → (c ≡ true) × (o ≡ None)
none_step true at o e = (refl, e)
none_step false at o e = cc

all_pass : (test : ℕ → Bool) (at : ℕ) (text : List ℕ) → position_from (λ b. not (test b)) at text ≡ None →
    list_all test text ≡ true
all_pass test at [] e = refl
all_pass test at (b ∷ text) e =
    let p = none_step (test b) at (position_from (λ b. not (test b)) (at + 1) text) e in
    and_from _ _ p.0 (all_pass test (at + 1) text p.1)

none_fails : (test : ℕ → Bool) (at : ℕ) (text : List ℕ) → list_all test text ≡ true →
    position_from (λ b. not (test b)) at text ≡ None
none_fails test at [] h = refl
none_fails test at (b ∷ text) h =
    let p = and_parts (test b) (list_all test text) h in
    rw p.0 (none_fails test (at + 1) text p.1)

-- exactly a steady text has no unsteady byte
pub none_unsteady : (text : List ℕ) → (first_unsteady text ≡ None) ↔ IsSteady text
none_unsteady text =
    let e = position_from-zero (λ b. not (is_steady b)) text in
    (λ n. all_pass is_steady 0 text (sym e ∙ n), λ h. e ∙ none_fails is_steady 0 text h)
