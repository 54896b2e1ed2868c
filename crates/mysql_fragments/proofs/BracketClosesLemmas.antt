-- Whether the tokens from an index on begin with `)`, apart from gaps.
use Rattle.std.specs.Prelude.{Bool}
use Rattle.std.proofs.Common.{◌≡◌, inl, inr, ℕ, ◌+◌, ◌<◌, ◌≤◌, ◌==◌, true, false, List, [], ◌∷◌, ◌++◌, length, drop, get_or, refl, sym, ap, ◌∙◌, subst, arith, length-drop, drop_at, true≢false}
use Rattle.std.specs.Str.{byte}
use Rattle.std.proofs.lemmas.List.{drop-drop, drop_all}
use Rattle.std.proofs.lemmas.Bool.{cases_Bool, eqb-true}
use Rattle.mysql_named_params.specs.Bytes.{is_string_quote}
use Rattle.mysql_named_params.specs.FirstToken.{IsFirstToken}
use Rattle.mysql_named_params.specs.Tokens.{Token, OnTokens, IsTokens, IsToken, AreTokensBefore, bytes_of, text_of, QuotedString, QuotedIdentifier, HashComment, DashComment, BlockComment, Name, Mark, Plain}
use Rattle.mysql_named_params.specs.declared.tokens.TokenKind.{TokenKind}
use Rattle.mysql_named_params.proofs.CutLemmas.{first_within, token_length}
use Rattle.mysql_named_params.proofs.TokenListLemmas.{one_token, some_byte}
use Rattle.mysql_named_params.proofs.TokensExistLemmas.{tokens_exist}
use Rattle.mysql_fragments.specs.Brackets.{is_gap, past_gaps, begins_at, closes}
use Rattle.mysql_fragments.specs.BracketWalk.{is_gap_at}
use Rattle.mysql_fragments.proofs.BracketLemmas.{gap_token}

-- the first token of a row
pub next_token : (mode : Bool) (back : List Token) (rest : List ℕ) (k : TokenKind) (n : ℕ) →
    AreTokensBefore mode [] back → (f : IsFirstToken mode rest k n) → text_of back ≡ rest →
    (ts : List Token) × (back ≡ f.token ∷ ts) × (text_of ts ≡ drop n rest)
next_token mode [] rest k n h f e = absurd (some_byte f.token (drop n rest) (f.bytes ∙ sym e))
next_token mode (t ∷ ts) rest k n h f e =
    let same : t ≡ f.token = one_token mode t f.token (text_of ts) (drop n rest) h.0 f.holds (e ∙ sym f.bytes) in
    let after : drop n rest ≡ text_of ts = ap (drop n) (sym e) ∙ drop_at (bytes_of t) (text_of ts) n (ap (λ x. length (bytes_of x)) same ∙ f.len_is) in
    (ts, ap (λ x. x ∷ ts) same, sym after)

first_in : (t : Token) (rest : List ℕ) → get_or (bytes_of t ++ rest) 0 0 ≡ get_or (bytes_of t) 0 0
first_in (QuotedString quote tail) rest = refl
first_in (QuotedIdentifier tail) rest = refl
first_in (HashComment tail) rest = refl
first_in (DashComment gap tail) rest = refl
first_in (BlockComment tail) rest = refl
first_in (Name name) rest = refl
first_in Mark rest = refl
first_in (Plain b) rest = refl

pub first_byte_is : (mode : Bool) (rest : List ℕ) (k : TokenKind) (n : ℕ)
    (f : IsFirstToken mode rest k n) → get_or rest 0 0 ≡ get_or (bytes_of f.token) 0 0
first_byte_is mode rest k n f = ap (λ x. get_or x 0 0) (sym f.bytes) ∙ first_in f.token (drop n rest)

pub some_length : (mode : Bool) (rest : List ℕ) (k : TokenKind) (n : ℕ) →
    IsFirstToken mode rest k n → 0 < n
some_length mode rest k n f = omega (arith, f.len_is, token_length f.token)

-- the tokens from the index on begin with `)` if all do
pub record ClosesFrom (mode : Bool) (text : List ℕ) (at : ℕ) : Type 0 where
  pub all : List Token
  pub tokens : IsTokens mode text all
  pub back : List Token
  pub each : AreTokensBefore mode [] back
  pub back_text : text_of back ≡ drop at text
  pub same : closes all ≡ closes back
  pub in_range : at ≤ length text

pub closes_from_start : (mode : Bool) (text : List ℕ) → ClosesFrom mode text 0
closes_from_start mode text =
    let o = tokens_exist mode text in
    record { all = o.0; tokens = o.1; back = o.0; each = o.1.each; back_text = o.1.text; same = refl; in_range = omega arith }

pub closes_at_end : (mode : Bool) (text : List ℕ) (at : ℕ) → ClosesFrom mode text at →
    length text ≤ at → OnTokens mode text (λ ts. false ≡ closes ts)
closes_at_end mode text at w le =
    let none : w.back ≡ [] = no_tokens w.back (w.back_text ∙ drop_all at text le) in
    (w.all, w.tokens, sym (w.same ∙ ap closes none))
  where
    no_tokens : (ts : List Token) → text_of ts ≡ [] → ts ≡ []
    no_tokens [] e = refl
    no_tokens (t ∷ ts) e = absurd (some_byte t (text_of ts) e)

past_a_gap : (t : Token) (ts : List Token) → is_gap t ≡ true → closes (t ∷ ts) ≡ closes ts
past_a_gap t ts gap = rw gap refl

at_no_gap : (mode : Bool) (t : Token) (ts : List Token) (rest : List ℕ) → IsToken mode t rest →
    is_gap t ≡ false → (get_or (bytes_of t) 0 0 == byte ")") ≡ closes (t ∷ ts)
at_no_gap mode t ts rest h no_gap = by_token t h ∙ ap (begins_at (byte ")")) (sym past)
  where
    past : past_gaps (t ∷ ts) ≡ t ∷ ts
    past = rw no_gap refl

    by_token : (t : Token) → IsToken mode t rest → (get_or (bytes_of t) 0 0 == byte ")") ≡ begins_at (byte ")") (t ∷ ts)
    by_token (QuotedString q tail) h = elim (cases_Bool (q == byte ")")) [
      | inl e ↦ absurd (true≢false (sym h.0 ∙ ap is_string_quote (eqb-true q (byte ")") e)))
      | inr e ↦ e
    ]
    by_token (QuotedIdentifier tail) h = refl
    by_token (HashComment tail) h = refl
    by_token (DashComment gap tail) h = refl
    by_token (BlockComment tail) h = refl
    by_token (Name name) h = refl
    by_token Mark h = refl
    by_token (Plain b) h = refl

module _ (mode : Bool) (text rest : List ℕ) (at : ℕ) (w : ClosesFrom mode text at) (rest_is : rest ≡ drop at text) (k : TokenKind) (n : ℕ) (f : IsFirstToken mode rest k n) where
  next : (ts : List Token) × (w.back ≡ f.token ∷ ts) × (text_of ts ≡ drop n rest)
  next = next_token mode w.back rest k n w.each f (w.back_text ∙ sym rest_is)

  gap_is : is_gap_at rest n ≡ is_gap f.token
  gap_is = ap (λ x. is_gap_at x n) (sym f.bytes) ∙ (ap (is_gap_at (bytes_of f.token ++ drop n rest)) (sym f.len_is) ∙ gap_token mode f.token (drop n rest) f.holds)

  pub closes_past_gap : is_gap_at rest n ≡ true → ClosesFrom mode text (at + n)
  closes_past_gap gap =
      let x = next in
      let each = subst (AreTokensBefore mode []) x.1 w.each in
      record {
        all = w.all;
        tokens = w.tokens;
        back = x.0;
        each = each.1;
        back_text = x.2 ∙ (ap (drop n) rest_is ∙ drop-drop n at text);
        same = w.same ∙ (ap closes x.1 ∙ past_a_gap f.token x.0 (sym gap_is ∙ gap));
        in_range = omega (arith, first_within mode rest k n f, ap length rest_is, length-drop at text, w.in_range);
      }

  pub closes_at_sign : is_gap_at rest n ≡ false →
      OnTokens mode text (λ ts. (get_or rest 0 0 == byte ")") ≡ closes ts)
  closes_at_sign no_gap =
      let x = next in
      (w.all, w.tokens, ap (λ b. b == byte ")") (first_byte_is mode rest k n f) ∙ (at_no_gap mode f.token x.0 (drop n rest) f.holds (sym gap_is ∙ no_gap) ∙ (ap closes (sym x.1) ∙ sym w.same)))
