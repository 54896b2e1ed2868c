-- A query that is cut into tokens as far as a rest.
use Rattle.std.specs.Prelude.{Bool}
use Rattle.std.proofs.Common.{◌≡◌, ℕ, ◌<◌, ◌≤◌, List, [], ◌∷◌, ◌++◌, length, drop, refl, sym, ap, ◌∙◌, subst, arith, length-append}
use Rattle.std.proofs.lemmas.List.{nil_from_length}
use Rattle.mysql_named_params.specs.Tokens.{Token, bytes_of, IsTokens, text_then, AreTokensBefore, QuotedString, QuotedIdentifier, HashComment, DashComment, BlockComment, Name, Mark, Plain}
use Rattle.mysql_named_params.specs.FirstToken.{IsFirstToken}
use Rattle.mysql_named_params.specs.declared.tokens.TokenKind.{TokenKind}
use Rattle.mysql_named_params.proofs.TokenRowLemmas.{text_then-append, AreTokensBefore-append}

-- the query begins with these tokens, and the rest follows
pub record BeginsWithTokens (mode : Bool) (query rest : List ℕ) (ts : List Token) : Type 0 where
  pub text : text_then rest ts ≡ query
  pub each : AreTokensBefore mode rest ts

pub cut_none : (mode : Bool) (query : List ℕ) → BeginsWithTokens mode query query []
cut_none mode query = record { text = refl; each = tt }

-- a token more
pub cut_more : (mode : Bool) (query rest : List ℕ) (ts : List Token) (kind : TokenKind) (n : ℕ) →
    BeginsWithTokens mode query rest ts → (f : IsFirstToken mode rest kind n) →
    BeginsWithTokens mode query (drop n rest) (ts ++ f.token ∷ [])
cut_more mode query rest ts kind n c f = record {
  text = text_then-append ts (f.token ∷ []) (drop n rest) ∙ (ap (λ x. text_then x ts) f.bytes ∙ c.text);
  each = AreTokensBefore-append mode ts (f.token ∷ []) (drop n rest) (subst (λ x. AreTokensBefore mode x ts) (sym f.bytes) c.each) (f.holds, tt);
}

-- if nothing is left, these are the tokens
pub all_tokens : (mode : Bool) (query rest : List ℕ) (ts : List Token) → length rest ≡ 0 →
    BeginsWithTokens mode query rest ts → IsTokens mode query ts
all_tokens mode query rest ts e c =
    let nil : rest ≡ [] = nil_from_length rest e in
    record {
      text = ap (λ x. text_then x ts) (sym nil) ∙ c.text;
      each = subst (λ x. AreTokensBefore mode x ts) nil c.each;
    }

-- with the tokens of the rest, they are the tokens of the query
pub tokens_then : (mode : Bool) (query rest : List ℕ) (ts us : List Token) →
    BeginsWithTokens mode query rest ts → IsTokens mode rest us → IsTokens mode query (ts ++ us)
tokens_then mode query rest ts us c r = record {
  text = text_then-append ts us [] ∙ (ap (λ x. text_then x ts) r.text ∙ c.text);
  each = AreTokensBefore-append mode ts us [] (subst (λ x. AreTokensBefore mode x ts) (sym r.text) c.each) r.each;
}

-- ---- the length of a first token

pub token_length : (t : Token) → 0 < length (bytes_of t)
token_length (QuotedString quote tail) = omega arith
token_length (QuotedIdentifier tail) = omega arith
token_length (HashComment tail) = omega arith
token_length (DashComment gap tail) = omega arith
token_length (BlockComment tail) = omega arith
token_length (Name name) = omega arith
token_length Mark = omega arith
token_length (Plain b) = omega arith

pub first_within : (mode : Bool) (rest : List ℕ) (kind : TokenKind) (n : ℕ) →
    IsFirstToken mode rest kind n → n ≤ length rest
first_within mode rest kind n f = omega (arith, f.len_is, ap length f.bytes, length-append (bytes_of f.token) (drop n rest))
