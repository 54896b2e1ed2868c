-- Every query has tokens: those that are computed.
use Rattle.std.specs.Prelude.{Bool, unwrap_or}
use Rattle.std.proofs.Common.{◌≡◌, ℕ, ◌+◌, ◌≤◌, List, [], ◌∷◌, ◌++◌, length, drop, Option, Some, None, refl, sym, ap, ◌∙◌, subst, arith, drop_at, length-append}
use Rattle.mysql_named_params.specs.Tokens.{Token, bytes_of, IsNotPlain, IsToken, IsTokens, QuotedString, QuotedIdentifier, HashComment, DashComment, BlockComment, Name, Mark, Plain}
use Rattle.mysql_named_params.specs.TokensOf.{not_plain_at, token_at, tokens_within, tokens_of}
use Rattle.mysql_named_params.proofs.TokenEnds.{plain_at}
use Rattle.mysql_named_params.proofs.CutLemmas.{token_length}
use Rattle.mysql_named_params.proofs.PlainLemmas.{not_plain_found}

token_of_not_plain : (mode : Bool) (t : Token) (rest : List ℕ) → IsNotPlain mode t rest →
    IsToken mode t rest
token_of_not_plain mode (Plain b) r h = absurd h
token_of_not_plain mode (QuotedString quote tail) r h = h
token_of_not_plain mode (QuotedIdentifier tail) r h = h
token_of_not_plain mode (HashComment tail) r h = h
token_of_not_plain mode (DashComment gap tail) r h = h
token_of_not_plain mode (BlockComment tail) r h = h
token_of_not_plain mode (Name name) r h = h
token_of_not_plain mode Mark r h = h

-- the token that is computed is at the front of the text
token_right : (mode : Bool) (b : ℕ) (bs : List ℕ) → (after : List ℕ)
    × (bytes_of (token_at mode b bs) ++ after ≡ b ∷ bs) × IsToken mode (token_at mode b bs) after
token_right mode b bs = of_search (not_plain_at mode (b ∷ bs)) refl
  where
    of_search : (found : Option Token) → not_plain_at mode (b ∷ bs) ≡ found → (after : List ℕ)
        × (bytes_of (unwrap_or found (Plain b)) ++ after ≡ b ∷ bs)
        × IsToken mode (unwrap_or found (Plain b)) after
    of_search None e = (bs, refl, plain_at mode b bs e)
    of_search (Some t) e =
        let found = not_plain_found mode (b ∷ bs) t e in
        (found.0, found.2, token_of_not_plain mode t found.0 found.1)

-- the list is at least as long as the text
within_right : (mode : Bool) (items text : List ℕ) → length text ≤ length items →
    IsTokens mode text (tokens_within mode items text)
within_right mode [] [] le = record { text = refl; each = tt }
within_right mode [] (b ∷ bs) le = absurd (omega arith)
within_right mode (item ∷ items) [] le = record { text = refl; each = tt }
within_right mode (item ∷ items) (b ∷ bs) le =
    let t : Token = token_at mode b bs in
    let first = token_right mode b bs in
    let after : drop (length (bytes_of t)) (b ∷ bs) ≡ first.0 = ap (drop (length (bytes_of t))) (sym first.1) ∙ drop_at (bytes_of t) first.0 (length (bytes_of t)) refl in
    let lengths : length (bytes_of t) + length first.0 ≡ length (b ∷ bs) = sym (length-append (bytes_of t) first.0) ∙ ap length first.1 in
    let rest = within_right mode items first.0 (omega (arith, lengths, token_length t)) in
    rw after (record {
      text = ap (λ x. bytes_of t ++ x) rest.text ∙ first.1;
      each = (subst (IsToken mode t) (sym rest.text) first.2, rest.each);
    })

-- the list that is computed is that of the tokens
pub tokens_right : (mode : Bool) (query : List ℕ) → IsTokens mode query (tokens_of mode query)
tokens_right mode query = within_right mode query query (omega arith)

pub tokens_exist : (mode : Bool) (query : List ℕ) → (ts : List Token) × IsTokens mode query ts
tokens_exist mode query = (tokens_of mode query, tokens_right mode query)
