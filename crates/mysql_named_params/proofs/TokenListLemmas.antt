-- No query has two token lists in one mode.
use Rattle.std.specs.Prelude.{Bool}
use Rattle.std.proofs.Common.{◌≡◌, ◌≢◌, ◌⊎◌, ℕ, List, [], ◌∷◌, ◌++◌, Some, refl, sym, ap, ◌∙◌, subst, inl, inr}
use Rattle.std.proofs.lemmas.List.{append_cancel_left}
use Rattle.mysql_named_params.specs.Tokens.{Token, bytes_of, IsNotPlain, IsToken, IsTokens, text_then, AreTokensBefore, QuotedString, QuotedIdentifier, HashComment, DashComment, BlockComment, Name, Mark, Plain}
use Rattle.mysql_named_params.specs.TokensOf.{not_plain_at}
use Rattle.mysql_named_params.proofs.TokenEnds.{not_plain_at_is}

-- a token is plain, or one of the others
not_plain_or_plain : (mode : Bool) (t : Token) (r : List ℕ) → IsToken mode t r →
    IsNotPlain mode t r ⊎ ((b : ℕ) × (t ≡ Plain b))
not_plain_or_plain mode (Plain b) r h = inr (b, refl)
not_plain_or_plain mode (QuotedString quote tail) r h = inl h
not_plain_or_plain mode (QuotedIdentifier tail) r h = inl h
not_plain_or_plain mode (HashComment tail) r h = inl h
not_plain_or_plain mode (DashComment gap tail) r h = inl h
not_plain_or_plain mode (BlockComment tail) r h = inl h
not_plain_or_plain mode (Name name) r h = inl h
not_plain_or_plain mode Mark r h = inl h

-- a text begins with one token
pub one_token : (mode : Bool) (t u : Token) (r s : List ℕ) → IsToken mode t r → IsToken mode u s →
    bytes_of t ++ r ≡ bytes_of u ++ s → t ≡ u
one_token mode t u r s ht hu e =
    elim (not_plain_or_plain mode t r ht) [
      | inl ht' ↦ elim (not_plain_or_plain mode u s hu) [
        | inl hu' ↦
            let same : Some t ≡ Some u = sym (not_plain_at_is mode t r ht') ∙ (ap (not_plain_at mode) e ∙ not_plain_at_is mode u s hu') in
            cc
        | inr p ↦
            let hp : IsToken mode (Plain p.0) s = subst (λ x. IsToken mode x s) p.1 hu in
            absurd (hp t r ht' (e ∙ ap (λ x. bytes_of x ++ s) p.1))
      ]
      | inr p ↦ elim (not_plain_or_plain mode u s hu) [
        | inl hu' ↦
            let hp : IsToken mode (Plain p.0) r = subst (λ x. IsToken mode x r) p.1 ht in
            absurd (hp u s hu' (sym e ∙ ap (λ x. bytes_of x ++ r) p.1))
        | inr q ↦
            let heads : p.0 ∷ r ≡ q.0 ∷ s = sym (ap (λ x. bytes_of x ++ r) p.1) ∙ (e ∙ ap (λ x. bytes_of x ++ s) q.1) in
            let same : p.0 ≡ q.0 = cc in
            p.1 ∙ (ap Plain same ∙ sym q.1)
      ]
    ]

-- no token is empty
pub some_byte : (t : Token) (r : List ℕ) → bytes_of t ++ r ≢ []
some_byte (QuotedString quote tail) r e = cc
some_byte (QuotedIdentifier tail) r e = cc
some_byte (HashComment tail) r e = cc
some_byte (DashComment gap tail) r e = cc
some_byte (BlockComment tail) r e = cc
some_byte (Name name) r e = cc
some_byte Mark r e = cc
some_byte (Plain b) r e = cc

-- a text in front of the end is cut in one way
one_cut : (mode : Bool) (ts us : List Token) → AreTokensBefore mode [] ts →
    AreTokensBefore mode [] us → text_then [] ts ≡ text_then [] us → ts ≡ us
one_cut mode [] [] ht hu e = refl
one_cut mode [] (u ∷ us) ht hu e = absurd (some_byte u (text_then [] us) (sym e))
one_cut mode (t ∷ ts) [] ht hu e = absurd (some_byte t (text_then [] ts) e)
one_cut mode (t ∷ ts) (u ∷ us) ht hu e =
    let same : t ≡ u = one_token mode t u (text_then [] ts) (text_then [] us) ht.0 hu.0 e in
    let rest : text_then [] ts ≡ text_then [] us = append_cancel_left (bytes_of t) _ _ (e ∙ ap (λ x. bytes_of x ++ text_then [] us) (sym same)) in
    let tails : ts ≡ us = one_cut mode ts us ht.1 hu.1 rest in
    cc

-- no query has two token lists in one mode
pub one_token_list : (mode : Bool) (query : List ℕ) (ts us : List Token) → IsTokens mode query ts →
    IsTokens mode query us → ts ≡ us
one_token_list mode query ts us ht hu = one_cut mode ts us ht.each hu.each (ht.text ∙ sym hu.text)
