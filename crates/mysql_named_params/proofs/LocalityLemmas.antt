-- A token sees no more of the text after it than `looks_at` says.
use Rattle.std.proofs.Common.{◌≡◌, ◌==◌, ℕ, Bool, false, List, [], ◌∷◌, take, inl, inr, refl, ap, ◌∙◌, sym, None}
use Rattle.std.proofs.lemmas.Bool.{cases_Bool}
use Rattle.mysql_named_params.specs.Bytes.{backquote, colon, dash, hash, question_mark, slash, is_name_byte, is_start_byte, is_string_quote, begins}
use Rattle.mysql_named_params.specs.Tokens.{Token, IsToken, QuotedString, QuotedIdentifier, HashComment, DashComment, BlockComment, Name, Mark, Plain}
use Rattle.mysql_named_params.specs.FirstToken.{opens_dash_comment, opens_block_comment}
use Rattle.mysql_named_params.specs.Locality.{looks_at, LooksAlike}
use Rattle.mysql_named_params.specs.TokensOf.{not_plain_at}
use Rattle.mysql_named_params.proofs.TokenEnds.{plain_at}
use Rattle.mysql_named_params.proofs.PlainLemmas.{plain_none}
use Rattle.mysql_named_params.proofs.RestLemmas.{string-alike, up_to-alike, block-alike, cond_none, some_none, dash_none, none_dash, block_none, none_block, name_none, none_name}

begins_take : (test : ℕ → Bool) (xs : List ℕ) → begins test (take 1 xs) ≡ begins test xs
begins_take test [] = refl
begins_take test (b ∷ xs) = refl

dash_take : (xs : List ℕ) → opens_dash_comment (take 2 xs) ≡ opens_dash_comment xs
dash_take [] = refl
dash_take (b ∷ []) = refl
dash_take (b ∷ w ∷ xs) = refl

block_take : (xs : List ℕ) → opens_block_comment (take 2 xs) ≡ opens_block_comment xs
block_take [] = refl
block_take (b ∷ []) = refl
block_take (b ∷ w ∷ xs) = refl

-- a test that sees the first n bytes
seen : (n : ℕ) (test : List ℕ → Bool) (x y : List ℕ) →
    ((xs : List ℕ) → test (take n xs) ≡ test xs) → take n x ≡ take n y → test x ≡ false →
    test y ≡ false
seen n test x y s e h = sym (s y) ∙ (ap test (sym e) ∙ (s x ∙ h))

plain_alike : (mode : Bool) (b : ℕ) (x y : List ℕ) →
    take (looks_at (Plain b)) x ≡ take (looks_at (Plain b)) y → not_plain_at mode (b ∷ x) ≡ None →
    not_plain_at mode (b ∷ y) ≡ None
plain_alike mode b x y e =
    cond_none (is_string_quote b) _ _ _ _ (some_none _ _)
    (cond_none (b == backquote) _ _ _ _ (some_none _ _)
    (cond_none (b == hash) _ _ _ _ (some_none _ _)
    (elim (cases_Bool (b == dash)) [
      | inl h ↦ rw h (λ n. none_dash y (seen 2 opens_dash_comment x y dash_take (rw h at e) (dash_none x n)))
      | inr h ↦ rw h (elim (cases_Bool (b == slash)) [
        | inl g ↦ rw g (λ n. none_block y (seen 2 opens_block_comment x y block_take (rw (h, g) at e) (block_none x n)))
        | inr g ↦ rw g (elim (cases_Bool (b == colon)) [
          | inl f ↦ rw f (λ n. none_name y (seen 1 (begins is_start_byte) x y (begins_take is_start_byte) (rw (h, g, f) at e) (name_none x n)))
          | inr f ↦ rw f (cond_none (b == question_mark) _ _ _ _ (some_none _ _) (λ n. refl))
        ])
      ])
    ])))

pub locality : (mode : Bool) (t : Token) (x y : List ℕ) → LooksAlike mode t x y → IsToken mode t x →
    IsToken mode t y
locality mode (QuotedString quote tail) x y a h = (h.0, string-alike mode quote tail x y a.at_end h.1)
locality mode (QuotedIdentifier tail) x y a h = up_to-alike _ tail x y a.at_end h
locality mode (HashComment tail) x y a h = up_to-alike _ tail x y a.at_end h
locality mode (DashComment space tail) x y a h = (h.0, h.1, up_to-alike _ tail x y a.at_end h.2)
locality mode (BlockComment tail) x y a h = (block-alike tail x y a.at_end h.1 h.0, up_to-alike _ tail x y a.at_end h.1)
locality mode (Name name) x y a h = (h.0, seen 1 (begins is_name_byte) x y (begins_take is_name_byte) a.bytes h.1)
locality mode Mark x y a h = tt
locality mode (Plain b) x y a h = plain_at mode b y (plain_alike mode b x y a.bytes (plain_none mode b x h))
