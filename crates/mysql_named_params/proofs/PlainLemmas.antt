-- A byte is a plain token only if no other token is computed there.
use Rattle.std.proofs.Common.{◌≡◌, ◌≢◌, ℕ, Bool, true, false, cond, not, ◌==◌, ◌&&◌, List, [], ◌∷◌, ◌++◌, take, drop, Option, Some, None, refl, sym, ap, subst, take-append-drop, arith, true≢false}
use Rattle.std.proofs.lemmas.Bool.{and_parts, eqb-true, eqb-false}
use Rattle.mysql_named_params.specs.Bytes.{asterisk, backquote, colon, dash, hash, newline, question_mark, slash, is_white_space, is_start_byte, is_string_quote, is_extension, begins}
use Rattle.mysql_named_params.specs.Tokens.{Token, bytes_of, IsNotPlain, IsToken, Plain}
use Rattle.mysql_named_params.specs.FirstToken.{opens_dash_comment, opens_block_comment}
use Rattle.mysql_named_params.specs.TokensOf.{not_plain_at, dash_comment, block_comment, name_at, len_up_to, string_len, name_len}
use Rattle.mysql_named_params.proofs.TokenEndLemmas.{up_to_gives, string_gives, name_gives}

-- the text begins with this token, which is not plain, and something follows
abbrev pub BeginsWithToken : Bool → List ℕ → Token → Type 0
BeginsWithToken mode text t = (after : List ℕ) × IsNotPlain mode t after × (bytes_of t ++ after ≡ text)

token_found : (mode : Bool) (text : List ℕ) (u t : Token) → BeginsWithToken mode text u →
    Some u ≡ Some t → BeginsWithToken mode text t
token_found mode text u t f e = let p : u ≡ t = cc in subst (BeginsWithToken mode text) p f

pub cond_some : (c : Bool) (p q : Option Token) (t : Token) (P : Type 0) → (c ≡ true → p ≡ Some t → P) →
    (c ≡ false → q ≡ Some t → P) → cond c p q ≡ Some t → P
cond_some true p q t P f g e = f refl e
cond_some false p q t P f g e = g refl e

not_true : (b : Bool) → not b ≡ true → b ≡ false
not_true true e = absurd (true≢false (sym e))
not_true false e = refl

join : (a b : ℕ) (n : ℕ) (xs : List ℕ) → a ≡ b →
    ◌≡◌ {A = List ℕ} (a ∷ (take n xs ++ drop n xs)) (b ∷ xs)
join a b n xs e = rw take-append-drop (ap (λ x. x ∷ xs) e)

dash_found : (mode : Bool) (xs : List ℕ) (t : Token) → dash_comment xs ≡ Some t →
    BeginsWithToken mode (dash ∷ xs) t
dash_found mode [] t e = cc
dash_found mode (b ∷ []) t e = cc
dash_found mode (b ∷ w ∷ bs) t e =
    cond_some (opens_dash_comment (b ∷ w ∷ bs)) _ _ t _
    (λ h f.
    let p = and_parts (b == dash) (is_white_space w && not (w == newline)) h in
    let q = and_parts (is_white_space w) (not (w == newline)) p.1 in
    let b_is : b ≡ dash = eqb-true b dash p.0 in
    let ne : w ≢ newline = eqb-false w newline (not_true _ q.1) in
    token_found mode _ _ t (drop (len_up_to (newline ∷ []) bs) bs, (q.0, ne, up_to_gives (newline ∷ []) bs (omega arith)), rw (take-append-drop, b_is)) f)
    (λ h f. cc) e

block_found : (mode : Bool) (xs : List ℕ) (t : Token) → block_comment xs ≡ Some t →
    BeginsWithToken mode (slash ∷ xs) t
block_found mode [] t e = cc
block_found mode (b ∷ bs) t e =
    cond_some (opens_block_comment (b ∷ bs)) _ _ t _
    (λ h f.
    let p = and_parts (b == asterisk) (not (begins is_extension bs)) h in
    let b_is : b ≡ asterisk = eqb-true b asterisk p.0 in
    let no : begins is_extension bs ≡ false = not_true _ p.1 in
    token_found mode _ _ t (drop (len_up_to (asterisk ∷ slash ∷ []) bs) bs, (rw take-append-drop no, up_to_gives (asterisk ∷ slash ∷ []) bs (omega arith)), rw (take-append-drop, b_is)) f)
    (λ h f. cc) e

name_found : (mode : Bool) (xs : List ℕ) (t : Token) → name_at xs ≡ Some t →
    BeginsWithToken mode (colon ∷ xs) t
name_found mode [] t e = cc
name_found mode (b ∷ bs) t e =
    cond_some (is_start_byte b) _ _ t _
    (λ h f.
    let n = name_gives bs in
    token_found mode _ _ t (drop (name_len bs) bs, ((h, n.each), n.ends), rw take-append-drop) f)
    (λ h f. cc) e

-- a token that is computed is there
pub not_plain_found : (mode : Bool) (text : List ℕ) (t : Token) → not_plain_at mode text ≡ Some t →
    BeginsWithToken mode text t
not_plain_found mode [] t e = cc
not_plain_found mode (b ∷ bs) t e =
    cond_some (is_string_quote b) _ _ t _ (λ h f. token_found mode _ _ t (drop (string_len mode b false bs) bs, (h, string_gives mode b bs), join b b _ bs refl) f)
    (λ h. cond_some (b == backquote) _ _ t _ (λ h f. token_found mode _ _ t (drop (len_up_to (backquote ∷ []) bs) bs, up_to_gives (backquote ∷ []) bs (omega arith), join backquote b _ bs (sym (eqb-true b backquote h))) f)
    (λ h. cond_some (b == hash) _ _ t _ (λ h f. token_found mode _ _ t (drop (len_up_to (newline ∷ []) bs) bs, up_to_gives (newline ∷ []) bs (omega arith), join hash b _ bs (sym (eqb-true b hash h))) f)
    (λ h. cond_some (b == dash) _ _ t _ (λ h f. rw (eqb-true b dash h) (dash_found mode bs t f))
    (λ h. cond_some (b == slash) _ _ t _ (λ h f. rw (eqb-true b slash h) (block_found mode bs t f))
    (λ h. cond_some (b == colon) _ _ t _ (λ h f. rw (eqb-true b colon h) (name_found mode bs t f))
    (λ h. cond_some (b == question_mark) _ _ t _ (λ h f. token_found mode _ _ t (bs, tt, ap (λ x. x ∷ bs) (sym (eqb-true b question_mark h))) f) (λ h f. cc)))))))
    e

-- a token is plain only if no other is computed
pub plain_none : (mode : Bool) (b : ℕ) (rest : List ℕ) → IsToken mode (Plain b) rest →
    not_plain_at mode (b ∷ rest) ≡ None
plain_none mode b rest h = go (not_plain_at mode (b ∷ rest)) refl
  where
    go : (o : Option Token) → not_plain_at mode (b ∷ rest) ≡ o → o ≡ None
    go None e = refl
    go (Some t) e = let f = not_plain_found mode (b ∷ rest) t e in absurd (h t f.0 f.1 f.2)
