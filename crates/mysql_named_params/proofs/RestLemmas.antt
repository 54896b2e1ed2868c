-- A token that is no place stays one where places after it give way to texts that open nothing.
use Rattle.std.proofs.Common.{◌≡◌, ◌⊎◌, ◌++◌, ◌==◌, ◌&&◌, not, ℕ, Bool, true, false, cond, List, [], ◌∷◌, Option, Some, None, inl, inr, refl, true≢false, sym, ap, ◌∙◌}
use Rattle.mysql_named_params.specs.Bytes.{is_white_space, is_start_byte, is_string_quote, is_extension, begins, asterisk, backquote, colon, dash, hash, newline, question_mark, slash, IsUpTo, Lacks, up_to_word, up_to_end}
use Rattle.mysql_named_params.specs.Tokens.{Token, IsToken, IsStringTail, closed_string, open_string, open_in_escape, QuotedString, QuotedIdentifier, HashComment, DashComment, BlockComment, Name, Mark, Plain}
use Rattle.mysql_named_params.specs.Places.{IsPlace}
use Rattle.mysql_named_params.specs.Locality.{IsOpenTail, units_alone, units_and_escape}
use Rattle.mysql_named_params.specs.FirstToken.{opens_dash_comment, opens_block_comment}
use Rattle.mysql_named_params.specs.TokensOf.{not_plain_at, dash_comment, block_comment, name_at}
use Rattle.mysql_named_params.proofs.TokenEnds.{plain_at}
use Rattle.mysql_named_params.proofs.PlainLemmas.{plain_none}

-- a byte that makes a comment of the two dashes before it
abbrev pub is_gap : ℕ → Bool
is_gap w = is_white_space w && not (w == newline)

-- a text that, after a byte that is plain before a place, opens no comment and no name with it
pub record OpensNothing (text : List ℕ) : Type 0 where
  pub no_line : opens_dash_comment text ≡ false
  pub no_gap : begins is_gap text ≡ false
  pub no_block : opens_block_comment text ≡ false
  pub no_start : begins is_start_byte text ≡ false

pub mark_opens_nothing : (rest : List ℕ) → OpensNothing (question_mark ∷ rest)
mark_opens_nothing rest = record { no_line = no_line rest; no_gap = refl; no_block = refl; no_start = refl }
  where
    no_line : (rest : List ℕ) → opens_dash_comment (question_mark ∷ rest) ≡ false
    no_line [] = refl
    no_line (w ∷ rest) = refl

-- the second text is the first up to a place, where another follows instead, which opens nothing
pub data SameUpToPlace : List ℕ → List ℕ → Type 0 where
  at_end : SameUpToPlace [] []
  same : {b : ℕ} {x y : List ℕ} → SameUpToPlace x y → SameUpToPlace (b ∷ x) (b ∷ y)
  at_place : {b : ℕ} {x y : List ℕ} → (b ≡ colon) ⊎ (b ≡ question_mark) → OpensNothing y →
      SameUpToPlace (b ∷ x) y

pub same-append : (bytes : List ℕ) {x y : List ℕ} → SameUpToPlace x y →
    SameUpToPlace (bytes ++ x) (bytes ++ y)
same-append [] a = a
same-append (b ∷ bytes) a = same (same-append bytes a)

pub same-end : {x y : List ℕ} → SameUpToPlace x y → x ≡ [] → y ≡ []
same-end at_end e = refl
same-end (same a) e = cc
same-end (at_place p n) e = cc

and_false : (a b : Bool) → b ≡ false → (a && b) ≡ false
and_false true b e = e
and_false false b e = refl

-- a dash or slash, a byte, and the text after them
pub dash_second : (b : ℕ) (xs : List ℕ) → begins is_gap xs ≡ false → opens_dash_comment (b ∷ xs) ≡ false
dash_second b [] e = refl
dash_second b (w ∷ bs) e = and_false (b == dash) _ e

pub same-line : {x y : List ℕ} → SameUpToPlace x y → opens_dash_comment x ≡ false →
    opens_dash_comment y ≡ false
same-line at_end e = e
same-line (same at_end) e = e
same-line (same (same a)) e = e
same-line (same {b = b} (at_place {y = y} p n)) e = dash_second b y n.no_gap
same-line (at_place p n) e = n.no_line

hint : {x y : List ℕ} → SameUpToPlace x y → begins is_extension x ≡ true →
    begins is_extension y ≡ true
hint at_end e = e
hint (same a) e = e
hint (at_place p n) e = absurd (no_hint _ p e)
  where
    no_hint : (b : ℕ) → (b ≡ colon) ⊎ (b ≡ question_mark) → is_extension b ≡ true → ⊥
    no_hint b (inl f) g = true≢false (sym g ∙ ap is_extension f)
    no_hint b (inr f) g = true≢false (sym g ∙ ap is_extension f)

pub block_second : (b : ℕ) (xs ys : List ℕ) →
    (begins is_extension xs ≡ true → begins is_extension ys ≡ true) →
    opens_block_comment (b ∷ xs) ≡ false → opens_block_comment (b ∷ ys) ≡ false
block_second b xs ys f e = go (b == asterisk) (begins is_extension xs) (begins is_extension ys) f e
  where
    go : (s p q : Bool) → (p ≡ true → q ≡ true) → (s && not p) ≡ false → (s && not q) ≡ false
    go false p q f e = refl
    go true true q f e = ap not (f refl)
    go true false q f e = absurd (true≢false e)

pub same-block : {x y : List ℕ} → SameUpToPlace x y → opens_block_comment x ≡ false →
    opens_block_comment y ≡ false
same-block at_end e = e
same-block (same {b = b} {x = x} {y = y} a) e = block_second b x y (hint a) e
same-block (at_place p n) e = n.no_block

pub same-start : {x y : List ℕ} → SameUpToPlace x y → begins is_start_byte x ≡ false →
    begins is_start_byte y ≡ false
same-start at_end e = e
same-start (same a) e = e
same-start (at_place p n) e = n.no_start

-- ---- no comment and no name is computed, by the first bytes

none_of_cond : (c : Bool) (t : Token) → cond c (Some t) None ≡ None → c ≡ false
none_of_cond true t e = cc
none_of_cond false t e = refl

pub dash_none : (xs : List ℕ) → dash_comment xs ≡ None → opens_dash_comment xs ≡ false
dash_none [] e = refl
dash_none (b ∷ []) e = refl
dash_none (b ∷ w ∷ bs) e = none_of_cond _ _ e

pub none_dash : (xs : List ℕ) → opens_dash_comment xs ≡ false → dash_comment xs ≡ None
none_dash [] e = refl
none_dash (b ∷ []) e = refl
none_dash (b ∷ w ∷ bs) e = rw e refl

pub block_none : (xs : List ℕ) → block_comment xs ≡ None → opens_block_comment xs ≡ false
block_none [] e = refl
block_none (b ∷ bs) e = none_of_cond _ _ e

pub none_block : (xs : List ℕ) → opens_block_comment xs ≡ false → block_comment xs ≡ None
none_block [] e = refl
none_block (b ∷ bs) e = rw e refl

pub name_none : (xs : List ℕ) → name_at xs ≡ None → begins is_start_byte xs ≡ false
name_none [] e = refl
name_none (b ∷ bs) e = none_of_cond _ _ e

pub none_name : (xs : List ℕ) → begins is_start_byte xs ≡ false → name_at xs ≡ None
none_name [] e = refl
none_name (b ∷ bs) e = rw e refl

pub cond_none : (c : Bool) (p q p' q' : Option Token) → (p ≡ None → p' ≡ None) →
    (q ≡ None → q' ≡ None) → cond c p q ≡ None → cond c p' q' ≡ None
cond_none true p q p' q' f g e = f e
cond_none false p q p' q' f g e = g e

pub some_none : (t u : Token) → Some t ≡ None → Some u ≡ None
some_none t u e = cc

not_plain-move : (mode : Bool) (b : ℕ) (x y : List ℕ) → SameUpToPlace x y →
    not_plain_at mode (b ∷ x) ≡ None → not_plain_at mode (b ∷ y) ≡ None
not_plain-move mode b x y a =
    cond_none (is_string_quote b) _ _ _ _ (some_none _ _)
    (cond_none (b == backquote) _ _ _ _ (some_none _ _)
    (cond_none (b == hash) _ _ _ _ (some_none _ _)
    (cond_none (b == dash) _ _ _ _ (λ e. none_dash y (same-line a (dash_none x e)))
    (cond_none (b == slash) _ _ _ _ (λ e. none_block y (same-block a (block_none x e)))
    (cond_none (b == colon) _ _ _ _ (λ e. none_name y (same-start a (name_none x e)))
    (cond_none (b == question_mark) _ _ _ _ (some_none _ _) (λ e. refl)))))))

pub string-alike : (mode : Bool) (q : ℕ) (tail x y : List ℕ) →
    (IsOpenTail mode q tail → x ≡ [] → y ≡ []) → IsStringTail mode q tail x →
    IsStringTail mode q tail y
string-alike mode q tail x y f (closed_string body u e) = closed_string body u e
string-alike mode q tail x y f (open_string u e) = open_string u (f (units_alone u) e)
string-alike mode q tail x y f (open_in_escape body b u s e n) = open_in_escape body b u s e (f (units_and_escape body b u s e) n)

pub up_to-alike : (word bytes x y : List ℕ) → (Lacks word bytes → x ≡ [] → y ≡ []) →
    IsUpTo word bytes x → IsUpTo word bytes y
up_to-alike word bytes x y f (up_to_word body e ends) = up_to_word body e ends
up_to-alike word bytes x y f (up_to_end lacks e) = up_to_end lacks (f lacks e)

-- the bytes that distinguish a comment from an executed text are in the comment, or nowhere
pub block-alike : (tail x y : List ℕ) → (Lacks (asterisk ∷ slash ∷ []) tail → x ≡ [] → y ≡ []) →
    IsUpTo (asterisk ∷ slash ∷ []) tail x → begins is_extension (tail ++ x) ≡ false →
    begins is_extension (tail ++ y) ≡ false
block-alike (b ∷ tail) x y f u e = e
block-alike [] x y f (up_to_word body e ends) h = absurd (no_end body e)
  where
    no_end : (body : List ℕ) → body ++ asterisk ∷ slash ∷ [] ≡ [] → ⊥
    no_end [] e = cc
    no_end (b ∷ body) e = cc
block-alike [] x y f (up_to_end lacks e) h = rw (f lacks e) refl

-- a token that isn't a place stays one before the text that the rest becomes
pub IsToken-move : (mode : Bool) (t : Token) (x y : List ℕ) → (IsPlace t → ⊥) → SameUpToPlace x y →
    IsToken mode t x → IsToken mode t y
IsToken-move mode (QuotedString quote tail) x y n a h = (h.0, string-alike mode quote tail x y (λ lacks. same-end a) h.1)
IsToken-move mode (QuotedIdentifier tail) x y n a h = up_to-alike _ tail x y (λ lacks. same-end a) h
IsToken-move mode (HashComment tail) x y n a h = up_to-alike _ tail x y (λ lacks. same-end a) h
IsToken-move mode (DashComment space tail) x y n a h = (h.0, h.1, up_to-alike _ tail x y (λ lacks. same-end a) h.2)
IsToken-move mode (BlockComment tail) x y n a h = (block-alike tail x y (λ lacks. same-end a) h.1 h.0, up_to-alike _ tail x y (λ lacks. same-end a) h.1)
IsToken-move mode (Name name) x y n a h = absurd (n tt)
IsToken-move mode Mark x y n a h = absurd (n tt)
IsToken-move mode (Plain b) x y n a h = plain_at mode b y (not_plain-move mode b x y a (plain_none mode b x h))
