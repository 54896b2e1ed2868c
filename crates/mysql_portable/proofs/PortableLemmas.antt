-- The tokens that every server reads alike.
use Rattle.std.specs.Prelude.{Bool}
use Rattle.std.proofs.Common.{◌≡◌, ◌≢◌, ◌⊎◌, ℕ, true, false, cond, not, ◌==◌, ◌&&◌, ◌||◌, List, [], ◌∷◌, ◌++◌, length, Option, None, refl, sym, ap, ◌∙◌, subst, inl, inr, arith, true≢false, length-append, append-nil}
use Rattle.std.proofs.lemmas.Bool.{cases_Bool, and_parts, or_parts, not-true, eqb-true, eqb-false}
use Rattle.std.proofs.lemmas.Bool.Decides.{nat_tests}
use Rattle.mysql_named_params.specs.Bytes.{asterisk, backquote, colon, dash, double_quote, exclamation_mark, hash, newline, question_mark, slash, space, is_white_space, is_string_quote, begins, IsUpTo, up_to_word, up_to_end}
use Rattle.mysql_sql_text.specs.StringUnits.{AreUnits, no_units, byte_unit}
use Rattle.mysql_named_params.specs.Tokens.{Token, bytes_of, text_of, IsToken, AreTokensBefore, IsStringTail, closed_string, open_string, open_in_escape, QuotedString, QuotedIdentifier, HashComment, DashComment, BlockComment, Name, Mark, Plain}
use Rattle.mysql_named_params.specs.FirstToken.{opens_dash_comment}
use Rattle.mysql_named_params.specs.TokensOf.{not_plain_at, dash_comment}
use Rattle.mysql_named_params.proofs.TokenEnds.{plain_at}
use Rattle.mysql_named_params.proofs.PlainLemmas.{plain_none}
use Rattle.mysql_named_params.proofs.RestLemmas.{cond_none, some_none, dash_none}
use Rattle.mysql_named_params.proofs.TokenListLemmas.{one_token}
use Rattle.mysql_portable.specs.Server.{Server, opens_line, line_on, keeps_dashes, begins_special, begins_own, holds_return, escapes_backquote, reads_in, usual_block, IsTailBy, usual_end, open_tail, usual_quotes, IsTokenOn}
use Rattle.mysql_portable.specs.Portable.{stands_inside, may_open_line, differs_at}
use Rattle.mysql_portable.proofs.ServerTokenLemmas.{not_plain_on, plain_on, dash_comment_on, block_comment_on, own_on}

-- ---- tests

pub second_false : (a b : Bool) → (a && b) ≡ false → a ≡ true → b ≡ false
second_false true b e h = e
second_false false b e h = absurd (true≢false (sym h))

pub false_if : (a b : Bool) → (a ≡ true → b ≡ false) → (a && b) ≡ false
false_if true b f = f refl
false_if false b f = refl

pub cond_none_if : (c : Bool) (p q p' q' : Option Token) → (c ≡ true → p ≡ None → p' ≡ None) →
    (q ≡ None → q' ≡ None) → cond c p q ≡ None → cond c p' q' ≡ None
cond_none_if true p q p' q' f g e = f refl e
cond_none_if false p q p' q' f g e = g e

pub keeps_no_white : (b : ℕ) → is_white_space b ≡ true → keeps_dashes b ≡ false
keeps_no_white b h = grind (arith, nat_tests)

keeps_no_space : (b : ℕ) → keeps_dashes b ≡ true → (b == space) ≡ false
keeps_no_space b h = grind (arith, nat_tests)

keeps_opens_no_line : (server : Server) (b : ℕ) → keeps_dashes b ≡ true → opens_line server b ≡ false
keeps_opens_no_line server b h = rw (h, keeps_no_space b h) refl

-- ---- strings

-- units without the quote, in the mode without backslashes
units_without : (q : ℕ) (body : List ℕ) → stands_inside q (body ++ q ∷ []) ≡ false →
    AreUnits true q body
units_without q [] h = no_units
units_without q (b ∷ []) h = byte_unit (eqb-false b q (or_parts (b == q) _ h).0) refl no_units
units_without q (b ∷ c ∷ body) h =
    let p = or_parts (b == q) (stands_inside q (c ∷ (body ++ q ∷ []))) h in
    byte_unit (eqb-false b q p.0) refl (units_without q (c ∷ body) p.1)

cons_unit : (q b : ℕ) (tail rest : List ℕ) → b ≢ q → IsStringTail true q tail rest →
    IsStringTail true q (b ∷ tail) rest
cons_unit q b tail rest ne (closed_string body u e) = closed_string (b ∷ body) (byte_unit ne refl u) (ap (λ x. b ∷ x) e)
cons_unit q b tail rest ne (open_string u e) = open_string (byte_unit ne refl u) e
cons_unit q b tail rest ne (open_in_escape body c u escapes e nil) = absurd (true≢false (sym escapes))

last_tail : (q : ℕ) (tail : List ℕ) → stands_inside q tail ≡ false → IsStringTail true q tail []
last_tail q [] h = open_string no_units refl
last_tail q (b ∷ []) h =
    elim (cases_Bool (b == q)) [
      | inl e ↦ closed_string [] no_units (ap (λ x. x ∷ []) (sym (eqb-true b q e)))
      | inr e ↦ open_string (byte_unit (eqb-false b q e) refl no_units) refl
    ]
last_tail q (b ∷ c ∷ bs) h =
    let p = or_parts (b == q) (stands_inside q (c ∷ bs)) h in
    cons_unit q b (c ∷ bs) [] (eqb-false b q p.0) (last_tail q (c ∷ bs) p.1)

string_without : (q : ℕ) (tail rest : List ℕ) → IsStringTail false q tail rest →
    stands_inside q tail ≡ false → IsStringTail true q tail rest
string_without q tail rest (closed_string body u e) p = closed_string body (units_without q body (ap (stands_inside q) e ∙ p)) e
string_without q tail rest (open_string u nil) p = subst (IsStringTail true q tail) (sym nil) (last_tail q tail p)
string_without q tail rest (open_in_escape body b u s e nil) p = subst (IsStringTail true q tail) (sym nil) (last_tail q tail p)

string_on : (server : Server) (mode : Bool) (q : ℕ) (tail rest : List ℕ) → IsStringTail mode q tail rest →
    not (q == double_quote && stands_inside q tail) ≡ true →
    IsStringTail (reads_in server mode q) q tail rest
string_on server true q tail rest h p = h
string_on server false q tail rest h p = go server.ansi_quotes (q == double_quote) p
  where
    go : (a d : Bool) → not (d && stands_inside q tail) ≡ true → IsStringTail (a && d) q tail rest
    go false d p = h
    go true false p = h
    go true true p = string_without q tail rest h (not-true _ p)

-- ---- comments

-- a carriage return is in the comment, or nowhere before its end
pub returns_alike : (tail rest : List ℕ) → IsUpTo (newline ∷ []) tail rest →
    holds_return (tail ++ rest) ≡ holds_return tail
returns_alike tail rest (up_to_end lacks e) = rw e (ap holds_return (append-nil tail))
returns_alike tail rest (up_to_word body e ends) = subst (λ x. holds_return (x ++ rest) ≡ holds_return x) e (closed body)
  where
    closed : (xs : List ℕ) → holds_return ((xs ++ newline ∷ []) ++ rest) ≡ holds_return (xs ++ newline ∷ [])
    closed [] = refl
    closed (b ∷ []) = refl
    closed (b ∷ c ∷ xs) = rw (closed (c ∷ xs)) refl

-- a backslash is before the end of the identifier, or not
pub escapes_alike : (tail rest : List ℕ) → IsUpTo (backquote ∷ []) tail rest →
    escapes_backquote (tail ++ rest) ≡ escapes_backquote tail
escapes_alike tail rest (up_to_end lacks e) = rw e (ap escapes_backquote (append-nil tail))
escapes_alike tail rest (up_to_word body e ends) = subst (λ x. escapes_backquote (x ++ rest) ≡ escapes_backquote x) e (closed body)
  where
    closed : (xs : List ℕ) → escapes_backquote ((xs ++ backquote ∷ []) ++ rest) ≡ escapes_backquote (xs ++ backquote ∷ [])
    closed [] = refl
    closed (b ∷ []) = refl
    closed (b ∷ c ∷ xs) = rw (closed (c ∷ xs)) refl

-- a comment of one line that every server ends alike
pub line_usual : (server : Server) (tail rest : List ℕ) → IsUpTo (newline ∷ []) tail rest →
    holds_return tail ≡ false → IsTailBy (line_on server (tail ++ rest)) newline tail rest
line_usual server tail rest h p = usual_end (rw (returns_alike tail rest h ∙ p) refl) h

-- the bytes that distinguish a comment from a special text are in the comment, or nowhere
pub special_in_front : (tail rest : List ℕ) → IsUpTo (asterisk ∷ slash ∷ []) tail rest →
    begins_special tail ≡ false → begins_special (tail ++ rest) ≡ false
special_in_front [] rest (up_to_word body e ends) p = absurd (omega (arith, ap length e, length-append body (asterisk ∷ slash ∷ [])))
special_in_front [] rest (up_to_end lacks e) p = rw e refl
special_in_front (b ∷ []) rest (up_to_word body e ends) p = absurd (omega (arith, ap length e, length-append body (asterisk ∷ slash ∷ [])))
special_in_front (b ∷ []) rest (up_to_end lacks e) p = rw e p
special_in_front (b ∷ c ∷ tail) rest u p = p

pub special_more : (tail rest : List ℕ) → begins_special tail ≡ true → begins_special (tail ++ rest) ≡ true
special_more [] rest h = absurd (true≢false (sym h))
special_more (b ∷ []) rest h = go _ _ h
  where
    go : (a c : Bool) → (a || (c && false)) ≡ true → (a || (c && begins (λ d. d == exclamation_mark) rest)) ≡ true
    go true c h = refl
    go false true h = absurd (true≢false (sym h))
    go false false h = absurd (true≢false (sym h))
special_more (b ∷ c ∷ tail) rest h = h

-- ---- plain bytes

-- if `--` and a newline follow, the server opens no comment there
abbrev pub NoEmptyComment : Server → List ℕ → Type 0
NoEmptyComment server rest = (more : List ℕ) → dash ∷ newline ∷ more ≡ rest → opens_line server newline ≡ false

dash_on : (server : Server) (rest : List ℕ) → may_open_line rest ≡ false → NoEmptyComment server rest →
    dash_comment rest ≡ None → dash_comment_on server rest ≡ None
dash_on server [] p n e = refl
dash_on server (b ∷ []) p n e = refl
dash_on server (b ∷ gap ∷ bs) p n e = rw (opens (cases_Bool (b == dash)) (dash_none (b ∷ gap ∷ bs) e) p) refl
  where
    no_gap : (s l k : Bool) → (gap == space) ≡ s → (gap == newline) ≡ l → keeps_dashes gap ≡ k → b ≡ dash →
        (is_white_space gap && not (gap == newline)) ≡ false → not (s || (l || k)) ≡ false → opens_line server gap ≡ false
    no_gap true l k se le ke d e p =
        absurd (true≢false (subst (λ x. (is_white_space x && not (x == newline)) ≡ false) (eqb-true gap space se) e))
    no_gap false true k se le ke d e p =
        let g : gap ≡ newline = eqb-true gap newline le in
        ap (opens_line server) g ∙ n bs (ap (λ x. x ∷ newline ∷ bs) (sym d) ∙ ap (λ x. b ∷ x ∷ bs) (sym g))
    no_gap false false true se le ke d e p = keeps_opens_no_line server gap ke
    no_gap false false false se le ke d e p = absurd (true≢false p)

    opens : ((b == dash) ≡ true) ⊎ ((b == dash) ≡ false) → opens_dash_comment (b ∷ gap ∷ bs) ≡ false →
        may_open_line (b ∷ gap ∷ bs) ≡ false → (b == dash && opens_line server gap) ≡ false
    opens (inl d) e p =
        rw d (no_gap (gap == space) (gap == newline) (keeps_dashes gap) refl refl refl (eqb-true b dash d) (rw d at e) (rw d at p))
    opens (inr d) e p = rw d refl

pub slash_on : (server : Server) (rest : List ℕ) → begins (λ c. c == asterisk) rest ≡ false →
    block_comment_on server rest ≡ None
slash_on server [] p = refl
slash_on server (b ∷ bs) p = rw p refl

pub own_none : (server : Server) (b : ℕ) (rest : List ℕ) → begins_own b rest ≡ false → own_on server b rest ≡ None
own_none server b rest p = rw p refl

plain_alike : (server : Server) (mode : Bool) (b : ℕ) (rest : List ℕ) → differs_at b rest ≡ false →
    (b ≡ dash → NoEmptyComment server rest) → not_plain_at mode (b ∷ rest) ≡ None →
    not_plain_on server mode (b ∷ rest) ≡ None
plain_alike server mode b rest p n =
    let p1 = or_parts (b == slash && begins (λ c. c == asterisk) rest) _ p in
    let p2 = or_parts (b == dash && may_open_line rest) (begins_own b rest) p1.1 in
    cond_none (is_string_quote b) _ _ _ _ (some_none _ _)
    (cond_none (b == backquote) _ _ _ _ (some_none _ _)
    (cond_none (b == hash) _ _ _ _ (some_none _ _)
    (cond_none_if (b == dash) _ _ _ _ (λ h. dash_on server rest (second_false _ _ p2.0 h) (n (eqb-true b dash h)))
    (cond_none_if (b == slash) _ _ _ _ (λ h e. slash_on server rest (second_false _ _ p1.0 h))
    (cond_none (b == colon) _ _ _ _ (λ e. e)
    (cond_none (b == question_mark) _ _ _ _ (some_none _ _) (λ e. own_none server b rest p2.1)))))))

-- every server ends this token before this text where the grammar does, whatever it makes of special
-- texts
abbrev pub is_alike_on_all : Token → List ℕ → Bool
is_alike_on_all (QuotedString quote tail) rest = not (quote == double_quote && stands_inside quote tail)
is_alike_on_all (QuotedIdentifier tail) rest = not (escapes_backquote tail)
is_alike_on_all (HashComment tail) rest = not (holds_return tail)
is_alike_on_all (DashComment gap tail) rest = gap == space && not (holds_return tail)
is_alike_on_all (BlockComment tail) rest = not (begins_special tail)
is_alike_on_all (Plain b) rest = not (differs_at b rest)
is_alike_on_all t rest = true

-- such a token is a token on the server
pub token_on : (server : Server) (mode : Bool) (t : Token) (rest : List ℕ) → IsToken mode t rest →
    is_alike_on_all t rest ≡ true → (t ≡ Plain dash → NoEmptyComment server rest) →
    IsTokenOn server mode t rest
token_on server mode (QuotedString quote tail) rest h p n = usual_quotes h.0 (string_on server mode quote tail rest h.1 p)
token_on server mode (QuotedIdentifier tail) rest h p n = usual_end (rw (escapes_alike tail rest h ∙ not-true _ p) refl) h
token_on server mode (HashComment tail) rest h p n = line_usual server tail rest h (not-true _ p)
token_on server mode (DashComment gap tail) rest h p n =
    let parts = and_parts (gap == space) (not (holds_return tail)) p in
    (rw parts.0 refl, open_tail h.1 (line_usual server tail rest h.2 (not-true _ parts.1)))
token_on server mode (BlockComment tail) rest h p n = usual_block (rw (special_in_front tail rest h.1 (not-true _ p)) refl) h.1
token_on server mode (Name name) rest h p n = h
token_on server mode Mark rest h p n = tt
token_on server mode (Plain b) rest h p n = plain_on server mode b rest (plain_alike server mode b rest (not-true _ p) (λ e. n (ap Plain e)) (plain_none mode b rest h))

-- ---- the tokens of a query

-- a text that begins with a byte that is plain there
pub head_is : (mode : Bool) (ts : List Token) (b : ℕ) (more : List ℕ) → AreTokensBefore mode [] ts →
    text_of ts ≡ b ∷ more → not_plain_at mode (b ∷ more) ≡ None →
    (us : List Token) × (ts ≡ Plain b ∷ us) × (text_of us ≡ more)
head_is mode [] b more h e p = cc
head_is mode (t ∷ ts) b more h e p =
    let same : t ≡ Plain b = one_token mode t (Plain b) (text_of ts) more h.0 (plain_at mode b more p) e in
    let texts : b ∷ text_of ts ≡ b ∷ more = sym (ap (λ x. bytes_of x ++ text_of ts) same) ∙ e in
    let rest : text_of ts ≡ more = cc in
    (ts, ap (λ x. x ∷ ts) same, rest)

newline_plain : (mode : Bool) (more : List ℕ) → not_plain_at mode (newline ∷ more) ≡ None
newline_plain mode more = refl

dash_plain : (mode : Bool) (more : List ℕ) → not_plain_at mode (dash ∷ newline ∷ more) ≡ None
dash_plain mode [] = refl
dash_plain mode (b ∷ more) = refl

pub dash_line : (mode : Bool) (ts : List Token) (more : List ℕ) → AreTokensBefore mode [] ts →
    dash ∷ newline ∷ more ≡ text_of ts → (us : List Token) × (ts ≡ Plain dash ∷ Plain newline ∷ us)
dash_line mode ts more h e =
    let a = head_is mode ts dash (newline ∷ more) h (sym e) (dash_plain mode more) in
    let ha : AreTokensBefore mode [] (Plain dash ∷ a.0) = subst (AreTokensBefore mode []) a.1 h in
    let b = head_is mode a.0 newline more ha.1 a.2 (newline_plain mode more) in
    (b.0, a.1 ∙ ap (λ x. Plain dash ∷ x) b.1)

-- whether there is an empty comment here
pub data HasEmptyComment (t : Token) (rest : List ℕ) : Type 0 where
  empty_here : (more : List ℕ) → t ≡ Plain dash → dash ∷ newline ∷ more ≡ rest → HasEmptyComment t rest
  none_here : ((more : List ℕ) → t ≡ Plain dash → dash ∷ newline ∷ more ≢ rest) → HasEmptyComment t rest

line_here : (t : Token) (rest : List ℕ) → t ≡ Plain dash → HasEmptyComment t rest
line_here t [] h = none_here (λ more d e. cc)
line_here t (b ∷ []) h = none_here (λ more d e. cc)
line_here t (b ∷ c ∷ bs) h =
    elim (cases_Bool (b == dash)) [
      | inl f ↦ elim (cases_Bool (c == newline)) [
        | inl g ↦ empty_here bs h (ap (λ x. x ∷ newline ∷ bs) (sym (eqb-true b dash f)) ∙ ap (λ x. b ∷ x ∷ bs) (sym (eqb-true c newline g)))
        | inr g ↦ none_here (λ more d e. eqb-false c newline g (second more e))
      ]
      | inr f ↦ none_here (λ more d e. eqb-false b dash f (first more e))
    ]
  where
    first : (more : List ℕ) → dash ∷ newline ∷ more ≡ b ∷ c ∷ bs → b ≡ dash
    first more e = cc

    second : (more : List ℕ) → dash ∷ newline ∷ more ≡ b ∷ c ∷ bs → c ≡ newline
    second more e = cc

pub has_empty : (t : Token) (rest : List ℕ) → HasEmptyComment t rest
has_empty (Plain b) rest =
    elim (cases_Bool (b == dash)) [
      | inl e ↦ line_here (Plain b) rest (ap Plain (eqb-true b dash e))
      | inr e ↦ none_here (λ more d f. eqb-false b dash e (is_dash b d))
    ]
  where
    is_dash : (b : ℕ) → Plain b ≡ Plain dash → b ≡ dash
    is_dash b e = cc
has_empty (QuotedString quote tail) rest = none_here (λ more d f. cc)
has_empty (QuotedIdentifier tail) rest = none_here (λ more d f. cc)
has_empty (HashComment tail) rest = none_here (λ more d f. cc)
has_empty (DashComment gap tail) rest = none_here (λ more d f. cc)
has_empty (BlockComment tail) rest = none_here (λ more d f. cc)
has_empty (Name name) rest = none_here (λ more d f. cc)
has_empty Mark rest = none_here (λ more d f. cc)
