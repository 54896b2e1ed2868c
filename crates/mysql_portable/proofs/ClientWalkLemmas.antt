-- The walk over a query to the first construct that is found for a client.
use Rattle.std.specs.Prelude.{Bool, ⊤}
use Rattle.std.proofs.Common.{◌≡◌, ◌⊎◌, ◌↔◌, ℕ, ◌+◌, true, false, cond, ◌==◌, ◌&&◌, ◌||◌, List, [], ◌∷◌, ◌++◌, length, take, drop, Option, Some, None, refl, sym, ap, ◌∙◌, subst, inl, inr, arith, length-append}
use Rattle.std.proofs.Math.Bool.{or-false}
use Rattle.std.proofs.lemmas.Bool.{and_parts, not-true, eqb-true, false_from_ne_true}
use Rattle.std.proofs.lemmas.List.{nil_from_length, take_rest, take_at, drop_at}
use Rattle.std.specs.List.{list_any}
use Rattle.std.specs.Str.{byte}
use Rattle.mysql_named_params.specs.Bytes.{hash, single_quote, double_quote, is_string_quote}
use Rattle.mysql_named_params.specs.Tokens.{Token, bytes_of, text_of, text_then, IsToken, OnTokens, QuotedString, QuotedIdentifier, HashComment, DashComment, BlockComment, Name, Mark, Plain}
use Rattle.mysql_named_params.specs.TokensOf.{not_plain_at}
use Rattle.mysql_named_params.specs.FirstToken.{IsFirstToken}
use Rattle.mysql_named_params.specs.declared.tokens.TokenKind.{TokenKind}
use Rattle.mysql_named_params.proofs.CutLemmas.{BeginsWithTokens, cut_none, cut_more, all_tokens, tokens_then}
use Rattle.mysql_named_params.proofs.PlainLemmas.{plain_none}
use Rattle.mysql_named_params.proofs.TokenEndLemmas.{slice_from}
use Rattle.mysql_named_params.proofs.TokenRowLemmas.{text_then-append, text_then-text_of}
use Rattle.mysql_named_params.proofs.TokensExistLemmas.{tokens_exist}
use Rattle.mysql_portable.specs.Portable.{AreReadAlikeBefore, JoinNoNumberBefore}
use Rattle.mysql_portable.specs.Client.{holds_opener, HoldNoOpener}
use Rattle.mysql_portable.specs.FirstUnportable.{construct_at}
use Rattle.mysql_portable.specs.FoundInClient.{begins_no_word, begins_statement, begins_line, is_client_word, found_in_comment, found_in_token, found_in_client}
use Rattle.mysql_portable.specs.FirstUnportableInClient.{found_or, found_at, first_in_client_from, first_unportable_in_client, AreSentAsTheyAreFrom, IsPortableInClient}
use Rattle.mysql_portable.specs.FrontInClient.{statement_after, line_after, found_in_bytes, first_of, found_or_zero, found_in_front}
use Rattle.mysql_portable.specs.declared.portable.Construct.{Construct}
use Rattle.mysql_portable.specs.declared.portable.Construct.TheVariants as construct
use Rattle.mysql_portable.specs.declared.portable.Unportable.{Unportable}
use Rattle.mysql_portable.proofs.FrontLemmas.{passes, unportable_at, front_is, quote_is}

-- ---- a construct that is found at the front is found in its token

-- a fact about both quotes is a fact about a quote
pub of_quotes : (P : ℕ → Type 0) (q : ℕ) → is_string_quote q ≡ true → P single_quote → P double_quote → P q
of_quotes P q h s d = go (quote_is q h)
  where
    go : (q ≡ single_quote) ⊎ (q ≡ double_quote) → P q
    go (inl e) = subst P (sym e) s
    go (inr e) = subst P (sym e) d

no_hash : (mode : Bool) (b : ℕ) (rest : List ℕ) → not_plain_at mode (b ∷ rest) ≡ None → (b == hash) ≡ false
no_hash mode b rest n = false_from_ne_true (b == hash) (λ e. at_hash b (eqb-true b hash e) n)
  where
    at_hash : (x : ℕ) → x ≡ hash → not_plain_at mode (x ∷ rest) ≡ None → ⊥
    at_hash x f = subst (λ y. not_plain_at mode (y ∷ rest) ≡ None → ⊥) (sym f) some
      where
        some : not_plain_at mode (hash ∷ rest) ≡ None → ⊥
        some m = cc

-- no word is found at a byte that is no letter
nothing : (s l : Bool) → ◌≡◌ {A = Option Construct} (cond (l && false) (Some construct.Delimiter) (cond (s && false) (Some construct.ClientWord) None)) None
nothing false false = refl
nothing false true = refl
nothing true false = refl
nothing true true = refl

pub bytes_are : (s l : Bool) (mode : Bool) (t : Token) (rest : List ℕ) → IsToken mode t rest →
    found_in_bytes s l (bytes_of t) rest ≡ found_in_token s l t rest
unfolding is_client_word
bytes_are s l mode (QuotedString q []) rest h =
    of_quotes (λ x. found_in_bytes s l (x ∷ []) rest ≡ None) q h.0 (nothing s l) (nothing s l)
bytes_are s l mode (QuotedString q (b ∷ bs)) rest h =
    of_quotes (λ x. found_in_bytes s l (x ∷ b ∷ bs) rest ≡ found_in_token s l (QuotedString x (b ∷ bs)) rest) q h.0 refl refl
bytes_are s l mode (QuotedIdentifier []) rest h = nothing s l
bytes_are s l mode (QuotedIdentifier (b ∷ bs)) rest h = refl
bytes_are s l mode (HashComment []) rest h = nothing s l
bytes_are s l mode (HashComment (b ∷ bs)) rest h = refl
bytes_are s l mode (DashComment gap tail) rest h = refl
bytes_are s l mode (BlockComment tail) rest h = refl
bytes_are s l mode (Name []) rest h = absurd h.0
bytes_are s l mode (Name (b ∷ bs)) rest h = refl
bytes_are s l mode Mark rest h = refl
bytes_are s l mode (Plain b) rest h = refl

pub statement_is : (before mode : Bool) (t : Token) (rest : List ℕ) → IsToken mode t rest →
    statement_after before (bytes_of t) ≡ begins_statement before t
statement_is before mode (QuotedString q []) rest h = of_quotes (λ x. statement_after before (x ∷ []) ≡ false) q h.0 refl refl
statement_is before mode (QuotedString q (b ∷ bs)) rest h = of_quotes (λ x. statement_after before (x ∷ b ∷ bs) ≡ false) q h.0 refl refl
statement_is before mode (QuotedIdentifier []) rest h = refl
statement_is before mode (QuotedIdentifier (b ∷ bs)) rest h = refl
statement_is before mode (HashComment []) rest h = refl
statement_is before mode (HashComment (b ∷ bs)) rest h = refl
statement_is before mode (DashComment gap tail) rest h = refl
statement_is before mode (BlockComment tail) rest h = refl
statement_is before mode (Name []) rest h = absurd h.0
statement_is before mode (Name (b ∷ bs)) rest h = refl
statement_is before mode Mark rest h = refl
statement_is before mode (Plain b) rest h =
    rw (no_hash mode b rest (plain_none mode b rest h)) (ap (λ x. b == byte ";" || (x && before)) (or-false (begins_no_word b)))

pub line_is : (before mode : Bool) (t : Token) (rest : List ℕ) → IsToken mode t rest →
    line_after before (bytes_of t) ≡ begins_line before t
line_is before mode (QuotedString q []) rest h = of_quotes (λ x. line_after before (x ∷ []) ≡ false) q h.0 refl refl
line_is before mode (QuotedString q (b ∷ bs)) rest h = of_quotes (λ x. line_after before (x ∷ b ∷ bs) ≡ false) q h.0 refl refl
line_is before mode (QuotedIdentifier []) rest h = refl
line_is before mode (QuotedIdentifier (b ∷ bs)) rest h = refl
line_is before mode (HashComment []) rest h = refl
line_is before mode (HashComment (b ∷ bs)) rest h = refl
line_is before mode (DashComment gap tail) rest h = refl
line_is before mode (BlockComment tail) rest h = refl
line_is before mode (Name []) rest h = absurd h.0
line_is before mode (Name (b ∷ bs)) rest h = refl
line_is before mode Mark rest h = refl
line_is before mode (Plain b) rest h = rw (no_hash mode b rest (plain_none mode b rest h)) refl

front_found : (s l mode : Bool) (t : Token) (rest : List ℕ) → IsToken mode t rest →
    found_in_front s l (bytes_of t ++ rest) (length (bytes_of t)) ≡ found_at s l t rest
front_found s l mode t rest h =
    let e1 : take (length (bytes_of t)) (bytes_of t ++ rest) ≡ bytes_of t = take_at (bytes_of t) rest _ refl in
    let e2 : drop (length (bytes_of t)) (bytes_of t ++ rest) ≡ rest = drop_at (bytes_of t) rest _ refl in
    let inner : found_or_zero s l (bytes_of t) rest ≡ found_in_client s l t rest = ap (cond (list_any (λ b. b == 0) (bytes_of t)) (Some construct.ZeroByte)) (bytes_are s l mode t rest h) in
    ap (λ x. first_of x (found_or_zero s l (take (length (bytes_of t)) (bytes_of t ++ rest)) (drop (length (bytes_of t)) (bytes_of t ++ rest)))) (front_is mode t rest h)
    ∙ (ap (λ x. first_of (unportable_at t rest) (found_or_zero s l x (drop (length (bytes_of t)) (bytes_of t ++ rest)))) e1
    ∙ (ap (λ x. first_of (unportable_at t rest) (found_or_zero s l (bytes_of t) x)) e2
    ∙ (ap (first_of (unportable_at t rest)) inner ∙ go (passes t rest))))
  where
    go : (p : Bool) → first_of (cond p None (Some (construct_at t rest))) (found_in_client s l t rest) ≡ cond p (found_in_client s l t rest) (Some (construct_at t rest))
    go true = refl
    go false = refl

-- ---- the walk

-- whether a statement begins after these tokens
abbrev pub statement_of : Bool → List Token → Bool
statement_of s [] = s
statement_of s (t ∷ ts) = statement_of (begins_statement s t) ts

-- whether a line or a statement may begin after these tokens
abbrev pub line_of : Bool → List Token → Bool
line_of l [] = l
line_of l (t ∷ ts) = line_of (begins_line l t) ts

-- nothing is found in the tokens before a rest
abbrev pub AllClear : Bool → Bool → List ℕ → List Token → Type 0
AllClear s l rest [] = ⊤
AllClear s l rest (t ∷ ts) =
    (found_at s l t (text_then rest ts) ≡ None) × AllClear (begins_statement s t) (begins_line l t) rest ts

-- nothing is found before the rest
pub record WalkedInClient (mode : Bool) (query rest : List ℕ) (s l : Bool) : Type 0 where
  pub tokens : List Token
  pub cut : BeginsWithTokens mode query rest tokens
  pub clear : AllClear true true rest tokens
  pub statement : statement_of true tokens ≡ s
  pub line : line_of true tokens ≡ l

pub walked_none : (mode : Bool) (query : List ℕ) → WalkedInClient mode query query true true
walked_none mode query = record { tokens = []; cut = cut_none mode query; clear = tt; statement = refl; line = refl }

pub statement_of-push : (ts : List Token) (t : Token) (s : Bool) → statement_of s (ts ++ t ∷ []) ≡ begins_statement (statement_of s ts) t
statement_of-push [] t s = refl
statement_of-push (u ∷ ts) t s = statement_of-push ts t (begins_statement s u)

pub line_of-push : (ts : List Token) (t : Token) (l : Bool) → line_of l (ts ++ t ∷ []) ≡ begins_line (line_of l ts) t
line_of-push [] t l = refl
line_of-push (u ∷ ts) t l = line_of-push ts t (begins_line l u)

pub AllClear-push : (ts : List Token) (t : Token) (rest : List ℕ) (s l : Bool) → AllClear s l (bytes_of t ++ rest) ts →
    found_at (statement_of s ts) (line_of l ts) t rest ≡ None → AllClear s l rest (ts ++ t ∷ [])
AllClear-push [] t rest s l h p = (p, tt)
AllClear-push (u ∷ ts) t rest s l h p =
    (subst (λ x. found_at s l u x ≡ None) (sym (text_then-append ts (t ∷ []) rest)) h.0, AllClear-push ts t rest (begins_statement s u) (begins_line l u) h.1 p)

front_of : (s l mode : Bool) (rest : List ℕ) (kind : TokenKind) (n : ℕ) → (f : IsFirstToken mode rest kind n) →
    found_in_front s l rest n ≡ found_at s l f.token (drop n rest)
front_of s l mode rest kind n f =
    subst (λ x. found_in_front s l x n ≡ found_at s l f.token (drop n rest)) f.bytes
    (subst (λ k. found_in_front s l (bytes_of f.token ++ drop n rest) k ≡ found_at s l f.token (drop n rest)) f.len_is
    (front_found s l mode f.token (drop n rest) f.holds))

-- the bytes of the first token
pub first_bytes : (mode : Bool) (rest : List ℕ) (kind : TokenKind) (n : ℕ) → (f : IsFirstToken mode rest kind n) → take n rest ≡ bytes_of f.token
first_bytes mode rest kind n f = subst (λ x. take n x ≡ bytes_of f.token) f.bytes (take_at (bytes_of f.token) (drop n rest) n f.len_is)

pub walked_more : (mode : Bool) (query rest : List ℕ) (kind : TokenKind) (n : ℕ) (s l s' l' : Bool) →
    WalkedInClient mode query rest s l → IsFirstToken mode rest kind n → found_in_front s l rest n ≡ None →
    statement_after s (take n rest) ≡ s' → line_after l (take n rest) ≡ l' →
    WalkedInClient mode query (slice_from n rest) s' l'
walked_more mode query rest kind n s l s' l' w f d es el =
    let here : found_at s l f.token (drop n rest) ≡ None = sym (front_of s l mode rest kind n f) ∙ d in
    let there : found_at (statement_of true w.tokens) (line_of true w.tokens) f.token (drop n rest) ≡ None =
    subst (λ x. found_at x (line_of true w.tokens) f.token (drop n rest) ≡ None) (sym w.statement) (subst (λ x. found_at s x f.token (drop n rest) ≡ None) (sym w.line) here) in
    let bytes : take n rest ≡ bytes_of f.token = first_bytes mode rest kind n f in
    rw take_rest (record {
      tokens = w.tokens ++ f.token ∷ [];
      cut = cut_more mode query rest w.tokens kind n w.cut f;
      clear = AllClear-push w.tokens f.token (drop n rest) true true (subst (λ x. AllClear true true x w.tokens) (sym f.bytes) w.clear) there;
      statement = statement_of-push w.tokens f.token true ∙ (ap (λ x. begins_statement x f.token) w.statement ∙ (sym (statement_is s mode f.token (drop n rest) f.holds) ∙ (ap (statement_after s) (sym bytes) ∙ es)));
      line = line_of-push w.tokens f.token true ∙ (ap (λ x. begins_line x f.token) w.line ∙ (sym (line_is l mode f.token (drop n rest) f.holds) ∙ (ap (line_after l) (sym bytes) ∙ el)));
    })

pub none_from : (ts : List Token) (n : ℕ) (s l : Bool) → AllClear s l [] ts → first_in_client_from n s l ts ≡ None
none_from [] n s l h = refl
none_from (t ∷ ts) n s l h = rw h.0 (none_from ts (n + length (bytes_of t)) (begins_statement s t) (begins_line l t) h.1)

pub walked_whole : (mode : Bool) (query rest : List ℕ) (s l : Bool) → length rest ≡ 0 → WalkedInClient mode query rest s l →
    OnTokens mode query (λ ts. None ≡ first_unportable_in_client ts)
walked_whole mode query rest s l e w =
    (w.tokens, all_tokens mode query rest w.tokens e w.cut, sym (none_from w.tokens 0 true true (subst (λ x. AllClear true true x w.tokens) (nil_from_length rest e) w.clear)))

pub found_from : (front back : List Token) (t : Token) (n k : ℕ) (s l : Bool) (c : Construct) →
    AllClear s l (text_of (t ∷ back)) front → found_at (statement_of s front) (line_of l front) t (text_of back) ≡ Some c →
    n + length (text_of front) ≡ k →
    ◌≡◌ {A = Option Unportable} (first_in_client_from n s l (front ++ t ∷ back)) (Some (record { construct = c; at = k }))
found_from [] back t n k s l c h p e =
    let place : n ≡ k = omega arith in
    rw (p, place) refl
found_from (u ∷ front) back t n k s l c h p e =
    let here : found_at s l u (text_of (front ++ t ∷ back)) ≡ None = subst (λ x. found_at s l u x ≡ None) (sym (text_then-append front (t ∷ back) [])) h.0 in
    rw here (found_from front back t (n + length (bytes_of u)) k (begins_statement s u) (begins_line l u) c h.1 p (omega (arith, length-append (bytes_of u) (text_of front))))

pub walked_found : (mode : Bool) (query rest : List ℕ) (kind : TokenKind) (n position : ℕ) (s l : Bool) (c : Construct) →
    WalkedInClient mode query rest s l → IsFirstToken mode rest kind n → found_in_front s l rest n ≡ Some c →
    position + length rest ≡ length query →
    OnTokens mode query (λ ts. ◌≡◌ {A = Option Unportable} (Some (record { construct = c; at = position })) (first_unportable_in_client ts))
walked_found mode query rest kind n position s l c w f d e =
    let back = tokens_exist mode (drop n rest) in
    let after : text_of (f.token ∷ back.0) ≡ rest = ap (λ x. bytes_of f.token ++ x) back.1.text ∙ f.bytes in
    let some : found_at s l f.token (text_of back.0) ≡ Some c = ap (found_at s l f.token) back.1.text ∙ (sym (front_of s l mode rest kind n f) ∙ d) in
    let here : found_at (statement_of true w.tokens) (line_of true w.tokens) f.token (text_of back.0) ≡ Some c =
    subst (λ x. found_at x (line_of true w.tokens) f.token (text_of back.0) ≡ Some c) (sym w.statement) (subst (λ x. found_at s x f.token (text_of back.0) ≡ Some c) (sym w.line) some) in
    let front_text : text_of w.tokens ++ rest ≡ query = sym (text_then-text_of w.tokens rest) ∙ w.cut.text in
    let place : 0 + length (text_of w.tokens) ≡ position = omega (arith, ap length front_text, length-append (text_of w.tokens) rest) in (
      w.tokens ++ f.token ∷ back.0,
      tokens_then mode query rest w.tokens (f.token ∷ back.0) w.cut (record { text = after; each = (subst (IsToken mode f.token) (sym back.1.text) f.holds, back.1.each) }),
      sym (found_from w.tokens back.0 f.token 0 position true true c (subst (λ x. AllClear true true x w.tokens) (sym after) w.clear) here place),
    )

-- ---- none is found exactly if nothing is to be found

found_or-none : (o : Option Construct) (n : ℕ) (later : Option Unportable) → found_or o n later ≡ None →
    (o ≡ None) × (later ≡ None)
found_or-none None n later e = (refl, e)
found_or-none (Some c) n later e = cc

found_at-none : (s l : Bool) (t : Token) (rest : List ℕ) → found_at s l t rest ≡ None →
    (passes t rest ≡ true) × (found_in_client s l t rest ≡ None)
found_at-none s l t rest = go (passes t rest)
  where
    go : (p : Bool) → cond p (found_in_client s l t rest) (Some (construct_at t rest)) ≡ None →
        (p ≡ true) × (found_in_client s l t rest ≡ None)
    go true e = (refl, e)
    go false e = cc

zero-none : (z : Bool) (o : Option Construct) → cond z (Some construct.ZeroByte) o ≡ None → o ≡ None
zero-none true o e = cc
zero-none false o e = e

opener-none : (tail rest : List ℕ) → found_in_comment tail rest ≡ None → holds_opener tail ≡ false
opener-none tail rest = go (holds_opener tail) _
  where
    go : (h : Bool) (o : Option Construct) → cond h (Some construct.OpenerInComment) o ≡ None → h ≡ false
    go true o e = cc
    go false o e = refl

no_opener_in : (t : Token) (rest : List ℕ) (ts : List Token) (s l : Bool) → found_in_client s l t rest ≡ None → HoldNoOpener ts → HoldNoOpener (t ∷ ts)
no_opener_in (BlockComment tail) rest ts s l e h = (opener-none tail rest (zero-none (list_any (λ b. b == 0) (bytes_of (BlockComment tail))) _ e), h)
no_opener_in (QuotedString quote tail) rest ts s l e h = h
no_opener_in (QuotedIdentifier tail) rest ts s l e h = h
no_opener_in (HashComment tail) rest ts s l e h = h
no_opener_in (DashComment gap tail) rest ts s l e h = h
no_opener_in (Name name) rest ts s l e h = h
no_opener_in Mark rest ts s l e h = h
no_opener_in (Plain b) rest ts s l e h = h

-- the facts about tokens in which nothing is found
pub record ClearParts (s l : Bool) (ts : List Token) : Type 0 where
  pub alike : AreReadAlikeBefore [] ts
  pub apart : JoinNoNumberBefore [] ts
  pub no_opener : HoldNoOpener ts
  pub sent : AreSentAsTheyAreFrom s l ts

clear_parts : (ts : List Token) (n : ℕ) (s l : Bool) → first_in_client_from n s l ts ≡ None → ClearParts s l ts
clear_parts [] n s l e = record { alike = tt; apart = tt; no_opener = tt; sent = tt }
clear_parts (t ∷ ts) n s l e =
    let p = found_or-none (found_at s l t (text_of ts)) n _ e in
    let q = found_at-none s l t (text_of ts) p.0 in
    let r = and_parts _ _ q.0 in
    let more = clear_parts ts (n + length (bytes_of t)) (begins_statement s t) (begins_line l t) p.1 in
    record {
      alike = (r.0, more.alike);
      apart = (not-true _ r.1, more.apart);
      no_opener = no_opener_in t (text_of ts) ts s l q.1 more.no_opener;
      sent = (q.1, more.sent);
    }

clear_from : (ts : List Token) (s l : Bool) → AreReadAlikeBefore [] ts → JoinNoNumberBefore [] ts → AreSentAsTheyAreFrom s l ts → AllClear s l [] ts
clear_from [] s l a j h = tt
clear_from (t ∷ ts) s l a j h = (rw (a.0, j.0) h.0, clear_from ts (begins_statement s t) (begins_line l t) a.1 j.1 h.1)

pub none_is_portable : (ts : List Token) → first_unportable_in_client ts ≡ None → IsPortableInClient ts
none_is_portable ts e =
    let p = clear_parts ts 0 true true e in
    record { portable = record { alike = p.alike; apart = p.apart }; no_opener = p.no_opener; sent = p.sent }

pub portable_has_none : (ts : List Token) → IsPortableInClient ts → first_unportable_in_client ts ≡ None
portable_has_none ts p = none_from ts 0 true true (clear_from ts true true p.portable.alike p.portable.apart p.sent)

pub none_in_client : (mode : Bool) (query : List ℕ) (found : Option Unportable) →
    OnTokens mode query (λ ts. found ≡ first_unportable_in_client ts) →
    OnTokens mode query (λ ts. (found ≡ None) ↔ IsPortableInClient ts)
none_in_client mode query found o =
    (o.0, o.1, (λ e. none_is_portable o.0 (sym o.2 ∙ e), λ p. o.2 ∙ portable_has_none o.0 p))
