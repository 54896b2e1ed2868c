-- The first backslash in a string of a query: it is the same in both modes, there is none exactly if no
-- string holds one, and a walk over the tokens finds it.
use Rattle.std.specs.Prelude.{Bool, cond, not}
use Rattle.std.proofs.Common.{◌≡◌, ◌==◌, ◌+◌, ℕ, true, false, List, [], ◌∷◌, ◌++◌, length, take, drop, get_or, Option, Some, None, refl, sym, ap, ◌∙◌, subst, arith, length-append}
use Rattle.std.specs.List.{list_all, position, position_from}
use Rattle.std.specs.Option.{option_or}
use Rattle.std.proofs.lemmas.Bool.{and_parts, and_from}
use Rattle.std.proofs.lemmas.Iterator.Adapters.{position_from-zero}
use Rattle.std.proofs.lemmas.List.{append_cancel_left, take_rest}
use Rattle.std.proofs.lemmas.List.Elements.{All-from_get_or}
use Rattle.std.proofs.lemmas.List.Sums.{list_all-from_AllPass}
use Rattle.memchr.specs.Find.{IsFirstByte, is_byte}
use Rattle.mysql_named_params.specs.Bytes.{begins, is_string_quote}
use Rattle.mysql_named_params.specs.FirstToken.{IsFirstToken}
use Rattle.mysql_named_params.specs.Tokens.{Token, bytes_of, text_of, IsToken, AreTokensBefore, OnTokens, QuotedString, QuotedIdentifier, HashComment, DashComment, BlockComment, Name, Mark, Plain}
use Rattle.mysql_named_params.specs.declared.tokens.TokenKind.{TokenKind}
use Rattle.mysql_named_params.proofs.CutLemmas.{BeginsWithTokens, cut_none, cut_more, all_tokens, tokens_then}
use Rattle.mysql_named_params.proofs.ClosingQuoteLemmas.{fails}
use Rattle.mysql_named_params.proofs.TokenEndLemmas.{slice_from}
use Rattle.mysql_named_params.proofs.TokenListLemmas.{one_token, some_byte}
use Rattle.mysql_named_params.proofs.TokenRowLemmas.{text_then-text_of}
use Rattle.mysql_named_params.proofs.TokensExistLemmas.{tokens_exist}
use Rattle.mysql_portable.specs.Steady.{is_no_backslash, is_steady, holds_no_escape, HoldNoEscapes, IsSteady}
use Rattle.mysql_portable.proofs.OtherModeLemmas.{all_parts, token_other}
use Rattle.mysql_portable.proofs.SteadyLemmas.{no_backslashes}
use Rattle.mysql_binding.proofs.CauseLemmas.{or_none}
use Rattle.mysql_steady_text.specs.FirstBackslash.{is_backslash, backslash_in, first_backslash_from, first_backslash}
use Rattle.mysql_binding.proofs.ValueLiteralLemmas.{none_step}
use Rattle.mysql_portable.proofs.ClientWalkLemmas.{first_bytes}

-- ---- the first place of a byte

-- counted from further on
some_from : (test : ℕ → Bool) (xs : List ℕ) (n k i : ℕ) → position_from test k xs ≡ Some i →
    position_from test (n + k) xs ≡ Some (n + i)
some_from test [] n k i e = cc
some_from test (x ∷ xs) n k i e = go (test x) (some_from test xs n (k + 1) i) e
  where
    go : (b : Bool) → (position_from test (k + 1) xs ≡ Some i → position_from test (n + (k + 1)) xs ≡ Some (n + i)) →
        cond b (Some k) (position_from test (k + 1) xs) ≡ Some i →
        cond b (Some (n + k)) (position_from test (n + k + 1) xs) ≡ Some (n + i)
    go true more e = let same : k ≡ i = cc in ap (λ j. Some (n + j)) same
    go false more e =
        let next : n + (k + 1) ≡ n + k + 1 = omega arith in
        subst (λ j. position_from test j xs ≡ Some (n + i)) next (more e)

none_from : (test : ℕ → Bool) (xs : List ℕ) (n k : ℕ) → position_from test k xs ≡ None →
    position_from test n xs ≡ None
none_from test [] n k e = refl
none_from test (x ∷ xs) n k e =
    let p = none_step (test x) k (position_from test (k + 1) xs) e in
    rw p.0 (none_from test xs (n + 1) (k + 1) p.1)

-- it is the first in a longer text too
found_in_front : (test : ℕ → Bool) (xs ys : List ℕ) (n i : ℕ) → position_from test n xs ≡ Some i →
    position_from test n (xs ++ ys) ≡ Some i
found_in_front test [] ys n i e = cc
found_in_front test (x ∷ xs) ys n i e = go (test x) (found_in_front test xs ys (n + 1) i) e
  where
    go : (b : Bool) → (position_from test (n + 1) xs ≡ Some i → position_from test (n + 1) (xs ++ ys) ≡ Some i) →
        cond b (Some n) (position_from test (n + 1) xs) ≡ Some i →
        cond b (Some n) (position_from test (n + 1) (xs ++ ys)) ≡ Some i
    go true more e = e
    go false more e = more e

all_pass : (xs : List ℕ) (n : ℕ) → position_from is_backslash n xs ≡ None → list_all is_no_backslash xs ≡ true
all_pass [] n e = refl
all_pass (x ∷ xs) n e =
    let p = none_step (is_backslash x) n (position_from is_backslash (n + 1) xs) e in
    and_from (is_no_backslash x) (list_all is_no_backslash xs) (ap not p.0) (all_pass xs (n + 1) p.1)

not_is : (b : Bool) → not b ≡ true → b ≡ false
not_is true e = sym e
not_is false e = refl

none_passes : (xs : List ℕ) (n : ℕ) → list_all is_no_backslash xs ≡ true → position_from is_backslash n xs ≡ None
none_passes [] n h = refl
none_passes (x ∷ xs) n h =
    let p = and_parts (is_no_backslash x) (list_all is_no_backslash xs) h in
    rw (not_is (is_backslash x) p.0) (none_passes xs (n + 1) p.1)

-- ---- one token

holds_none : (t : Token) (n : ℕ) → backslash_in n t ≡ None → holds_no_escape t ≡ true
holds_none (QuotedString quote tail) n e =
    all_pass tail (n + 1) (none_step (is_backslash quote) n (position_from is_backslash (n + 1) tail) e).1
holds_none (QuotedIdentifier tail) n e = refl
holds_none (HashComment tail) n e = refl
holds_none (DashComment gap tail) n e = refl
holds_none (BlockComment tail) n e = refl
holds_none (Name name) n e = refl
holds_none Mark n e = refl
holds_none (Plain b) n e = refl

lacks_one : (t : Token) (n : ℕ) → list_all is_no_backslash (bytes_of t) ≡ true → backslash_in n t ≡ None
lacks_one (QuotedString quote tail) n h = none_passes (quote ∷ tail) n h
lacks_one (QuotedIdentifier tail) n h = refl
lacks_one (HashComment tail) n h = refl
lacks_one (DashComment gap tail) n h = refl
lacks_one (BlockComment tail) n h = refl
lacks_one (Name name) n h = refl
lacks_one Mark n h = refl
lacks_one (Plain b) n h = refl

none_elsewhere : (t : Token) (n k : ℕ) → backslash_in k t ≡ None → backslash_in n t ≡ None
none_elsewhere (QuotedString quote tail) n k e = none_from is_backslash (quote ∷ tail) n k e
none_elsewhere (QuotedIdentifier tail) n k e = refl
none_elsewhere (HashComment tail) n k e = refl
none_elsewhere (DashComment gap tail) n k e = refl
none_elsewhere (BlockComment tail) n k e = refl
none_elsewhere (Name name) n k e = refl
none_elsewhere Mark n k e = refl
none_elsewhere (Plain b) n k e = refl

some_elsewhere : (t : Token) (n i : ℕ) → backslash_in 0 t ≡ Some i → backslash_in n t ≡ Some (n + i)
some_elsewhere (QuotedString quote tail) n i e =
    let same : n + 0 ≡ n = omega arith in
    subst (λ j. position_from is_backslash j (quote ∷ tail) ≡ Some (n + i)) same (some_from is_backslash (quote ∷ tail) n 0 i e)
some_elsewhere (QuotedIdentifier tail) n i e = cc
some_elsewhere (HashComment tail) n i e = cc
some_elsewhere (DashComment gap tail) n i e = cc
some_elsewhere (BlockComment tail) n i e = cc
some_elsewhere (Name name) n i e = cc
some_elsewhere Mark n i e = cc
some_elsewhere (Plain b) n i e = cc

-- it is the first of the token's bytes, and of a text that begins with them
found_in_text : (t : Token) (rest : List ℕ) (n i : ℕ) → backslash_in n t ≡ Some i →
    position_from is_backslash n (bytes_of t ++ rest) ≡ Some i
found_in_text (QuotedString quote tail) rest n i e = found_in_front is_backslash (quote ∷ tail) rest n i e
found_in_text (QuotedIdentifier tail) rest n i e = cc
found_in_text (HashComment tail) rest n i e = cc
found_in_text (DashComment gap tail) rest n i e = cc
found_in_text (BlockComment tail) rest n i e = cc
found_in_text (Name name) rest n i e = cc
found_in_text Mark rest n i e = cc
found_in_text (Plain b) rest n i e = cc

-- ---- in a row

pub hold_no_escapes : (ts : List Token) (n : ℕ) → first_backslash_from n ts ≡ None → HoldNoEscapes ts
hold_no_escapes [] n e = tt
hold_no_escapes (t ∷ ts) n e =
    let p = or_none (backslash_in n t) (first_backslash_from (n + length (bytes_of t)) ts) e in
    (holds_none t n p.0, hold_no_escapes ts (n + length (bytes_of t)) p.1)

lack_all : (ts : List Token) (n : ℕ) → list_all is_no_backslash (text_of ts) ≡ true → first_backslash_from n ts ≡ None
lack_all [] n h = refl
lack_all (t ∷ ts) n h =
    let p = all_parts is_no_backslash (bytes_of t) (text_of ts) h in
    rw (lacks_one t n p.0) (lack_all ts (n + length (bytes_of t)) p.1)

-- the tokens of both modes have the same first one
same_in_both : (mode other : Bool) (ts us : List Token) (n : ℕ) → AreTokensBefore mode [] ts →
    AreTokensBefore other [] us → text_of ts ≡ text_of us → first_backslash_from n ts ≡ first_backslash_from n us
same_in_both mode other [] [] n h k e = refl
same_in_both mode other [] (u ∷ us) n h k e = absurd (some_byte u (text_of us) (sym e))
same_in_both mode other (t ∷ ts) [] n h k e = absurd (some_byte t (text_of ts) e)
same_in_both mode other (t ∷ ts) (u ∷ us) n h k e =
    go (same_in_both mode other ts us (n + length (bytes_of t)) h.1 k.1) (backslash_in n t) refl (backslash_in n u) refl
  where
    go : (text_of ts ≡ text_of us → first_backslash_from (n + length (bytes_of t)) ts ≡ first_backslash_from (n + length (bytes_of t)) us) →
        (o : Option ℕ) → backslash_in n t ≡ o → (p : Option ℕ) → backslash_in n u ≡ p →
        option_or (backslash_in n t) (first_backslash_from (n + length (bytes_of t)) ts)
        ≡ option_or (backslash_in n u) (first_backslash_from (n + length (bytes_of u)) us)
    go more None is p at =
        let same : t ≡ u = one_token other t u (text_of ts) (text_of us) (token_other mode other t (text_of ts) (holds_none t n is) h.0) k.0 e in
        let rests : text_of ts ≡ text_of us = append_cancel_left (bytes_of t) (text_of ts) (text_of us) (e ∙ ap (λ x. bytes_of x ++ text_of us) (sym same)) in
        rw (is, ap (backslash_in n) (sym same) ∙ is) (
        more rests ∙ ap (λ x. first_backslash_from (n + length (bytes_of x)) us) same
        )
    go more (Some i) is None at =
        let same : u ≡ t = one_token mode u t (text_of us) (text_of ts) (token_other other mode u (text_of us) (holds_none u n at) k.0) h.0 (sym e) in
        let none : Some i ≡ None = sym is ∙ (ap (backslash_in n) (sym same) ∙ at) in
        cc
    go more (Some i) is (Some j) at =
        let found : Some i ≡ Some j = sym (found_in_text t (text_of ts) n i is) ∙ (ap (position_from is_backslash n) e ∙ found_in_text u (text_of us) n j at) in
        rw (is, at) found

in_either : (query : List ℕ) (found : Option ℕ) (mode other : Bool) →
    OnTokens mode query (λ ts. found ≡ first_backslash ts) → OnTokens other query (λ ts. found ≡ first_backslash ts)
in_either query found mode other o =
    let t = tokens_exist other query in
    (t.0, t.1, o.2 ∙ same_in_both mode other o.0 t.0 0 o.1.each t.1.each (o.1.text ∙ sym t.1.text))

no_hit : (query : List ℕ) → IsFirstByte (is_byte 92) query None → list_all is_no_backslash query ≡ true
no_hit query nowhere =
    list_all-from_AllPass is_no_backslash query (All-from_get_or (λ b. is_no_backslash b ≡ true) query 0 (λ k lt. ap not (fails (get_or query k 0 == 92) (nowhere k (omega arith) lt))))

pub steady_has_none : (query : List ℕ) → IsSteady query → (mode : Bool) →
    OnTokens mode query (λ ts. None ≡ first_backslash ts)
steady_has_none query steady mode =
    let t = tokens_exist mode query in
    (t.0, t.1, sym (lack_all t.0 0 (no_backslashes (text_of t.0) (subst (λ x. list_all is_steady x ≡ true) (sym t.1.text) steady))))

pub lacking : (query : List ℕ) → IsFirstByte (is_byte 92) query None → (mode : Bool) →
    OnTokens mode query (λ ts. None ≡ first_backslash ts)
lacking query nowhere mode =
    let h = no_hit query nowhere in
    let t = tokens_exist mode query in
    (t.0, t.1, sym (lack_all t.0 0 (subst (λ x. list_all is_no_backslash x ≡ true) (sym t.1.text) h)))

-- ---- the walk

-- no string of the tokens before the rest holds a backslash
pub record PassedSoFar (mode : Bool) (query rest : List ℕ) : Type 0 where
  pub tokens : List Token
  pub cut : BeginsWithTokens mode query rest tokens
  pub none : first_backslash_from 0 tokens ≡ None

pub passed_none : (mode : Bool) (query : List ℕ) → PassedSoFar mode query query
passed_none mode query = record { tokens = []; cut = cut_none mode query; none = refl }

-- the position that is found after tokens without a backslash
after_none : (ts us : List Token) (n : ℕ) → first_backslash_from n ts ≡ None →
    first_backslash_from n (ts ++ us) ≡ first_backslash_from (n + length (text_of ts)) us
after_none [] us n e = let same : n ≡ n + 0 = omega arith in ap (λ i. first_backslash_from i us) same
after_none (t ∷ ts) us n e =
    let p = or_none (backslash_in n t) (first_backslash_from (n + length (bytes_of t)) ts) e in
    let same : n + length (bytes_of t) + length (text_of ts) ≡ n + length (bytes_of t ++ text_of ts) = omega (arith, length-append (bytes_of t) (text_of ts)) in
    rw p.0 (after_none ts us (n + length (bytes_of t)) p.1 ∙ ap (λ i. first_backslash_from i us) same)

-- the answer for the bytes of a token
string_quote_is : (b : ℕ) → is_string_quote b ≡ true → is_backslash b ≡ false
string_quote_is b h = grind (arith, h)

told : (t : Token) (rest : List ℕ) (mode : Bool) → IsToken mode t rest → (found : Option ℕ) →
    (begins is_string_quote (bytes_of t) ≡ true → found ≡ position is_backslash (bytes_of t)) →
    (begins is_string_quote (bytes_of t) ≡ false → found ≡ None) → found ≡ backslash_in 0 t
told (QuotedString quote tail) rest mode h found s o = s h.0 ∙ position_from-zero is_backslash (quote ∷ tail)
told (QuotedIdentifier tail) rest mode h found s o = o refl
told (HashComment tail) rest mode h found s o = o refl
told (DashComment gap tail) rest mode h found s o = o refl
told (BlockComment tail) rest mode h found s o = o refl
told (Name name) rest mode h found s o = o refl
told Mark rest mode h found s o = o refl
told (Plain b) rest mode h found s o = go (is_string_quote b) refl
  where
    go : (q : Bool) → is_string_quote b ≡ q → found ≡ None
    go true q = s q ∙ (position_from-zero is_backslash (b ∷ []) ∙ rw (string_quote_is b q) refl)
    go false q = o q

-- the position that the code finds in the bytes of the first token
abbrev pub IsTold : List ℕ → Option ℕ → Type 0
IsTold bytes found =
    (begins is_string_quote bytes ≡ true → found ≡ position is_backslash bytes)
    × (begins is_string_quote bytes ≡ false → found ≡ None)

told_first : (mode : Bool) (rest : List ℕ) (kind : TokenKind) (len : ℕ) (found : Option ℕ) →
    (f : IsFirstToken mode rest kind len) → IsTold (take len rest) found → found ≡ backslash_in 0 f.token
told_first mode rest kind len found f h =
    let i = subst (λ x. IsTold x found) (first_bytes mode rest kind len f) h in
    told f.token (drop len rest) mode f.holds found i.0 i.1

pub passed_more : (mode : Bool) (query rest : List ℕ) (kind : TokenKind) (len : ℕ) → PassedSoFar mode query rest →
    IsFirstToken mode rest kind len → IsTold (take len rest) None → PassedSoFar mode query (slice_from len rest)
passed_more mode query rest kind len w f h =
    let n = 0 + length (text_of w.tokens) in
    let here : backslash_in n f.token ≡ None = none_elsewhere f.token n 0 (sym (told_first mode rest kind len None f h)) in
    rw take_rest (record {
      tokens = w.tokens ++ f.token ∷ [];
      cut = cut_more mode query rest w.tokens kind len w.cut f;
      none = after_none w.tokens (f.token ∷ []) 0 w.none ∙ rw here refl;
    })

pub passed_whole : (mode : Bool) (query rest : List ℕ) → length rest ≡ 0 → PassedSoFar mode query rest →
    (other : Bool) → OnTokens other query (λ ts. None ≡ first_backslash ts)
passed_whole mode query rest e w other =
    in_either query None mode other (w.tokens, all_tokens mode query rest w.tokens e w.cut, sym w.none)

pub passed_found : (mode : Bool) (query rest : List ℕ) (kind : TokenKind) (len within at : ℕ) →
    PassedSoFar mode query rest → IsFirstToken mode rest kind len → IsTold (take len rest) (Some within) →
    at + length rest ≡ length query + within →
    (other : Bool) → OnTokens other query (λ ts. Some at ≡ first_backslash ts)
passed_found mode query rest kind len within at w f h e other =
    let back = tokens_exist mode (drop len rest) in
    let n = 0 + length (text_of w.tokens) in
    let here : backslash_in n f.token ≡ Some (n + within) = some_elsewhere f.token n within (sym (told_first mode rest kind len (Some within) f h)) in
    let after : text_of (f.token ∷ back.0) ≡ rest = ap (λ x. bytes_of f.token ++ x) back.1.text ∙ f.bytes in
    let front_text : text_of w.tokens ++ rest ≡ query = sym (text_then-text_of w.tokens rest) ∙ w.cut.text in
    let place : at ≡ n + within = omega (arith, e, ap length front_text, length-append (text_of w.tokens) rest) in
    let found : first_backslash (w.tokens ++ f.token ∷ back.0) ≡ Some (n + within) = after_none w.tokens (f.token ∷ back.0) 0 w.none ∙ rw here refl in
    in_either query (Some at) mode other (
      w.tokens ++ f.token ∷ back.0,
      tokens_then mode query rest w.tokens (f.token ∷ back.0) w.cut (record { text = after; each = (subst (IsToken mode f.token) (sym back.1.text) f.holds, back.1.each) }),
      ap Some place ∙ sym found,
    )
