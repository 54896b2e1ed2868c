-- The walk over a query to its first construct that isn't portable.
use Rattle.std.specs.Prelude.{Bool, ⊤}
use Rattle.std.proofs.Common.{◌≡◌, ◌≢◌, ◌↔◌, ◌<◌, ◌≤◌, ◌||◌, ◌&&◌, ◌==◌, get_or, ne_eqb, ℕ, ◌+◌, true, false, cond, List, [], ◌∷◌, ◌++◌, length, drop, Option, Some, None, refl, sym, ap, ◌∙◌, subst, arith, length-append, length-drop}
use Rattle.std.specs.Char.{is_ascii_digit}
use Rattle.std.specs.Str.{byte}
use Rattle.std.proofs.Math.Bool.{or-false}
use Rattle.std.proofs.lemmas.Bool.{and_parts, or_parts, not-true}
use Rattle.std.proofs.lemmas.List.{nil_from_length, take_rest, drop_more}
use Rattle.mysql_named_params.specs.Bytes.{colon, question_mark, is_start_byte, begins}
use Rattle.mysql_named_params.specs.Tokens.{Token, bytes_of, text_of, text_then, IsToken, OnTokens}
use Rattle.mysql_named_params.specs.FirstToken.{IsFirstToken}
use Rattle.mysql_named_params.specs.declared.tokens.TokenKind.{TokenKind}
use Rattle.mysql_named_params.proofs.CutLemmas.{BeginsWithTokens, cut_none, cut_more, all_tokens, tokens_then}
use Rattle.mysql_named_params.proofs.TokenEndLemmas.{slice_from}
use Rattle.mysql_named_params.proofs.TokenRowLemmas.{text_then-append, text_then-text_of}
use Rattle.mysql_named_params.proofs.TokensExistLemmas.{tokens_exist}
use Rattle.mysql_portable.specs.Server.{begins_place, begins_fraction}
use Rattle.mysql_portable.specs.Portable.{AreReadAlikeBefore, JoinNoNumberBefore, IsPortable}
use Rattle.mysql_portable.specs.FrontConstruct.{front_construct}
use Rattle.mysql_portable.specs.FirstUnportable.{construct_at, first_unportable_from, first_unportable}
use Rattle.mysql_portable.specs.declared.portable.Construct.{Construct}
use Rattle.mysql_portable.specs.declared.portable.Unportable.{Unportable}
use Rattle.mysql_portable.proofs.FrontLemmas.{passes, unportable_at, front_is}

-- each of the tokens passes, and then a rest
abbrev pub AllPass : List ℕ → List Token → Type 0
AllPass rest [] = ⊤
AllPass rest (t ∷ ts) = (passes t (text_then rest ts) ≡ true) × AllPass rest ts

-- the tokens before the rest pass
pub record WalkedSoFar (mode : Bool) (query rest : List ℕ) : Type 0 where
  pub tokens : List Token
  pub cut : BeginsWithTokens mode query rest tokens
  pub pass : AllPass rest tokens

pub walked_none : (mode : Bool) (query : List ℕ) → WalkedSoFar mode query query
walked_none mode query = record { tokens = []; cut = cut_none mode query; pass = tt }

pub AllPass-push : (ts : List Token) (t : Token) (rest : List ℕ) → AllPass (bytes_of t ++ rest) ts →
    passes t rest ≡ true → AllPass rest (ts ++ t ∷ [])
AllPass-push [] t rest h p = (p, tt)
AllPass-push (u ∷ ts) t rest h p =
    (subst (λ x. passes u x ≡ true) (sym (text_then-append ts (t ∷ []) rest)) h.0, AllPass-push ts t rest h.1 p)

-- a construct that is found at the front is found in its token
front_of : (mode : Bool) (rest : List ℕ) (kind : TokenKind) (n : ℕ) → (f : IsFirstToken mode rest kind n) →
    front_construct rest n ≡ unportable_at f.token (drop n rest)
front_of mode rest kind n f =
    subst (λ x. front_construct x n ≡ unportable_at f.token (drop n rest)) f.bytes
    (subst (λ k. front_construct (bytes_of f.token ++ drop n rest) k ≡ unportable_at f.token (drop n rest)) f.len_is
    (front_is mode f.token (drop n rest) f.holds))

pub none_passes : (t : Token) (rest : List ℕ) → unportable_at t rest ≡ None → passes t rest ≡ true
none_passes t rest = go (passes t rest)
  where
    go : (p : Bool) → cond p None (Some (construct_at t rest)) ≡ None → p ≡ true
    go true e = refl
    go false e = cc

pub some_fails : (t : Token) (rest : List ℕ) (c : Construct) → unportable_at t rest ≡ Some c →
    (passes t rest ≡ false) × (construct_at t rest ≡ c)
some_fails t rest c = go (passes t rest)
  where
    go : (p : Bool) → cond p None (Some (construct_at t rest)) ≡ Some c →
        (p ≡ false) × (construct_at t rest ≡ c)
    go true e = cc
    go false e = let same : construct_at t rest ≡ c = cc in (refl, same)

pub walked_more : (mode : Bool) (query rest : List ℕ) (kind : TokenKind) (n : ℕ) → WalkedSoFar mode query rest →
    IsFirstToken mode rest kind n → front_construct rest n ≡ None →
    WalkedSoFar mode query (slice_from n rest)
walked_more mode query rest kind n w f d =
    rw take_rest (record {
      tokens = w.tokens ++ f.token ∷ [];
      cut = cut_more mode query rest w.tokens kind n w.cut f;
      pass = AllPass-push w.tokens f.token (drop n rest) (subst (λ x. AllPass x w.tokens) (sym f.bytes) w.pass) (none_passes f.token (drop n rest) (sym (front_of mode rest kind n f) ∙ d));
    })

pub none_from : (ts : List Token) (n : ℕ) → AllPass [] ts → first_unportable_from n ts ≡ None
none_from [] n h = refl
none_from (t ∷ ts) n h = rw h.0 (none_from ts (n + length (bytes_of t)) h.1)

pub walked_whole : (mode : Bool) (query rest : List ℕ) → length rest ≡ 0 → WalkedSoFar mode query rest →
    OnTokens mode query (λ ts. None ≡ first_unportable ts)
walked_whole mode query rest e w =
    (w.tokens, all_tokens mode query rest w.tokens e w.cut, sym (none_from w.tokens 0 (subst (λ x. AllPass x w.tokens) (nil_from_length rest e) w.pass)))

pub found_from : (front back : List Token) (t : Token) (n k : ℕ) (c : Construct) →
    AllPass (text_of (t ∷ back)) front → passes t (text_of back) ≡ false →
    construct_at t (text_of back) ≡ c → n + length (text_of front) ≡ k →
    ◌≡◌ {A = Option Unportable} (first_unportable_from n (front ++ t ∷ back)) (Some (record { construct = c; at = k }))
found_from [] back t n k c h p is e =
    let place : n ≡ k = omega arith in
    rw (p, is, place) refl
found_from (u ∷ front) back t n k c h p is e =
    let here : passes u (text_of (front ++ t ∷ back)) ≡ true = subst (λ x. passes u x ≡ true) (sym (text_then-append front (t ∷ back) [])) h.0 in
    rw here (found_from front back t (n + length (bytes_of u)) k c h.1 p is (omega (arith, length-append (bytes_of u) (text_of front))))

pub walked_found : (mode : Bool) (query rest : List ℕ) (kind : TokenKind) (n position : ℕ) (c : Construct) →
    WalkedSoFar mode query rest → IsFirstToken mode rest kind n → front_construct rest n ≡ Some c →
    position + length rest ≡ length query →
    OnTokens mode query (λ ts. ◌≡◌ {A = Option Unportable} (Some (record { construct = c; at = position })) (first_unportable ts))
walked_found mode query rest kind n position c w f d e =
    let back = tokens_exist mode (drop n rest) in
    let after : text_of (f.token ∷ back.0) ≡ rest = ap (λ x. bytes_of f.token ++ x) back.1.text ∙ f.bytes in
    let some : unportable_at f.token (text_of back.0) ≡ Some c = ap (unportable_at f.token) back.1.text ∙ (sym (front_of mode rest kind n f) ∙ d) in
    let here = some_fails f.token (text_of back.0) c some in
    let front_text : text_of w.tokens ++ rest ≡ query = sym (text_then-text_of w.tokens rest) ∙ w.cut.text in
    let place : 0 + length (text_of w.tokens) ≡ position = omega (arith, ap length front_text, length-append (text_of w.tokens) rest) in (
      w.tokens ++ f.token ∷ back.0,
      tokens_then mode query rest w.tokens (f.token ∷ back.0) w.cut (record { text = after; each = (subst (IsToken mode f.token) (sym back.1.text) f.holds, back.1.each) }),
      sym (found_from w.tokens back.0 f.token 0 position c (subst (λ x. AllPass x w.tokens) (sym after) w.pass) here.0 here.1 place),
    )

pub slice_within : (n : ℕ) (rest query : List ℕ) → length rest ≤ length query → length (slice_from n rest) ≤ length query
slice_within n rest query le = rw take_rest (omega (arith, length-drop n rest))

-- ---- none is found exactly if each passes

first_step : (p : Bool) (u : Unportable) (more : Option Unportable) → cond p more (Some u) ≡ None →
    (p ≡ true) × (more ≡ None)
first_step true u more e = (refl, e)
first_step false u more e = cc

all_from : (ts : List Token) (n : ℕ) → first_unportable_from n ts ≡ None → AllPass [] ts
all_from [] n h = tt
all_from (t ∷ ts) n h =
    let s = first_step (passes t (text_of ts)) _ (first_unportable_from (n + length (bytes_of t)) ts) h in
    (s.0, all_from ts (n + length (bytes_of t)) s.1)

pub pass_parts : (ts : List Token) → AllPass [] ts → AreReadAlikeBefore [] ts × JoinNoNumberBefore [] ts
pass_parts [] h = (tt, tt)
pass_parts (t ∷ ts) h =
    let p = and_parts _ _ h.0 in
    let more = pass_parts ts h.1 in
    ((p.0, more.0), (not-true _ p.1, more.1))

pass_from : (ts : List Token) → AreReadAlikeBefore [] ts → JoinNoNumberBefore [] ts → AllPass [] ts
pass_from [] a j = tt
pass_from (t ∷ ts) a j = (rw (a.0, j.0) refl, pass_from ts a.1 j.1)

pub none_is_portable : (ts : List Token) → first_unportable ts ≡ None → IsPortable ts
none_is_portable ts h = let p = pass_parts ts (all_from ts 0 h) in record { alike = p.0; apart = p.1 }

pub portable_has_none : (ts : List Token) → IsPortable ts → first_unportable ts ≡ None
portable_has_none ts p = none_from ts 0 (pass_from ts p.alike p.apart)

pub none_where_portable : (mode : Bool) (query : List ℕ) (found : Option Unportable) →
    OnTokens mode query (λ ts. found ≡ first_unportable ts) →
    OnTokens mode query (λ ts. (found ≡ None) ↔ IsPortable ts)
none_where_portable mode query found o =
    (o.0, o.1, (λ e. none_is_portable o.0 (sym o.2 ∙ e), λ p. o.2 ∙ portable_has_none o.0 p))

-- ---- a digit on the way to an exponent

pub fraction_goes_on : (text : List ℕ) (i : ℕ) → i < length text → begins_place (slice_from i text) ≡ false →
    get_or text i 0 ≢ byte "e" → get_or text i 0 ≢ byte "E" → is_ascii_digit (get_or text i 0) ≡ true →
    begins_fraction (drop i text) ≡ begins_fraction text →
    begins_fraction (drop (i + 1) text) ≡ begins_fraction text
fraction_goes_on text i lt place c d digit inv =
    let p = or_parts (get_or text i 0 == question_mark) (get_or text i 0 == colon && begins is_start_byte (drop (i + 1) text))
    (subst (λ x. begins_place x ≡ false) (take_rest text i ∙ drop_more text i 0 lt) place) in
    let step : begins_fraction (drop i text) ≡ (begins_fraction (drop (i + 1) text) || false) = rw (drop_more text i 0 lt, p.0, p.1, ne_eqb (get_or text i 0) (byte "e") c, ne_eqb (get_or text i 0) (byte "E") d, digit) refl in
    sym (or-false _) ∙ (sym step ∙ inv)
