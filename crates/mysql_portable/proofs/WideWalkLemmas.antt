-- The walk over a query with wide names to its first construct that isn't portable.
use Rattle.std.specs.Prelude.{Bool}
use Rattle.std.specs.Char.{is_ascii_digit, to_ascii_lowercase}
use Rattle.std.proofs.Common.{◌≡◌, ◌≢◌, ◌↔◌, get_or, ne_eqb, ℕ, zero, suc, ◌+◌, ◌<◌, ◌≤◌, ◌==◌, ◌&&◌, ◌||◌, true, false, List, [], ◌∷◌, ◌++◌, length, drop, drop_at, map, Option, Some, None, refl, sym, ap, ◌∙◌, subst, append-nil, append_assoc, arith, length-append, true≢false}
use Rattle.std.specs.List.{list_all}
use Rattle.std.proofs.Math.Bool.{or-false}
use Rattle.std.proofs.lemmas.Bool.{and_parts, or_parts}
use Rattle.std.proofs.lemmas.Bool.Decides.{nat_tests}
use Rattle.std.proofs.lemmas.List.{drop_more, length-map, nil_from_length, take_rest}
use Rattle.mysql_named_params.specs.Bytes.{colon, dollar, is_name_byte, is_start_byte, point, question_mark, slash, begins}
use Rattle.mysql_named_params.specs.FirstToken.{IsFirstToken, kind_of}
use Rattle.mysql_named_params.specs.LoweredNames.{lower_names}
use Rattle.mysql_named_params.specs.Reading.{IsTokensIn, IsTokensWith, OnTokensIn, OnWideTokens}
use Rattle.mysql_named_params.specs.Tokens.{Token, AreTokensBefore, IsName, IsToken, IsTokens, OnTokens, bytes_of, text_of, Name}
use Rattle.mysql_named_params.specs.Lanes.{EachPasses}
use Rattle.mysql_named_params.specs.WideNames.{is_wide_start, widened}
use Rattle.mysql_named_params.specs.WidePlaces.{opens_wide_name, wide_len}
use Rattle.mysql_named_params.specs.declared.places.Reading.{Reading}
use Rattle.mysql_named_params.specs.declared.tokens.TokenKind.{TokenKind}
use Rattle.mysql_named_params.specs.declared.tokens.TokenKind.TheVariants as kind
use Rattle.mysql_named_params.proofs.FirstPlaceLemmas.{next_token, plain_token}
use Rattle.mysql_named_params.proofs.LoweredLemmas.{lowered_tokens}
use Rattle.mysql_named_params.proofs.TokenEndLemmas.{slice_from}
use Rattle.mysql_named_params.proofs.TokenListLemmas.{some_byte}
use Rattle.mysql_named_params.proofs.TokenRowLemmas.{text_of-append}
use Rattle.mysql_named_params.proofs.TokensExistLemmas.{tokens_exist}
use Rattle.mysql_named_params.proofs.WidePlaceLemmas.{opened, not_opened}
use Rattle.mysql_portable.specs.ByStart.{begins_exponent_by, begins_fraction_by, begins_place_by, front_construct_by}
use Rattle.mysql_portable.specs.FirstUnportable.{first_unportable}
use Rattle.mysql_portable.specs.FrontConstruct.{front_construct}
use Rattle.mysql_portable.specs.NoConstruct.{begins_exponent_sign, begins_no_construct, StandBeforeNoSign}
use Rattle.mysql_portable.specs.Portable.{IsPortable}
use Rattle.mysql_portable.specs.declared.portable.Construct.{Construct}
use Rattle.mysql_portable.specs.declared.portable.Unportable.{Unportable}
use Rattle.mysql_portable.proofs.FrontLemmas.{passes, unportable_at}
use Rattle.mysql_portable.proofs.NoConstructLemmas.{no_construct-not, no_construct_after, no_construct_front, no_sign_no_exponent}
use Rattle.mysql_portable.proofs.UnportableLemmas.{AllPass, AllPass-push, found_from, none_from, none_is_portable, none_passes, portable_has_none, some_fails}
use Rattle.mysql_portable.proofs.WideFrontLemmas.{front_alike, same_by_start}
use Rattle.std.specs.Str.{byte}

-- the tokens with their wide names in lower case
abbrev pub low : List Token → List Token
low ts = lower_names (widened ts)

-- the tokens before the rest, with their names in lower case, pass
pub record WideWalked (mode : Bool) (query rest : List ℕ) : Type 0 where
  -- the tokens of the grammar, and those of the rest
  pub all : List Token
  pub tokens : IsTokens mode query all
  pub back : List Token
  pub each : AreTokensBefore mode [] back
  pub back_text : text_of back ≡ rest
  -- those that are walked over
  pub front : List Token
  pub split : low all ≡ front ++ low back
  pub pass : AllPass (text_of (low back)) front
  pub front_len : length (text_of front) + length rest ≡ length query

pub wide_walked_none : (mode : Bool) (query : List ℕ) → WideWalked mode query query
wide_walked_none mode query =
    let o = tokens_exist mode query in
    record {
      all = o.0;
      tokens = o.1;
      back = o.0;
      each = o.1.each;
      back_text = o.1.text;
      front = [];
      split = refl;
      pass = tt;
      front_len = omega arith;
    }

pub lower_other : (t : Token) (us : List Token) → kind_of t ≢ kind.Name → lower_names (t ∷ us) ≡ t ∷ lower_names us
lower_other (Name name) us n = absurd (n refl)
lower_other t us n = refl

-- one token more, which is in front of the rest in lower case
more : (mode : Bool) (query rest after : List ℕ) (w : WideWalked mode query rest) (t : Token) (left : List Token) →
    low w.back ≡ t ∷ low left → AreTokensBefore mode [] left → text_of left ≡ after →
    length (bytes_of t) + length after ≡ length rest → passes t (text_of (low left)) ≡ true →
    WideWalked mode query after
more mode query rest after w t left is each text len p = record {
  all = w.all;
  tokens = w.tokens;
  back = left;
  each = each;
  back_text = text;
  front = w.front ++ t ∷ [];
  split = w.split ∙ (ap (λ x. w.front ++ x) is ∙ sym (append_assoc w.front (t ∷ []) (low left)));
  pass = AllPass-push w.front t (text_of (low left)) (subst (λ us. AllPass (text_of us) w.front) is w.pass) p;
  front_len = omega (arith, w.front_len, len, ap length (text_of-append w.front (t ∷ [])), length-append (text_of w.front) (text_of (t ∷ [])), ap length (append-nil (bytes_of t)));
}

-- a token of the grammar in front of the rest that opens no wide name
module _ (mode : Bool) (query rest : List ℕ) (k : TokenKind) (n : ℕ) (w : WideWalked mode query rest) (f : IsFirstToken mode rest k n) (closed : opens_wide_name rest ≡ false) where
  record Next : Type 0 where
    left : List Token
    text : text_of left ≡ drop n rest
    each : AreTokensBefore mode [] left
    low_is : low w.back ≡ f.token ∷ low left
    front_is : front_construct_by is_wide_start rest n ≡ unportable_at f.token (text_of (low left))
    len : length (bytes_of f.token) + length (drop n rest) ≡ length rest

  next : Next
  next =
      let t = next_token mode w.back rest k n w.each w.back_text f in
      let each : AreTokensBefore mode [] (f.token ∷ t.0) = subst (AreTokensBefore mode []) t.1 w.each in
      let shut : opens_wide_name (text_of (f.token ∷ t.0)) ≡ false = ap opens_wide_name (ap text_of (sym t.1) ∙ w.back_text) ∙ closed in
      let as_it_is = not_opened mode f.token t.0 each shut in
      let low_is : low (f.token ∷ t.0) ≡ f.token ∷ low t.0 = ap lower_names as_it_is.0 ∙ lower_other f.token (widened t.0) as_it_is.1 in
      let all = lowered_tokens mode (text_of (f.token ∷ t.0)) (f.token ∷ t.0) (record { text = refl; each = each }) in
      let token : IsToken mode f.token (text_of (low t.0)) = (subst (AreTokensBefore mode []) low_is all.each).0 in
      let alike : front_construct_by is_wide_start (bytes_of f.token ++ text_of t.0) (length (bytes_of f.token)) ≡ unportable_at f.token (text_of (low t.0)) =
      front_alike mode (text_of t.0) (text_of (low t.0)) (same_by_start mode t.0 each.1) f.token each.0 token as_it_is.1 in
      let bytes : bytes_of f.token ++ text_of t.0 ≡ rest = ap (λ x. bytes_of f.token ++ x) t.2 ∙ f.bytes in
      record {
        left = t.0;
        text = t.2;
        each = each.1;
        low_is = ap low t.1 ∙ low_is;
        front_is = subst (λ x. front_construct_by is_wide_start x n ≡ unportable_at f.token (text_of (low t.0))) bytes
            (subst (λ m. front_construct_by is_wide_start (bytes_of f.token ++ text_of t.0) m ≡ unportable_at f.token (text_of (low t.0))) f.len_is alike);
        len = sym (length-append (bytes_of f.token) (drop n rest)) ∙ ap length f.bytes;
      }

  pub wide_walked_more : front_construct_by is_wide_start rest n ≡ None → WideWalked mode query (slice_from n rest)
  wide_walked_more none =
      let x = next in
      rw take_rest (more mode query rest (drop n rest) w f.token x.left x.low_is x.each x.text x.len (none_passes f.token (text_of (low x.left)) (sym x.front_is ∙ none)))

  pub wide_walked_found : (c : Construct) (position : ℕ) → front_construct_by is_wide_start rest n ≡ Some c →
      position + length rest ≡ length query →
      OnWideTokens mode query (λ ts. ◌≡◌ {A = Option Unportable} (Some (record { construct = c; at = position })) (first_unportable (lower_names ts)))
  wide_walked_found c position some e =
      let x = next in
      let here = some_fails f.token (text_of (low x.left)) c (sym x.front_is ∙ some) in
      let place : 0 + length (text_of w.front) ≡ position = omega (arith, w.front_len, e) in
      let split : low w.all ≡ w.front ++ f.token ∷ low x.left = w.split ∙ ap (λ us. w.front ++ us) x.low_is in
      let pass : AllPass (text_of (f.token ∷ low x.left)) w.front = subst (λ us. AllPass (text_of us) w.front) x.low_is w.pass in (
        widened w.all,
        (w.all, w.tokens, refl),
        sym (ap first_unportable split ∙ found_from w.front (low x.left) f.token 0 position c pass here.0 here.1 place),
      )

-- a wide name in front of the rest
pub wide_walked_name : (mode : Bool) (query rest : List ℕ) (n : ℕ) → WideWalked mode query rest →
    opens_wide_name rest ≡ true → n ≡ 1 + wide_len (slice_from 1 rest) → WideWalked mode query (slice_from n rest)
wide_walked_name mode query rest n w o n_is =
    let x = opened mode w.back w.each (ap opens_wide_name w.back_text ∙ o) in
    let len : length (bytes_of (Name x.name)) ≡ n = x.len ∙ (ap (λ r. 1 + wide_len (drop 1 r)) w.back_text ∙ (ap (λ r. 1 + wide_len r) (sym (take_rest rest 1)) ∙ sym n_is)) in
    let bytes : bytes_of (Name x.name) ++ text_of x.left ≡ rest = x.text ∙ w.back_text in
    let text : text_of x.left ≡ drop n rest = sym (ap (drop n) (sym bytes) ∙ drop_at (bytes_of (Name x.name)) (text_of x.left) n len) in
    let low_is : low w.back ≡ Name (map to_ascii_lowercase x.name) ∷ low x.left = ap lower_names x.wide in
    let size : length (bytes_of (Name (map to_ascii_lowercase x.name))) + length (drop n rest) ≡ length rest =
    omega (arith, length-map x.name to_ascii_lowercase, ap length bytes, length-append (bytes_of (Name x.name)) (text_of x.left), ap length text) in
    rw take_rest (more mode query rest (drop n rest) w (Name (map to_ascii_lowercase x.name)) x.left low_is x.each text size refl)

-- ---- a run of bytes that begin no construct

no_exponent : (text : List ℕ) → begins_exponent_sign text ≡ false → begins_exponent_by is_wide_start text ≡ false
no_exponent [] h = refl
no_exponent (e ∷ []) h = refl
no_exponent (e ∷ sign ∷ bs) h = go (e == byte "e" || e == byte "E") _ h
  where
    go : (l s : Bool) → (l && s) ≡ false → (l && (s && begins_place_by is_wide_start bs)) ≡ false
    go false s h = refl
    go true false h = refl
    go true true h = absurd (true≢false h)

pub no_construct_by : (b : ℕ) (bs : List ℕ) → begins_no_construct b ≡ true → begins_exponent_sign bs ≡ false →
    front_construct_by is_wide_start (b ∷ bs) 1 ≡ None
no_construct_by b bs p s = go (is_ascii_digit b) refl
  where
    go : (d : Bool) → is_ascii_digit b ≡ d → front_construct_by is_wide_start (b ∷ bs) 1 ≡ None
    go true e = rw (no_construct-not b p slash refl, no_construct-not b p dollar refl, no_construct-not b p point refl, e, no_exponent bs s) refl
    go false e =
        let same : front_construct_by is_wide_start (b ∷ bs) 1 ≡ front_construct (b ∷ bs) 1 = rw (no_construct-not b p slash refl, no_construct-not b p dollar refl, no_construct-not b p point refl, e) refl in
        same ∙ no_construct_front b bs p (no_sign_no_exponent bs s)

pub opens_none : (b : ℕ) (bs : List ℕ) → begins_no_construct b ≡ true → opens_wide_name (b ∷ bs) ≡ false
opens_none b bs p = rw (no_construct-not b p colon refl) refl

pub sign_after : (b : ℕ) (bs : List ℕ) (n : ℕ) → StandBeforeNoSign (b ∷ bs) (suc n) → StandBeforeNoSign bs n
sign_after b bs n apart k lt =
    let same : suc k + 1 ≡ suc (k + 1) = omega arith in
    subst (λ i. begins_exponent_sign (drop i (b ∷ bs)) ≡ false) same (apart (suc k) (omega arith))

pub wide_walked_run : (mode : Bool) (query rest : List ℕ) (n : ℕ) → WideWalked mode query rest → n ≤ length rest →
    EachPasses begins_no_construct rest 0 n → StandBeforeNoSign rest n → WideWalked mode query (slice_from n rest)
wide_walked_run mode query rest n w le no_construct apart = rw take_rest (go n rest w le no_construct apart)
  where
    go : (n : ℕ) (rest : List ℕ) → WideWalked mode query rest → n ≤ length rest → EachPasses begins_no_construct rest 0 n →
        StandBeforeNoSign rest n → WideWalked mode query (drop n rest)
    go zero rest w le no_construct apart = w
    go (suc n) [] w le no_construct apart = absurd (omega arith)
    go (suc n) (b ∷ bs) w le no_construct apart =
        let here : begins_no_construct b ≡ true = no_construct 0 (omega arith) (omega arith) in
        let first = plain_token mode b bs (and_parts _ _ here).0 in
        let step = wide_walked_more mode query (b ∷ bs) kind.Other 1 w first (opens_none b bs here) (no_construct_by b bs here (apart 0 (omega arith))) in
        go n bs (subst (WideWalked mode query) (take_rest (b ∷ bs) 1) step) (omega arith) (no_construct_after b bs n no_construct) (sign_after b bs n apart)

-- ---- at the end

pub wide_walked_whole : (mode : Bool) (query rest : List ℕ) → length rest ≡ 0 → WideWalked mode query rest →
    OnWideTokens mode query (λ ts. None ≡ first_unportable (lower_names ts))
wide_walked_whole mode query rest e w =
    let none : w.back ≡ [] = no_tokens w.back (w.back_text ∙ nil_from_length rest e) in
    let split : low w.all ≡ w.front = w.split ∙ (ap (λ us. w.front ++ low us) none ∙ append-nil w.front) in
    let pass : AllPass [] w.front = subst (λ us. AllPass (text_of (low us)) w.front) none w.pass in
    (widened w.all, (w.all, w.tokens, refl), sym (ap first_unportable split ∙ none_from w.front 0 pass))
  where
    no_tokens : (ts : List Token) → text_of ts ≡ [] → ts ≡ []
    no_tokens [] e = refl
    no_tokens (t ∷ ts) e = absurd (some_byte t (text_of ts) e)

pub none_where_portable_wide : (mode : Bool) (query : List ℕ) (found : Option Unportable) →
    OnWideTokens mode query (λ ts. found ≡ first_unportable (lower_names ts)) →
    OnWideTokens mode query (λ ts. (found ≡ None) ↔ IsPortable (lower_names ts))
none_where_portable_wide mode query found o =
    (o.0, o.1, (λ e. none_is_portable (lower_names o.0) (sym o.2 ∙ e), λ p. o.2 ∙ portable_has_none (lower_names o.0) p))

-- ---- a digit on the way to an exponent

pub fraction_goes_on_by : (start : ℕ → Bool) (text : List ℕ) (i : ℕ) → i < length text → begins_place_by start (slice_from i text) ≡ false →
    get_or text i 0 ≢ byte "e" → get_or text i 0 ≢ byte "E" → is_ascii_digit (get_or text i 0) ≡ true →
    begins_fraction_by start (drop i text) ≡ begins_fraction_by start text →
    begins_fraction_by start (drop (i + 1) text) ≡ begins_fraction_by start text
fraction_goes_on_by start text i lt place c d digit inv =
    let p = or_parts (get_or text i 0 == question_mark) (get_or text i 0 == colon && begins start (drop (i + 1) text))
    (subst (λ x. begins_place_by start x ≡ false) (take_rest text i ∙ drop_more text i 0 lt) place) in
    let step : begins_fraction_by start (drop i text) ≡ (begins_fraction_by start (drop (i + 1) text) || false) = rw (drop_more text i 0 lt, p.0, p.1, ne_eqb (get_or text i 0) (byte "e") c, ne_eqb (get_or text i 0) (byte "E") d, digit) refl in
    sym (or-false _) ∙ (sym step ∙ inv)

-- ---- the names of the grammar are in lower case

start_same : (b : ℕ) → is_start_byte b ≡ true → to_ascii_lowercase b ≡ b
start_same b h = grind (arith, nat_tests)

byte_same : (b : ℕ) → is_name_byte b ≡ true → to_ascii_lowercase b ≡ b
byte_same b h = grind (arith, nat_tests)

bytes_same : (bs : List ℕ) → list_all is_name_byte bs ≡ true → map to_ascii_lowercase bs ≡ bs
bytes_same [] h = refl
bytes_same (b ∷ bs) h =
    let p = and_parts (is_name_byte b) (list_all is_name_byte bs) h in
    ap (λ c. c ∷ map to_ascii_lowercase bs) (byte_same b p.0) ∙ ap (λ x. b ∷ x) (bytes_same bs p.1)

name_same : (name : List ℕ) → IsName name → map to_ascii_lowercase name ≡ name
name_same [] h = absurd h
name_same (b ∷ bs) h = ap (λ c. c ∷ map to_ascii_lowercase bs) (start_same b h.0) ∙ ap (λ x. b ∷ x) (bytes_same bs h.1)

pub grammar_lowered : (mode : Bool) (ts : List Token) → AreTokensBefore mode [] ts → lower_names ts ≡ ts
grammar_lowered mode [] h = refl
grammar_lowered mode (Name name ∷ ts) h =
    ap (λ x. Name x ∷ lower_names ts) (name_same name h.0.0) ∙ ap (λ us. Name name ∷ us) (grammar_lowered mode ts h.1)
grammar_lowered mode (t ∷ ts) h = ap (λ us. t ∷ us) (grammar_lowered mode ts h.1)

pub in_grammar : (reading : Reading) (query : List ℕ) (P : List Token → Type 0) → reading.wide_names ≡ false →
    OnTokens reading.no_backslash_escape query P → OnTokensIn reading query (λ ts. P (lower_names ts))
in_grammar reading query P e o =
    let tokens : IsTokensIn reading query o.0 = subst (λ wide. IsTokensWith wide reading.no_backslash_escape query o.0) (sym e) o.1 in
    (o.0, tokens, subst P (sym (grammar_lowered reading.no_backslash_escape o.0 o.1.each)) o.2)
