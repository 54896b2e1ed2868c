-- Tokens without a name or a mark, in a reading: one more, and a run of plain bytes more.
use Rattle.std.specs.Prelude.{Bool}
use Rattle.std.proofs.Common.{◌≡◌, ◌≢◌, ◌⊎◌, inl, inr, ℕ, zero, suc, ◌+◌, ◌-◌, ◌<◌, ◌≤◌, ◌&&◌, true, false, List, [], ◌∷◌, ◌++◌, length, drop, get_or, Some, None, refl, sym, ap, ◌∙◌, subst, arith, length-drop, length-append, append_assoc, append-nil, drop_at, ne_eqb, true≢false}
use Rattle.std.proofs.lemmas.Bool.{and_parts}
use Rattle.std.proofs.lemmas.List.{drop_more, drop_all, drop-drop, take_rest}
use Rattle.mysql_named_params.specs.Bytes.{backquote, hash, dash, slash, colon, question_mark, single_quote, double_quote, begins}
use Rattle.mysql_named_params.specs.Tokens.{Token, IsTokens, AreTokensBefore, bytes_of, text_of, Name, Mark}
use Rattle.mysql_named_params.specs.Places.{place_count}
use Rattle.mysql_named_params.specs.FirstToken.{kind_of, IsFirstToken}
use Rattle.mysql_named_params.specs.FirstPlace.{place_kind, IsFirstPlace}
use Rattle.mysql_named_params.specs.PlainBytes.{is_always_plain, AreAlwaysPlain}
use Rattle.mysql_named_params.specs.Reading.{OnTokensIn}
use Rattle.mysql_named_params.specs.WideNames.{is_wide_start, widened}
use Rattle.mysql_named_params.specs.WidePlaces.{opens_wide_name, wide_len}
use Rattle.mysql_named_params.specs.declared.places.PlaceKind.{PlaceKind}
use Rattle.mysql_named_params.specs.declared.places.PlaceKind.TheVariants as found_kind
use Rattle.mysql_named_params.specs.declared.places.Reading.{Reading}
use Rattle.mysql_named_params.specs.declared.tokens.TokenKind.{TokenKind}
use Rattle.mysql_named_params.specs.declared.tokens.TokenKind.TheVariants as kind
use Rattle.mysql_named_params.specs.TokensOf.{not_plain_at}
use Rattle.mysql_named_params.proofs.TokenEndLemmas.{slice_from}
use Rattle.mysql_named_params.proofs.FirstTokenLemmas.{plain_first, plain_other}
use Rattle.mysql_named_params.proofs.TokenListLemmas.{one_token, some_byte}
use Rattle.mysql_named_params.proofs.TokenRowLemmas.{text_of-append, place_count-append}
use Rattle.mysql_named_params.proofs.CutLemmas.{first_within}
use Rattle.mysql_named_params.proofs.TokensExistLemmas.{tokens_exist}
use Rattle.mysql_named_params.proofs.ReadingLemmas.{read_with, tokens_read}
use Rattle.mysql_named_params.proofs.WidePlaceLemmas.{opened, not_opened}

-- no place comes before this index, at which a token of the grammar begins, or the text ends
pub record HasNoPlaceBefore (reading : Reading) (text : List ℕ) (at : ℕ) : Type 0 where
  -- the tokens of the grammar, and those of them from the index on
  pub all : List Token
  pub tokens : IsTokens reading.no_backslash_escape text all
  pub back : List Token
  pub each : AreTokensBefore reading.no_backslash_escape [] back
  pub back_text : text_of back ≡ drop at text
  -- the tokens that are read before the index
  pub front : List Token
  pub split : read_with reading.wide_names all ≡ front ++ read_with reading.wide_names back
  pub no_place : place_count front ≡ 0
  pub front_len : length (text_of front) ≡ at
  pub in_range : at ≤ length text

pub no_place_before_start : (reading : Reading) (text : List ℕ) → HasNoPlaceBefore reading text 0
no_place_before_start reading text =
    let o = tokens_exist reading.no_backslash_escape text in
    record {
      all = o.0;
      tokens = o.1;
      back = o.0;
      each = o.1.each;
      back_text = o.1.text;
      front = [];
      split = refl;
      no_place = refl;
      front_len = refl;
      in_range = omega arith;
    }

place_count-other : (t : Token) → kind_of t ≡ kind.Other → place_count (t ∷ []) ≡ 0
place_count-other (Name name) e = cc
place_count-other Mark e = cc
place_count-other t e = refl

-- the first token of a row
pub next_token : (mode : Bool) (back : List Token) (rest : List ℕ) (k : TokenKind) (n : ℕ) →
    AreTokensBefore mode [] back → text_of back ≡ rest → (f : IsFirstToken mode rest k n) →
    (ts : List Token) × (back ≡ f.token ∷ ts) × (text_of ts ≡ drop n rest)
next_token mode [] rest k n h e f = absurd (some_byte f.token (drop n rest) (f.bytes ∙ sym e))
next_token mode (t ∷ ts) rest k n h e f =
    let same : t ≡ f.token = one_token mode t f.token (text_of ts) (drop n rest) h.0 f.holds (e ∙ sym f.bytes) in
    let after : drop n rest ≡ text_of ts = ap (drop n) (sym e) ∙ drop_at (bytes_of t) (text_of ts) n (ap (λ x. length (bytes_of x)) same ∙ f.len_is) in
    (ts, ap (λ x. x ∷ ts) same, sym after)

-- a token that opens no wide name is read as it is
read_as_it_is : (wide mode : Bool) (t : Token) (ts : List Token) → AreTokensBefore mode [] (t ∷ ts) →
    (wide && opens_wide_name (text_of (t ∷ ts))) ≡ false →
    (read_with wide (t ∷ ts) ≡ t ∷ read_with wide ts) × (wide ≡ true → kind_of t ≢ kind.Name)
read_as_it_is false mode t ts h o = (refl, λ e. cc)
read_as_it_is true mode t ts h o =
    let n = not_opened mode t ts h o in
    (n.0, λ e. n.1)

read_widened : (wide : Bool) (ts : List Token) (name : List ℕ) (left : List Token) → wide ≡ true →
    widened ts ≡ Name name ∷ widened left → read_with wide ts ≡ Name name ∷ read_with wide left
read_widened false ts name left e w = absurd (true≢false (sym e))
read_widened true ts name left e w = w

module _ (reading : Reading) (text rest : List ℕ) (at : ℕ) (w : HasNoPlaceBefore reading text at) (rest_is : rest ≡ drop at text) where
  abbrev mode : Bool
  mode = reading.no_backslash_escape

  abbrev wide : Bool
  wide = reading.wide_names

  text_is : text_of w.back ≡ rest
  text_is = w.back_text ∙ sym rest_is

  -- a token of the grammar that opens no wide name
  module _ (k : TokenKind) (n : ℕ) (f : IsFirstToken mode rest k n) (o : (wide && opens_wide_name rest) ≡ false) where
    record Next : Type 0 where
      left : List Token
      text_left : text_of left ≡ drop (at + n) text
      split : read_with wide w.all ≡ w.front ++ f.token ∷ read_with wide left
      each : AreTokensBefore mode [] left
      no_name : wide ≡ true → kind_of f.token ≢ kind.Name

    next : Next
    next =
        let t = next_token mode w.back rest k n w.each text_is f in
        let each = subst (AreTokensBefore mode []) t.1 w.each in
        let closed : (wide && opens_wide_name (text_of (f.token ∷ t.0))) ≡ false = ap (λ x. wide && opens_wide_name x) (ap text_of (sym t.1) ∙ text_is) ∙ o in
        let as_it_is = read_as_it_is wide mode f.token t.0 each closed in
        record {
          left = t.0;
          text_left = t.2 ∙ (ap (drop n) rest_is ∙ drop-drop n at text);
          split = w.split ∙ (ap (λ x. w.front ++ read_with wide x) t.1 ∙ ap (λ x. w.front ++ x) as_it_is.0);
          each = each.1;
          no_name = as_it_is.1;
        }

    -- one that is no place
    pub other_token_more : k ≡ kind.Other → HasNoPlaceBefore reading text (at + n)
    other_token_more e =
        let x = next in
        record {
          all = w.all;
          tokens = w.tokens;
          back = x.left;
          each = x.each;
          back_text = x.text_left;
          front = w.front ++ f.token ∷ [];
          split = x.split ∙ sym (append_assoc w.front (f.token ∷ []) (read_with wide x.left));
          no_place = omega (arith, place_count-append w.front (f.token ∷ []), w.no_place, place_count-other f.token (f.kind_is ∙ e));
          front_len = omega (arith, ap length (text_of-append w.front (f.token ∷ [])), length-append (text_of w.front) (text_of (f.token ∷ [])), w.front_len, ap length (append-nil (bytes_of f.token)), f.len_is);
          in_range = omega (arith, first_within mode rest k n f, ap length rest_is, length-drop at text, w.in_range);
        }

    first_place_is : (p : PlaceKind) → place_kind f.token ≡ Some p →
        OnTokensIn reading text (λ ts. IsFirstPlace ts (record { before = at; kind = p; len = n }))
    first_place_is p is =
        let x = next in (
          read_with wide w.all,
          tokens_read wide mode text w.all w.tokens,
          record {
            front = w.front;
            place = f.token;
            back = read_with wide x.left;
            split = sym x.split;
            is_first = w.no_place;
            before_is = w.front_len;
            kind_is = is;
            len_is = f.len_is;
          },
        )

    pub first_name : k ≡ kind.Name →
        OnTokensIn reading text (λ ts. IsFirstPlace ts (record { before = at; kind = found_kind.Name; len = n }))
    first_name e = first_place_is found_kind.Name (name f.token (f.kind_is ∙ e))
      where
        name : (t : Token) → kind_of t ≡ kind.Name → place_kind t ≡ Some found_kind.Name
        name (Name n) g = refl
        name Mark g = cc
        name t g = cc

    pub first_mark : k ≡ kind.Mark →
        OnTokensIn reading text (λ ts. IsFirstPlace ts (record { before = at; kind = found_kind.Mark; len = n }))
    first_mark e = first_place_is found_kind.Mark (mark f.token (f.kind_is ∙ e))
      where
        mark : (t : Token) → kind_of t ≡ kind.Mark → place_kind t ≡ Some found_kind.Mark
        mark (Name n) g = cc
        mark Mark g = refl
        mark t g = cc

  -- a wide name
  pub first_wide_name : (n : ℕ) → (wide && opens_wide_name rest) ≡ true →
      n ≡ 1 + wide_len (slice_from 1 rest) →
      OnTokensIn reading text (λ ts. IsFirstPlace ts (record { before = at; kind = found_kind.Name; len = n }))
  first_wide_name n o n_is =
      let both = and_parts wide (opens_wide_name rest) o in
      let x = opened mode w.back w.each (ap opens_wide_name text_is ∙ both.1) in
      let read : read_with wide w.back ≡ Name x.name ∷ read_with wide x.left = read_widened wide w.back x.name x.left both.0 x.wide in
      let len : length (bytes_of (Name x.name)) ≡ n = x.len ∙ (ap (λ r. 1 + wide_len (drop 1 r)) text_is ∙ (ap (λ r. 1 + wide_len r) (sym (take_rest rest 1)) ∙ sym n_is)) in (
        read_with wide w.all,
        tokens_read wide mode text w.all w.tokens,
        record {
          front = w.front;
          place = Name x.name;
          back = read_with wide x.left;
          split = sym (w.split ∙ ap (λ y. w.front ++ y) read);
          is_first = w.no_place;
          before_is = w.front_len;
          kind_is = refl;
          len_is = len;
        },
      )

-- ---- a run of plain bytes

-- such a byte is none of those with which other tokens begin
always_plain-not : (b : ℕ) → is_always_plain b ≡ true → (bad : ℕ) → is_always_plain bad ≡ false →
    b ≢ bad
always_plain-not b p bad q e = cc

pub plain_token : (mode : Bool) (b : ℕ) (rest : List ℕ) → is_always_plain b ≡ true →
    IsFirstToken mode (b ∷ rest) kind.Other 1
plain_token mode b rest p =
    let quotes : (b ≡ double_quote) ⊎ (b ≡ single_quote) → ⊥ = λ q. elim q [ inl e ↦ always_plain-not b p double_quote refl e | inr e ↦ always_plain-not b p single_quote refl e ] in
    let none : (r : List ℕ) → not_plain_at mode (b ∷ r) ≡ None = λ r. plain_other mode b r quotes (always_plain-not b p backquote refl) (always_plain-not b p hash refl) (always_plain-not b p dash refl) (always_plain-not b p slash refl) (always_plain-not b p colon refl) (always_plain-not b p question_mark refl) in
    plain_first mode (b ∷ rest) (omega arith) (none (slice_from 1 (b ∷ rest)))

and_opens_none : (wide : Bool) (text : List ℕ) → opens_wide_name text ≡ false →
    (wide && opens_wide_name text) ≡ false
and_opens_none false text e = refl
and_opens_none true text e = e

plain_run : (reading : Reading) (text : List ℕ) (n at : ℕ) → HasNoPlaceBefore reading text at →
    at + n ≤ length text → AreAlwaysPlain text at (at + n) → HasNoPlaceBefore reading text (at + n)
plain_run reading text zero at w le all =
    let same : at ≡ at + 0 = omega arith in
    subst (HasNoPlaceBefore reading text) same w
plain_run reading text (suc n) at w le all =
    let short : at < length text = omega arith in
    let byte : is_always_plain (get_or text at 0) ≡ true = all at (omega arith) (omega arith) in
    let cut : drop at text ≡ get_or text at 0 ∷ drop (at + 1) text = drop_more text at 0 short in
    let first = subst (λ x. IsFirstToken reading.no_backslash_escape x kind.Other 1) (sym cut) (plain_token reading.no_backslash_escape (get_or text at 0) (drop (at + 1) text) byte) in
    let closed : opens_wide_name (drop at text) ≡ false = ap opens_wide_name cut ∙ ap (λ x. x && begins is_wide_start (drop (at + 1) text)) (ne_eqb (get_or text at 0) colon (always_plain-not (get_or text at 0) byte colon refl)) in
    let next = other_token_more reading text (drop at text) at w refl kind.Other 1 first (and_opens_none reading.wide_names (drop at text) closed) refl in
    let same : at + 1 + n ≡ at + suc n = omega arith in
    subst (HasNoPlaceBefore reading text) same (plain_run reading text n (at + 1) next (omega arith) (λ k from to. all k (omega arith) (omega arith)))

pub plain_bytes_more : (reading : Reading) (text : List ℕ) (at end : ℕ) →
    HasNoPlaceBefore reading text at → (at ≤ end) × (end ≤ length text) →
    AreAlwaysPlain text at end → HasNoPlaceBefore reading text end
plain_bytes_more reading text at end w within all =
    let same : at + (end - at) ≡ end = omega (arith, within.0) in
    subst (HasNoPlaceBefore reading text) same (plain_run reading text (end - at) at w (omega (arith, within.0, within.1)) (λ k from to. all k from (omega arith)))

-- at its end a text has no place left
pub no_place_at_all : (reading : Reading) (text : List ℕ) (at : ℕ) →
    HasNoPlaceBefore reading text at → length text ≤ at →
    OnTokensIn reading text (λ ts. place_count ts ≡ 0)
no_place_at_all reading text at w le =
    let none : w.back ≡ [] = no_tokens w.back (w.back_text ∙ drop_all at text le) in
    let read : read_with reading.wide_names w.all ≡ w.front = w.split ∙ (ap (λ x. w.front ++ read_with reading.wide_names x) none ∙ (ap (λ x. w.front ++ x) (read_nothing reading.wide_names) ∙ append-nil w.front)) in (
      read_with reading.wide_names w.all,
      tokens_read reading.wide_names reading.no_backslash_escape text w.all w.tokens,
      ap place_count read ∙ w.no_place,
    )
  where
    no_tokens : (ts : List Token) → text_of ts ≡ [] → ts ≡ []
    no_tokens [] e = refl
    no_tokens (t ∷ ts) e = absurd (some_byte t (text_of ts) e)

    read_nothing : (wide : Bool) → read_with wide [] ≡ []
    read_nothing false = refl
    read_nothing true = refl
