-- The walk over a query with wide names to the first construct that is found for a client.
use Rattle.std.specs.Prelude.{Bool, codes, not}
use Rattle.std.specs.Char.{to_ascii_lowercase}
use Rattle.std.specs.List.{list_all, list_any}
use Rattle.std.specs.Str.{byte}
use Rattle.std.proofs.Common.{◌≡◌, ◌≢◌, ◌↔◌, ◌⊎◌, ℕ, zero, suc, ◌+◌, ◌<◌, ◌≤◌, ◌==◌, ◌&&◌, ◌||◌, true, false, cond, List, [], ◌∷◌, ◌++◌, length, drop, take, map, Option, Some, None, refl, sym, ap, ◌∙◌, subst, append-nil, append_assoc, arith, length-append, true≢false, inl, inr}
use Rattle.std.proofs.lemmas.Bool.{and_parts, cases_Bool, eqb-true}
use Rattle.std.proofs.lemmas.Bool.Decides.{nat_tests}
use Rattle.std.proofs.lemmas.List.{drop_at, length-map, nil_from_length, take_at, take_rest}
use Rattle.mysql_named_params.specs.Bytes.{asterisk, colon, dash, question_mark, begins, is_name_byte, is_start_byte}
use Rattle.mysql_named_params.specs.FirstToken.{IsFirstToken, kind_of}
use Rattle.mysql_named_params.specs.LoweredNames.{lower_names}
use Rattle.mysql_named_params.specs.Reading.{OnWideTokens}
use Rattle.mysql_named_params.specs.Tokens.{Token, AreTokensBefore, IsName, IsToken, IsTokens, bytes_of, text_of, QuotedString, QuotedIdentifier, HashComment, DashComment, BlockComment, Name, Mark, Plain}
use Rattle.mysql_named_params.specs.Lanes.{EachPasses}
use Rattle.mysql_named_params.specs.WideNames.{is_wide_start, widened}
use Rattle.mysql_named_params.specs.WidePlaces.{opens_wide_name, wide_len}
use Rattle.mysql_named_params.specs.declared.tokens.TokenKind.{TokenKind}
use Rattle.mysql_named_params.specs.declared.tokens.TokenKind.TheVariants as kind
use Rattle.mysql_named_params.proofs.FirstPlaceLemmas.{next_token, plain_token}
use Rattle.mysql_named_params.proofs.LoweredLemmas.{lowered_tokens}
use Rattle.mysql_named_params.proofs.TokenEndLemmas.{slice_from}
use Rattle.mysql_named_params.proofs.TokenListLemmas.{some_byte}
use Rattle.mysql_named_params.proofs.TokenRowLemmas.{text_of-append}
use Rattle.mysql_named_params.proofs.TokensExistLemmas.{tokens_exist}
use Rattle.mysql_named_params.proofs.WideLemmas.{text_of-widened}
use Rattle.mysql_named_params.proofs.WidePlaceLemmas.{opened, not_opened}
use Rattle.mysql_portable.specs.Server.{begins_place}
use Rattle.mysql_portable.specs.ByStart.{begins_place_by, front_construct_by, found_in_front_by, is_dash_before_place_by}
use Rattle.mysql_portable.specs.FirstUnportable.{construct_at}
use Rattle.mysql_portable.specs.FirstUnportableInClient.{found_at, first_unportable_in_client, IsPortableInClient}
use Rattle.mysql_portable.specs.FoundInClient.{begins_line, begins_statement, closes_before_joined, drops_line, found_at_byte, found_in_client, found_word, is_joined, letter_of, stand_before_comment}
use Rattle.mysql_portable.specs.FrontInClient.{first_of, found_or_zero, line_after, statement_after}
use Rattle.mysql_portable.specs.NoConstruct.{begins_exponent_sign, begins_no_construct, StandBeforeNoSign}
use Rattle.mysql_portable.specs.NothingInQuotes.{HoldsNothingInQuotes}
use Rattle.mysql_portable.proofs.NothingInQuotesLemmas.{nothing_in_token}
use Rattle.mysql_portable.specs.declared.portable.Construct.{Construct}
use Rattle.mysql_portable.specs.declared.portable.Construct.TheVariants as construct
use Rattle.mysql_portable.specs.declared.portable.Unportable.{Unportable}
use Rattle.mysql_portable.proofs.ByStartLemmas.{SameByStart, ends, same, stop, first, place, stop_byte}
use Rattle.mysql_portable.proofs.ClearLoweredLemmas.{AreLower, before_comment_lower, lower_text, whole_lower, word_lower}
use Rattle.mysql_portable.proofs.ClientWalkLemmas.{AllClear, AllClear-push, bytes_are, first_bytes, found_from, line_is, line_of, line_of-push, none_from, none_is_portable, of_quotes, portable_has_none, statement_is, statement_of, statement_of-push}
use Rattle.mysql_portable.proofs.ClientWordLemmas.{client_word_same}
use Rattle.mysql_portable.proofs.FrontLemmas.{passes, unportable_at}
use Rattle.mysql_portable.proofs.NoConstructClientLemmas.{no_line, no_statement, nothing_at}
use Rattle.mysql_portable.proofs.NoConstructLemmas.{no_construct-not, no_construct_after}
use Rattle.mysql_portable.proofs.WideFrontLemmas.{front_alike, same_by_start, wide_of_start}
use Rattle.mysql_portable.proofs.WideWalkLemmas.{low, lower_other, no_construct_by, opens_none, sign_after}

-- ---- a token

closes_joined : (start : ℕ → Bool) {x y : List ℕ} → SameByStart start x y → closes_before_joined x ≡ closes_before_joined y
closes_joined start ends = refl
closes_joined start (same n m r) = rw (first start r is_joined) refl
closes_joined start (stop {b = b} {x = x} {y = y} s) = stop_byte (λ b. closes_before_joined (b ∷ x) ≡ closes_before_joined (b ∷ y)) b s refl refl refl refl
closes_joined start r = refl

drops_is : (x : List ℕ) → drops_line x ≡ (begins_place x || begins (λ c. c == dash) x)
drops_is [] = refl
drops_is (b ∷ bs) = refl

narrow : (x : List ℕ) → begins_place_by is_wide_start x ≡ false → begins_place x ≡ false
narrow [] h = refl
narrow (b ∷ []) h = h
narrow (b ∷ c ∷ x) h = go (b == question_mark) (b == colon) (is_start_byte c) refl h
  where
    go : (q k s : Bool) → is_start_byte c ≡ s → (q || (k && is_wide_start c)) ≡ false → (q || (k && s)) ≡ false
    go true k s e h = h
    go false false s e h = refl
    go false true false e h = refl
    go false true true e h = absurd (true≢false (sym (wide_of_start c e) ∙ h))

module _ (x y : List ℕ) (r : SameByStart is_wide_start x y) (a : AreLower x y) (s l : Bool) where
  word_alike : (letter : ℕ) → found_word s l letter y ≡ found_word s l letter x
  word_alike letter = rw (word_lower (codes "elimiter") x y a, client_word_same y x (λ word all. whole_lower word x y a) letter) refl

  abbrev Later : Option Construct
  Later = cond (stand_before_comment y) (Some construct.DashesBeforeComment) (found_word s l (letter_of dash) y)

  front_dash : (p q d : Bool) → (p ≡ false → q ≡ false) →
      cond (p && s) (Some construct.DashInFront) (cond (s && (q || d)) (Some construct.DashInFront) Later)
      ≡ cond (s && (p || d)) (Some construct.DashInFront) Later
  front_dash p q d f = go p s f
    where
      go : (p s' : Bool) → (p ≡ false → q ≡ false) →
          cond (p && s') (Some construct.DashInFront) (cond (s' && (q || d)) (Some construct.DashInFront) Later)
          ≡ cond (s' && (p || d)) (Some construct.DashInFront) Later
      go true true f = refl
      go true false f = refl
      go false s' f = rw (f refl) refl

  dash_alike : cond (begins_place_by is_wide_start x && s) (Some construct.DashInFront) (found_at_byte s l dash x) ≡ found_at_byte s l dash y
  dash_alike =
      let before : stand_before_comment x ≡ stand_before_comment y = sym (before_comment_lower x y a) in
      let word : found_word s l (letter_of dash) x ≡ found_word s l (letter_of dash) y = sym (word_alike (letter_of dash)) in
      let later : cond (stand_before_comment x) (Some construct.DashesBeforeComment) (found_word s l (letter_of dash) x) ≡ Later =
      ap (λ b. cond b (Some construct.DashesBeforeComment) (found_word s l (letter_of dash) x)) before
      ∙ ap (λ o. cond (stand_before_comment y) (Some construct.DashesBeforeComment) o) word in
      let drops : drops_line y ≡ (begins_place_by is_wide_start x || begins (λ c. c == dash) x) =
      drops_is y ∙ (ap (λ p. p || begins (λ c. c == dash) y) (sym (place is_wide_start r)) ∙ ap (λ d. begins_place_by is_wide_start x || d) (sym (first is_wide_start r (λ c. c == dash)))) in
      let left : found_at_byte s l dash x ≡ cond (s && (begins_place x || begins (λ c. c == dash) x)) (Some construct.DashInFront) Later =
      ap (λ o. cond (s && drops_line x) (Some construct.DashInFront) o) later ∙ ap (λ d. cond (s && d) (Some construct.DashInFront) Later) (drops_is x) in
      let right : found_at_byte s l dash y ≡ cond (s && (begins_place_by is_wide_start x || begins (λ c. c == dash) x)) (Some construct.DashInFront) Later =
      ap (λ d. cond (s && d) (Some construct.DashInFront) Later) drops in
      ap (λ o. cond (begins_place_by is_wide_start x && s) (Some construct.DashInFront) o) left
      ∙ (front_dash (begins_place_by is_wide_start x) (begins_place x) (begins (λ c. c == dash) x) (narrow x) ∙ sym right)

  byte_alike : (b : ℕ) → (b == dash) ≡ false → found_at_byte s l b x ≡ found_at_byte s l b y
  byte_alike b f =
      let word : found_word s l (letter_of b) x ≡ found_word s l (letter_of b) y = sym (word_alike (letter_of b)) in
      rw (f, first is_wide_start r (λ c. c == byte "N"), closes_joined is_wide_start r)
      (ap (λ o. cond (b == byte "\\" && not (begins (λ c. c == byte "N") y)) (Some construct.ClientCommand) (cond (b == asterisk && closes_before_joined y) (Some construct.JoiningComment) o)) word)

  abbrev Found : Token → Type 0
  Found t =
      cond (is_dash_before_place_by is_wide_start (bytes_of t ++ x) && s) (Some construct.DashInFront) (found_in_client s l t x)
      ≡ found_in_client s l t y

  plain_found : (b : ℕ) → ((b == dash) ≡ true) ⊎ ((b == dash) ≡ false) → Found (Plain b)
  plain_found b (inl e) = subst (λ k. Found (Plain k)) (sym (eqb-true b dash e)) dash_alike
  plain_found b (inr f) =
      let no_dash : is_dash_before_place_by is_wide_start (b ∷ x) ≡ false = rw f refl in
      ap (λ d. cond (d && s) (Some construct.DashInFront) (found_in_client s l (Plain b) x)) no_dash
      ∙ ap (λ o. cond (b == 0 || false) (Some construct.ZeroByte) o) (byte_alike b f)

  found_alike : (mode : Bool) (t : Token) → IsToken mode t x → kind_of t ≢ kind.Name → Found t
  found_alike mode (QuotedString q tail) h k = of_quotes (λ q. Found (QuotedString q tail)) q h.0 refl refl
  found_alike mode (QuotedIdentifier tail) h k = refl
  found_alike mode (HashComment tail) h k = refl
  found_alike mode (DashComment gap tail) h k = refl
  found_alike mode (BlockComment tail) h k = rw (first is_wide_start r is_joined) refl
  found_alike mode (Name bytes) h k = absurd (k refl)
  found_alike mode Mark h k = sym (word_alike question_mark)
  found_alike mode (Plain b) h k = plain_found b (cases_Bool (b == dash))

  -- what is found at the front of the first text is found in the token in the second
  pub client_alike : (mode : Bool) (t : Token) → IsToken mode t x → IsToken mode t y → kind_of t ≢ kind.Name →
      found_in_front_by is_wide_start s l (bytes_of t ++ x) (length (bytes_of t)) ≡ found_at s l t y
  client_alike mode t h g k =
      let e1 : take (length (bytes_of t)) (bytes_of t ++ x) ≡ bytes_of t = take_at (bytes_of t) x _ refl in
      let e2 : drop (length (bytes_of t)) (bytes_of t ++ x) ≡ x = drop_at (bytes_of t) x _ refl in
      let inner : found_or_zero s l (bytes_of t) x ≡ found_in_client s l t x = ap (cond (list_any (λ b. b == 0) (bytes_of t)) (Some construct.ZeroByte)) (bytes_are s l mode t x h) in
      let Then : Option Construct → Option Construct = λ o. cond (is_dash_before_place_by is_wide_start (bytes_of t ++ x) && s) (Some construct.DashInFront) o in
      ap (λ o. first_of o (Then (found_or_zero s l (take (length (bytes_of t)) (bytes_of t ++ x)) (drop (length (bytes_of t)) (bytes_of t ++ x))))) (front_alike mode x y r t h g k)
      ∙ (ap (λ z. first_of (unportable_at t y) (Then (found_or_zero s l z (drop (length (bytes_of t)) (bytes_of t ++ x))))) e1
      ∙ (ap (λ z. first_of (unportable_at t y) (Then (found_or_zero s l (bytes_of t) z))) e2
      ∙ (ap (λ o. first_of (unportable_at t y) (Then o)) inner
      ∙ (ap (first_of (unportable_at t y)) (found_alike mode t h k) ∙ go (passes t y)))))
    where
      go : (p : Bool) → first_of (cond p None (Some (construct_at t y))) (found_in_client s l t y) ≡ cond p (found_in_client s l t y) (Some (construct_at t y))
      go true = refl
      go false = refl

-- ---- the walk

-- nothing is found in the tokens before the rest, with their names in lower case
pub record WideInClient (mode : Bool) (query rest : List ℕ) (s l : Bool) : Type 0 where
  -- the tokens of the grammar, and those of the rest
  pub all : List Token
  pub tokens : IsTokens mode query all
  pub back : List Token
  pub each : AreTokensBefore mode [] back
  pub back_text : text_of back ≡ rest
  -- those that are walked over
  pub front : List Token
  pub split : low all ≡ front ++ low back
  pub clear : AllClear true true (text_of (low back)) front
  pub statement : statement_of true front ≡ s
  pub line : line_of true front ≡ l
  pub front_len : length (text_of front) + length rest ≡ length query

pub wide_client_none : (mode : Bool) (query : List ℕ) → WideInClient mode query query true true
wide_client_none mode query =
    let o = tokens_exist mode query in
    record {
      all = o.0;
      tokens = o.1;
      back = o.0;
      each = o.1.each;
      back_text = o.1.text;
      front = [];
      split = refl;
      clear = tt;
      statement = refl;
      line = refl;
      front_len = omega arith;
    }

-- one token more, which is in front of the rest in lower case
more : (mode : Bool) (query rest after : List ℕ) (s l : Bool) (w : WideInClient mode query rest s l) (t : Token) (left : List Token) →
    low w.back ≡ t ∷ low left → AreTokensBefore mode [] left → text_of left ≡ after →
    length (bytes_of t) + length after ≡ length rest → found_at s l t (text_of (low left)) ≡ None →
    WideInClient mode query after (begins_statement s t) (begins_line l t)
more mode query rest after s l w t left is each text len none = record {
  all = w.all;
  tokens = w.tokens;
  back = left;
  each = each;
  back_text = text;
  front = w.front ++ t ∷ [];
  split = w.split ∙ (ap (λ x. w.front ++ x) is ∙ sym (append_assoc w.front (t ∷ []) (low left)));
  clear = AllClear-push w.front t (text_of (low left)) true true (subst (λ us. AllClear true true (text_of us) w.front) is w.clear)
      (subst (λ x. found_at x (line_of true w.front) t (text_of (low left)) ≡ None) (sym w.statement) (subst (λ x. found_at s x t (text_of (low left)) ≡ None) (sym w.line) none));
  statement = statement_of-push w.front t true ∙ ap (λ x. begins_statement x t) w.statement;
  line = line_of-push w.front t true ∙ ap (λ x. begins_line x t) w.line;
  front_len = omega (arith, w.front_len, len, ap length (text_of-append w.front (t ∷ [])), length-append (text_of w.front) (text_of (t ∷ [])), ap length (append-nil (bytes_of t)));
}

-- the two texts after some tokens
lower_after : (ts : List Token) → AreLower (text_of ts) (text_of (low ts))
lower_after ts = subst (λ x. AreLower x (text_of (low ts))) (text_of-widened ts) (lower_text (widened ts))

-- a token of the grammar in front of the rest that opens no wide name
module _ (mode : Bool) (query rest : List ℕ) (k : TokenKind) (n : ℕ) (s l : Bool) (w : WideInClient mode query rest s l) (f : IsFirstToken mode rest k n) (closed : opens_wide_name rest ≡ false) where
  record Next : Type 0 where
    left : List Token
    text : text_of left ≡ drop n rest
    each : AreTokensBefore mode [] left
    low_is : low w.back ≡ f.token ∷ low left
    found_is : found_in_front_by is_wide_start s l rest n ≡ found_at s l f.token (text_of (low left))
    len : length (bytes_of f.token) + length (drop n rest) ≡ length rest

  next : Next
  next =
      let t = next_token mode w.back rest k n w.each w.back_text f in
      let each : AreTokensBefore mode [] (f.token ∷ t.0) = subst (AreTokensBefore mode []) t.1 w.each in
      let shut : opens_wide_name (text_of (f.token ∷ t.0)) ≡ false = ap opens_wide_name (ap text_of (sym t.1) ∙ w.back_text) ∙ closed in
      let as_it_is = not_opened mode f.token t.0 each shut in
      let low_is : low (f.token ∷ t.0) ≡ f.token ∷ low t.0 = ap lower_names as_it_is.0 ∙ lower_other f.token (widened t.0) as_it_is.1 in
      let all = lowered_tokens mode (text_of (f.token ∷ t.0)) (f.token ∷ t.0) (record { text = refl; each = each }) in
      let token : IsToken mode f.token (text_of (low t.0)) = (subst (AreTokensBefore mode []) low_is all.each).0 in
      let alike : found_in_front_by is_wide_start s l (bytes_of f.token ++ text_of t.0) (length (bytes_of f.token)) ≡ found_at s l f.token (text_of (low t.0)) =
      client_alike (text_of t.0) (text_of (low t.0)) (same_by_start mode t.0 each.1) (lower_after t.0) s l mode f.token each.0 token as_it_is.1 in
      let bytes : bytes_of f.token ++ text_of t.0 ≡ rest = ap (λ x. bytes_of f.token ++ x) t.2 ∙ f.bytes in
      record {
        left = t.0;
        text = t.2;
        each = each.1;
        low_is = ap low t.1 ∙ low_is;
        found_is = subst (λ x. found_in_front_by is_wide_start s l x n ≡ found_at s l f.token (text_of (low t.0))) bytes
            (subst (λ m. found_in_front_by is_wide_start s l (bytes_of f.token ++ text_of t.0) m ≡ found_at s l f.token (text_of (low t.0))) f.len_is alike);
        len = sym (length-append (bytes_of f.token) (drop n rest)) ∙ ap length f.bytes;
      }

  pub wide_client_more : (s' l' : Bool) → found_in_front_by is_wide_start s l rest n ≡ None →
      statement_after s (take n rest) ≡ s' → line_after l (take n rest) ≡ l' → WideInClient mode query (slice_from n rest) s' l'
  wide_client_more s' l' none es el =
      let x = next in
      let bytes : take n rest ≡ bytes_of f.token = first_bytes mode rest k n f in
      let s_is : begins_statement s f.token ≡ s' = sym (statement_is s mode f.token (drop n rest) f.holds) ∙ (ap (statement_after s) (sym bytes) ∙ es) in
      let l_is : begins_line l f.token ≡ l' = sym (line_is l mode f.token (drop n rest) f.holds) ∙ (ap (line_after l) (sym bytes) ∙ el) in
      let step = more mode query rest (drop n rest) s l w f.token x.left x.low_is x.each x.text x.len (sym x.found_is ∙ none) in
      rw take_rest (subst (λ b. WideInClient mode query (drop n rest) b l') s_is (subst (λ b. WideInClient mode query (drop n rest) (begins_statement s f.token) b) l_is step))

  pub wide_client_found : (c : Construct) (position : ℕ) → found_in_front_by is_wide_start s l rest n ≡ Some c →
      position + length rest ≡ length query →
      OnWideTokens mode query (λ ts. ◌≡◌ {A = Option Unportable} (Some (record { construct = c; at = position })) (first_unportable_in_client (lower_names ts)))
  wide_client_found c position some e =
      let x = next in
      let found : found_at s l f.token (text_of (low x.left)) ≡ Some c = sym x.found_is ∙ some in
      let here : found_at (statement_of true w.front) (line_of true w.front) f.token (text_of (low x.left)) ≡ Some c =
      subst (λ b. found_at b (line_of true w.front) f.token (text_of (low x.left)) ≡ Some c) (sym w.statement) (subst (λ b. found_at s b f.token (text_of (low x.left)) ≡ Some c) (sym w.line) found) in
      let place : 0 + length (text_of w.front) ≡ position = omega (arith, w.front_len, e) in
      let split : low w.all ≡ w.front ++ f.token ∷ low x.left = w.split ∙ ap (λ us. w.front ++ us) x.low_is in
      let clear : AllClear true true (text_of (f.token ∷ low x.left)) w.front = subst (λ us. AllClear true true (text_of us) w.front) x.low_is w.clear in (
        widened w.all,
        (w.all, w.tokens, refl),
        sym (ap first_unportable_in_client split ∙ found_from w.front (low x.left) f.token 0 position true true c clear here place),
      )

-- a wide name in front of the rest

start_no_zero : (b : ℕ) → is_start_byte b ≡ true → (b == 0) ≡ false
start_no_zero b h = grind (arith, nat_tests)

byte_no_zero : (b : ℕ) → is_name_byte b ≡ true → (b == 0) ≡ false
byte_no_zero b h = grind (arith, nat_tests)

bytes_no_zero : (bs : List ℕ) → list_all is_name_byte bs ≡ true → list_any (λ b. b == 0) bs ≡ false
bytes_no_zero [] h = refl
bytes_no_zero (b ∷ bs) h =
    let p = and_parts (is_name_byte b) (list_all is_name_byte bs) h in
    rw (byte_no_zero b p.0) (bytes_no_zero bs p.1)

nothing_in_name : (s l : Bool) (bytes rest : List ℕ) → IsName bytes → found_at s l (Name bytes) rest ≡ None
nothing_in_name s l [] rest h = absurd h
nothing_in_name s l (b ∷ bs) rest h = rw (start_no_zero b h.0, bytes_no_zero bs h.1) refl

pub wide_client_name : (mode : Bool) (query rest : List ℕ) (n : ℕ) (s l : Bool) → WideInClient mode query rest s l →
    opens_wide_name rest ≡ true → n ≡ 1 + wide_len (slice_from 1 rest) → WideInClient mode query (slice_from n rest) false false
wide_client_name mode query rest n s l w o n_is =
    let x = opened mode w.back w.each (ap opens_wide_name w.back_text ∙ o) in
    let len : length (bytes_of (Name x.name)) ≡ n = x.len ∙ (ap (λ r. 1 + wide_len (drop 1 r)) w.back_text ∙ (ap (λ r. 1 + wide_len r) (sym (take_rest rest 1)) ∙ sym n_is)) in
    let bytes : bytes_of (Name x.name) ++ text_of x.left ≡ rest = x.text ∙ w.back_text in
    let text : text_of x.left ≡ drop n rest = sym (ap (drop n) (sym bytes) ∙ drop_at (bytes_of (Name x.name)) (text_of x.left) n len) in
    let lower : List ℕ = map to_ascii_lowercase x.name in
    let low_is : low w.back ≡ Name lower ∷ low x.left = ap lower_names x.wide in
    let all = lowered_tokens mode (text_of w.back) w.back (record { text = refl; each = w.each }) in
    let token : IsToken mode (Name lower) (text_of (low x.left)) = (subst (AreTokensBefore mode []) low_is all.each).0 in
    let size : length (bytes_of (Name lower)) + length (drop n rest) ≡ length rest =
    omega (arith, length-map x.name to_ascii_lowercase, ap length bytes, length-append (bytes_of (Name x.name)) (text_of x.left), ap length text) in
    rw take_rest (more mode query rest (drop n rest) s l w (Name lower) x.left low_is x.each text size (nothing_in_name s l lower (text_of (low x.left)) token.0))

-- ---- a run of bytes that begin no construct

nothing_by : (b : ℕ) (bs : List ℕ) → begins_no_construct b ≡ true → begins_exponent_sign bs ≡ false →
    found_in_front_by is_wide_start false false (b ∷ bs) 1 ≡ None
nothing_by b bs p x =
    let no_dash : is_dash_before_place_by is_wide_start (b ∷ bs) ≡ false = rw (no_construct-not b p dash refl) refl in
    ap (λ o. first_of o (cond (is_dash_before_place_by is_wide_start (b ∷ bs) && false) (Some construct.DashInFront) (found_or_zero false false (b ∷ []) bs))) (no_construct_by b bs p x)
    ∙ (ap (λ d. cond (d && false) (Some construct.DashInFront) (found_or_zero false false (b ∷ []) bs)) no_dash ∙ nothing_at b bs p)

client_run : (mode : Bool) (query : List ℕ) (n : ℕ) (rest : List ℕ) → WideInClient mode query rest false false →
    n ≤ length rest → EachPasses begins_no_construct rest 0 n → StandBeforeNoSign rest n →
    WideInClient mode query (drop n rest) false false
client_run mode query zero rest w le no_construct apart = w
client_run mode query (suc n) [] w le no_construct apart = absurd (omega arith)
client_run mode query (suc n) (b ∷ bs) w le no_construct apart =
    let here : begins_no_construct b ≡ true = no_construct 0 (omega arith) (omega arith) in
    let token = plain_token mode b bs (and_parts _ _ here).0 in
    let none = nothing_by b bs here (apart 0 (omega arith)) in
    let step = wide_client_more mode query (b ∷ bs) kind.Other 1 false false w token (opens_none b bs here) false false none (no_statement b here) (no_line b here) in
    client_run mode query n bs (subst (λ x. WideInClient mode query x false false) (take_rest (b ∷ bs) 1) step) (omega arith) (no_construct_after b bs n no_construct) (sign_after b bs n apart)

-- a run of no bytes, or one where nothing may begin
pub wide_client_run : (mode : Bool) (query rest : List ℕ) (n : ℕ) (s l : Bool) → WideInClient mode query rest s l →
    n ≤ length rest → EachPasses begins_no_construct rest 0 n → StandBeforeNoSign rest n →
    (0 < n → (s ≡ false) × (l ≡ false)) → WideInClient mode query (slice_from n rest) s l
wide_client_run mode query rest zero s l w le no_construct apart flags = rw take_rest w
wide_client_run mode query rest (suc n) s l w le no_construct apart flags =
    let f = flags (omega arith) in
    let start : WideInClient mode query rest false false = subst (λ x. WideInClient mode query rest x false) f.0 (subst (λ x. WideInClient mode query rest s x) f.1 w) in
    let end = client_run mode query (suc n) rest start le no_construct apart in
    rw take_rest (subst (λ x. WideInClient mode query (drop (suc n) rest) x l) (sym f.0) (subst (λ x. WideInClient mode query (drop (suc n) rest) false x) (sym f.1) end))

-- ---- at the end

pub wide_client_whole : (mode : Bool) (query rest : List ℕ) (s l : Bool) → length rest ≡ 0 → WideInClient mode query rest s l →
    OnWideTokens mode query (λ ts. None ≡ first_unportable_in_client (lower_names ts))
wide_client_whole mode query rest s l e w =
    let none : w.back ≡ [] = no_tokens w.back (w.back_text ∙ nil_from_length rest e) in
    let split : low w.all ≡ w.front = w.split ∙ (ap (λ us. w.front ++ low us) none ∙ append-nil w.front) in
    let clear : AllClear true true [] w.front = subst (λ us. AllClear true true (text_of (low us)) w.front) none w.clear in
    (widened w.all, (w.all, w.tokens, refl), sym (ap first_unportable_in_client split ∙ none_from w.front 0 true true clear))
  where
    no_tokens : (ts : List Token) → text_of ts ≡ [] → ts ≡ []
    no_tokens [] e = refl
    no_tokens (t ∷ ts) e = absurd (some_byte t (text_of ts) e)

pub none_in_client_wide : (mode : Bool) (query : List ℕ) (found : Option Unportable) →
    OnWideTokens mode query (λ ts. found ≡ first_unportable_in_client (lower_names ts)) →
    OnWideTokens mode query (λ ts. (found ≡ None) ↔ IsPortableInClient (lower_names ts))
none_in_client_wide mode query found o =
    (o.0, o.1, (λ e. none_is_portable (lower_names o.0) (sym o.2 ∙ e), λ p. o.2 ∙ portable_has_none (lower_names o.0) p))

-- ---- a text in quotes in which nothing begins

pub nothing_in_quotes_by : (s l : Bool) (text : List ℕ) (len : ℕ) → len ≤ length text → front_construct_by is_wide_start text len ≡ None →
    (is_dash_before_place_by is_wide_start text && s) ≡ false → HoldsNothingInQuotes text len →
    None ≡ found_in_front_by is_wide_start s l text len
nothing_in_quotes_by s l text len le none dash nothing =
    let Then : Option Construct → Option Construct = λ o. first_of o (cond (is_dash_before_place_by is_wide_start text && s) (Some construct.DashInFront) (found_or_zero s l (take len text) (drop len text))) in
    sym (ap Then none ∙ (ap (λ d. cond d (Some construct.DashInFront) (found_or_zero s l (take len text) (drop len text))) dash
    ∙ nothing_in_token s l text len (drop len text) le nothing))
