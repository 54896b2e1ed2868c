-- The walk of `first_unbracketed` from place to place, and over the tokens between.
use Rattle.std.specs.Prelude.{Bool}
use Rattle.std.proofs.Common.{◌≡◌, inl, inr, ℕ, ◌+◌, ◌<◌, ◌≤◌, true, false, List, [], ◌∷◌, ◌++◌, length, drop, if◌then◌else◌, Some, None, refl, sym, ap, ◌∙◌, subst, arith, length-drop, length-append, drop_at, append-nil, true≢false}
use Rattle.std.proofs.lemmas.List.{drop-drop}
use Rattle.std.proofs.lemmas.Bool.{cases_Bool}
use Rattle.mysql_named_params.specs.Bytes.{is_white_space}
use Rattle.mysql_named_params.specs.FirstToken.{IsFirstToken}
use Rattle.mysql_named_params.specs.FirstPlace.{place_kind, IsFirstPlace}
use Rattle.mysql_named_params.specs.Places.{place_count}
use Rattle.mysql_named_params.specs.Reading.{IsTokensIn, IsTokensWith, OnTokensIn}
use Rattle.mysql_named_params.specs.Tokens.{Token, OnTokens, AreTokensBefore, bytes_of, text_of, HashComment, DashComment, BlockComment, Name, Mark, Plain}
use Rattle.mysql_named_params.specs.WideNames.{run, widened, widened_from}
use Rattle.mysql_named_params.specs.declared.places.FoundPlace.{FoundPlace}
use Rattle.mysql_named_params.specs.declared.places.PlaceKind.{PlaceKind}
use Rattle.mysql_named_params.specs.declared.places.Reading.{Reading}
use Rattle.mysql_named_params.specs.declared.tokens.TokenKind.{TokenKind}
use Rattle.mysql_named_params.proofs.CutLemmas.{first_within, token_length}
use Rattle.mysql_named_params.proofs.ReadingLemmas.{read_with, tokens_read, own_tokens, one_reading, reading_exists, reading_text, tokens_after_others, tokens_after_first}
use Rattle.mysql_named_params.proofs.TokenRowLemmas.{text_of-append, place_count-append}
use Rattle.mysql_named_params.proofs.WideLemmas.{goes_on, opens as opens_wide, stays, plain_case}
use Rattle.mysql_fragments.specs.Brackets.{Kinds, closes, may_execute, may_stand, first_unbracketed, first_unbracketed_from, onto}
use Rattle.mysql_fragments.specs.BracketWalk.{past_first, past_sign, past_token, past_tokens, may_stand_seen}
use Rattle.mysql_fragments.specs.declared.brackets.Implicit.{Implicit}
use Rattle.mysql_fragments.specs.declared.brackets.Seen.{Seen}
use Rattle.mysql_fragments.proofs.BracketLemmas.{Agrees, agrees_none, agrees_token, token_seen, may_stand_agrees}
use Rattle.mysql_fragments.proofs.BracketClosesLemmas.{next_token}

-- ---- wide names

closes_plain : (b : ℕ) (ts us : List Token) → closes ts ≡ closes us →
    closes (Plain b ∷ ts) ≡ closes (Plain b ∷ us)
closes_plain b ts us e = elim (cases_Bool (is_white_space b)) [
  | inl w ↦ rw w e
  | inr w ↦ rw w refl
]

closes_widened : (ts : List Token) → closes (widened ts) ≡ closes ts
closes_widened [] = refl
closes_widened (Plain b ∷ ts) = elim (plain_case false b ts) [
  | goes_on i w e ↦ absurd (true≢false (sym i))
  | opens_wide c w e ↦ ap closes e ∙ sym (ap (λ x. closes (Plain x ∷ ts)) c)
  | stays i c e ↦ ap closes e ∙ closes_plain b (widened ts) ts (closes_widened ts)
]
closes_widened (HashComment tail ∷ ts) = closes_widened ts
closes_widened (DashComment gap tail ∷ ts) = closes_widened ts
closes_widened (BlockComment tail ∷ ts) = elim (cases_Bool (may_execute tail)) [
  | inl e ↦ rw e refl
  | inr e ↦ rw e (closes_widened ts)
]
closes_widened (t ∷ ts) = refl

closes_read : (wide : Bool) (ts : List Token) → closes (read_with wide ts) ≡ closes ts
closes_read false ts = refl
closes_read true ts = closes_widened ts

pub closes_in_reading : (reading : Reading) (text : List ℕ) (r : Bool) →
    OnTokens reading.no_backslash_escape text (λ ts. r ≡ closes ts) →
    OnTokensIn reading text (λ ts. r ≡ closes ts)
closes_in_reading reading text r o =
    (read_with reading.wide_names o.0, tokens_read reading.wide_names reading.no_backslash_escape text o.0 o.1, o.2 ∙ sym (closes_read reading.wide_names o.0))

-- what holds whatever the tokens are
pub on_any : (reading : Reading) (text : List ℕ) (P : List Token → Type 0) →
    ((ts : List Token) → P ts) → OnTokensIn reading text P
on_any reading text P h =
    let o = reading_exists reading text in
    (o.0, o.1, h o.0)

-- ---- the tokens before a place

no_name : (t : Token) (name : List ℕ) → place_count (t ∷ []) ≡ 0 → t ≡ Name name → ⊥
no_name t name n e =
    let one : 1 ≡ 0 = sym (ap (λ x. place_count (x ∷ [])) e) ∙ n in
    omega (arith, one)

-- a token that is no place is read as it is
unread : (wide : Bool) (u : Token) (own : List Token) (t : Token) (more : List Token) →
    read_with wide (u ∷ own) ≡ t ∷ more → place_count (t ∷ []) ≡ 0 →
    (u ≡ t) × (read_with wide own ≡ more)
unread false u own t more e n =
    let first : u ≡ t = cc in
    let rest : own ≡ more = cc in
    (first, rest)
unread true (Plain b) own t more e n = elim (plain_case false b own) [
  | goes_on i w f ↦ absurd (true≢false (sym i))
  | opens_wide c w f ↦
      let both : Name (run own) ∷ widened_from true own ≡ t ∷ more = sym f ∙ e in
      let first : Name (run own) ≡ t = cc in
      absurd (no_name t (run own) n (sym first))
  | stays i c f ↦
      let both : Plain b ∷ widened own ≡ t ∷ more = sym f ∙ e in
      let first : Plain b ≡ t = cc in
      let rest : widened own ≡ more = cc in
      (first, rest)
]
unread true (Name name) own t more e n =
    let first : Name (name ++ run own) ≡ t = cc in
    absurd (no_name t (name ++ run own) n (sym first))
unread true u own t more e n =
    let first : u ≡ t = cc in
    let rest : widened own ≡ more = cc in
    (first, rest)

-- the tokens from the index up to the place are left
pub record InFront (reading : Reading) (text : List ℕ) (found : FoundPlace) (seen now : Seen) (at : ℕ) : Type 0 where
  pub all : List Token
  pub tokens : IsTokensIn reading text all
  pub first : IsFirstPlace all found
  pub left : List Token
  pub no_place : place_count left ≡ 0
  pub left_len : at + length (text_of left) ≡ found.before
  -- the tokens of the grammar from the index on
  pub own : List Token
  pub each : AreTokensBefore reading.no_backslash_escape [] own
  pub own_text : text_of own ≡ drop at text
  pub read : read_with reading.wide_names own ≡ left ++ first.place ∷ first.back
  pub same : past_tokens now left ≡ past_tokens seen first.front
  pub in_range : at ≤ length text

pub in_front_start : (reading : Reading) (text : List ℕ) (found : FoundPlace) (seen : Seen) →
    OnTokensIn reading text (λ ts. IsFirstPlace ts found) → InFront reading text found seen seen 0
in_front_start reading text found seen o =
    let a = own_tokens reading.wide_names reading.no_backslash_escape text o.0 o.1 in
    record {
      all = o.0;
      tokens = o.1;
      first = o.2;
      left = o.2.front;
      no_place = o.2.is_first;
      left_len = omega (arith, o.2.before_is);
      own = a.0;
      each = a.1.each;
      own_text = a.1.text;
      read = sym a.2 ∙ sym o.2.split;
      same = refl;
      in_range = omega arith;
    }

module _ (reading : Reading) (text : List ℕ) (found : FoundPlace) (seen now : Seen) (at : ℕ) (w : InFront reading text found seen now at) where
  pub in_front_end : found.before ≤ at →
      OnTokensIn reading text (λ ts. (first : IsFirstPlace ts found) × (now ≡ past_tokens seen first.front))
  in_front_end le =
      let none : w.left ≡ [] = no_tokens w.left (omega (arith, w.left_len, le)) in
      (w.all, w.tokens, (w.first, sym (ap (past_tokens now) none) ∙ w.same))
    where
      no_tokens : (ts : List Token) → length (text_of ts) ≡ 0 → ts ≡ []
      no_tokens [] e = refl
      no_tokens (t ∷ ts) e = absurd (omega (arith, e, length-append (bytes_of t) (text_of ts), token_length t))

  some_left : (ts : List Token) → at + length (text_of ts) ≡ found.before → at < found.before →
      (t : Token) × (more : List Token) × (ts ≡ t ∷ more)
  some_left [] e lt = absurd (omega (arith, e, lt))
  some_left (t ∷ ts) e lt = (t, ts, refl)

  module _ (rest : List ℕ) (rest_is : rest ≡ drop at text) (k : TokenKind) (n : ℕ) (f : IsFirstToken reading.no_backslash_escape rest k n) where
    pub in_front_more : (after : Seen) → at < found.before → after ≡ past_first now rest n →
        InFront reading text found seen after (at + n)
    in_front_more after lt after_is =
        let mode = reading.no_backslash_escape in
        let wide = reading.wide_names in
        let x = next_token mode w.own rest k n w.each f (w.own_text ∙ sym rest_is) in
        let l = some_left w.left w.left_len lt in
        let split_count : place_count (l.0 ∷ []) + place_count l.1 ≡ 0 = sym (place_count-append (l.0 ∷ []) l.1) ∙ (sym (ap place_count l.2) ∙ w.no_place) in
        let read : read_with wide (f.token ∷ x.0) ≡ l.0 ∷ (l.1 ++ w.first.place ∷ w.first.back) = sym (ap (read_with wide) x.1) ∙ (w.read ∙ ap (λ y. y ++ w.first.place ∷ w.first.back) l.2) in
        let u = unread wide f.token x.0 l.0 (l.1 ++ w.first.place ∷ w.first.back) read (omega (arith, split_count)) in
        let each = subst (AreTokensBefore mode []) x.1 w.each in
        let len : length (bytes_of l.0) ≡ n = sym (ap (λ t. length (bytes_of t)) u.0) ∙ f.len_is in
        let by_token : past_first now rest n ≡ past_token now f.token = ap (λ x. past_first now x n) (sym f.bytes) ∙ (ap (past_first now (bytes_of f.token ++ drop n rest)) (sym f.len_is) ∙ token_seen mode now f.token (drop n rest) f.holds) in
        let after_token : after ≡ past_token now l.0 = after_is ∙ (by_token ∙ ap (past_token now) u.0) in
        record {
          all = w.all;
          tokens = w.tokens;
          first = w.first;
          left = l.1;
          no_place = omega (arith, split_count);
          left_len = omega (arith, w.left_len, ap (λ y. length (text_of y)) l.2, length-append (bytes_of l.0) (text_of l.1), len);
          own = x.0;
          each = each.1;
          own_text = x.2 ∙ (ap (drop n) rest_is ∙ drop-drop n at text);
          read = u.1;
          same = ap (λ s. past_tokens s l.1) after_token ∙ (sym (ap (past_tokens now) l.2) ∙ w.same);
          in_range = omega (arith, first_within mode rest k n f, ap length rest_is, length-drop at text, w.in_range);
        }

-- ---- from place to place

agrees_tokens : (ts : List Token) (seen : Seen) (before : List Token) → Agrees seen before →
    Agrees (past_tokens seen ts) (onto ts before)
agrees_tokens [] seen before a = a
agrees_tokens (t ∷ ts) seen before a = agrees_tokens ts (past_token seen t) (t ∷ before) (agrees_token seen t before a)

agrees_place : (t : Token) (k : PlaceKind) (before : List Token) → place_kind t ≡ Some k →
    Agrees (past_sign false false false) (t ∷ before)
agrees_place (Name name) k before e = record { opened = refl; closed = refl; row_sign = refl; ended = refl; word_after_close = refl; word_begins_row = refl; in_letters = refl; row_letters = refl; values_letters = refl }
agrees_place Mark k before e = record { opened = refl; closed = refl; row_sign = refl; ended = refl; word_after_close = refl; word_begins_row = refl; in_letters = refl; row_letters = refl; values_letters = refl }
agrees_place t k before e = cc

module _ (kinds : Kinds) where
  past_front : (front ts : List Token) (place at : ℕ) (before : List Token) →
      place_count front ≡ 0 →
      first_unbracketed_from kinds place at before (front ++ ts) ≡ first_unbracketed_from kinds place (at + length (text_of front)) (onto front before) ts
  past_front [] ts place at before e = ap (λ n. first_unbracketed_from kinds place n before ts) same
    where
      same : at ≡ at + 0
      same = omega arith
  past_front (Name name ∷ front) ts place at before e = absurd (omega arith)
  past_front (Mark ∷ front) ts place at before e = absurd (omega arith)
  past_front (t ∷ front) ts place at before e = past_front front ts place (at + length (bytes_of t)) (t ∷ before) e ∙ ap (λ n. first_unbracketed_from kinds place n (onto front (t ∷ before)) ts) same
    where
      same : at + length (bytes_of t) + length (text_of front) ≡ at + length (bytes_of t ++ text_of front)
      same = omega (arith, length-append (bytes_of t) (text_of front))

  at_place : (t : Token) (k : PlaceKind) (ts : List Token) (place at : ℕ) (before : List Token) →
      place_kind t ≡ Some k →
      first_unbracketed_from kinds place at before (t ∷ ts) ≡ (if may_stand (kinds place) before ts then first_unbracketed_from kinds (place + 1) (at + length (bytes_of t)) (t ∷ before) ts else Some (place, at))
  at_place (Name name) k ts place at before e = refl
  at_place Mark k ts place at before e = refl
  at_place t k ts place at before e = cc

  -- the places before the index may have their fragments
  pub record WalkedSoFar (reading : Reading) (query : List ℕ) (seen : Seen) (place at : ℕ) : Type 0 where
    pub all : List Token
    pub tokens : IsTokensIn reading query all
    pub left : List Token
    pub rest_tokens : IsTokensIn reading (drop at query) left
    pub before : List Token
    pub agrees : Agrees seen before
    pub finds : first_unbracketed_from kinds place at before left ≡ first_unbracketed kinds all
    -- each place has a byte
    pub room : place ≤ at
    pub in_range : at ≤ length query

  pub walked_none : (reading : Reading) (query : List ℕ) → WalkedSoFar reading query (past_sign false false false) 0 0
  walked_none reading query =
      let ts = reading_exists reading query in
      record { all = ts.0; tokens = ts.1; left = ts.0; rest_tokens = ts.1; before = []; agrees = agrees_none; finds = refl; room = omega arith; in_range = omega arith }

  module _ (reading : Reading) (query rest : List ℕ) (seen : Seen) (place at : ℕ) (w : WalkedSoFar reading query seen place at) (rest_is : rest ≡ drop at query) where
    left_is : (ts : List Token) → IsTokensIn reading rest ts → ts ≡ w.left
    left_is ts is = one_reading reading rest ts w.left is (subst (λ x. IsTokensIn reading x w.left) (sym rest_is) w.rest_tokens)

    pub walked_all : OnTokensIn reading rest (λ us. place_count us ≡ 0) →
        OnTokensIn reading query (λ ts. None ≡ first_unbracketed kinds ts)
    walked_all o =
        let none : place_count w.left ≡ 0 = sym (ap place_count (left_is o.0 o.1)) ∙ o.2 in
        let walked : first_unbracketed_from kinds place at w.before w.left ≡ None = ap (first_unbracketed_from kinds place at w.before) (sym (append-nil w.left)) ∙ past_front w.left [] place at w.before none in
        (w.all, w.tokens, sym walked ∙ w.finds)

    module _ (found : FoundPlace) (now : Seen) (o : OnTokensIn reading rest (λ ts. (first : IsFirstPlace ts found) × (now ≡ past_tokens seen first.front))) where
      abbrev start : ℕ
      start = at + found.before

      abbrev end : ℕ
      end = start + found.len

      p : IsFirstPlace o.0 found
      p = o.2.0

      record Parted : Type 0 where
        front : List Token
        t : Token
        back : List Token
        tokens_are : w.left ≡ front ++ t ∷ back
        no_place : place_count front ≡ 0
        kind_is : place_kind t ≡ Some found.kind
        front_len : length (text_of front) ≡ found.before
        place_len : length (bytes_of t) ≡ found.len
        now_is : now ≡ past_tokens seen front
        back_tokens : IsTokensIn reading (drop end query) back
        end_in_range : end ≤ length query

      parted : Parted
      parted =
          let mode = reading.no_backslash_escape in
          let wide = reading.wide_names in
          let q = o.2.0 in
          let tokens_are : w.left ≡ q.front ++ q.place ∷ q.back = sym (left_is o.0 o.1) ∙ sym q.split in
          let whole : drop at query ≡ text_of q.front ++ (bytes_of q.place ++ text_of q.back) = sym (reading_text reading _ w.left w.rest_tokens) ∙ (ap text_of tokens_are ∙ text_of-append q.front (q.place ∷ q.back)) in
          let from_place : drop start query ≡ bytes_of q.place ++ text_of q.back = sym (drop-drop found.before at query) ∙ (ap (drop found.before) whole ∙ drop_at (text_of q.front) _ found.before q.before_is) in
          let from_place_tokens : IsTokensWith wide mode (text_of (q.place ∷ q.back)) (q.place ∷ q.back) = tokens_after_others wide mode (drop at query) q.front (q.place ∷ q.back) q.is_first (subst (IsTokensWith wide mode (drop at query)) tokens_are w.rest_tokens) in
          let from_back : drop end query ≡ text_of q.back = sym (drop-drop found.len start query) ∙ (ap (drop found.len) from_place ∙ drop_at (bytes_of q.place) _ found.len q.len_is) in
          record {
            front = q.front;
            t = q.place;
            back = q.back;
            tokens_are = tokens_are;
            no_place = q.is_first;
            kind_is = q.kind_is;
            front_len = q.before_is;
            place_len = q.len_is;
            now_is = o.2.1;
            back_tokens = subst (λ x. IsTokensWith wide mode x q.back) (sym from_back) (tokens_after_first wide mode _ q.place q.back from_place_tokens);
            end_in_range = omega (arith, ap length whole, length-append (text_of q.front) (bytes_of q.place ++ text_of q.back), length-append (bytes_of q.place) (text_of q.back), q.before_is, q.len_is, length-drop at query, w.in_range);
          }

      before_place : Parted → List Token
      before_place x = onto x.front w.before

      module _ (after : List ℕ) (after_is : after ≡ drop end query) (kind : Implicit) (kind_is : kind ≡ kinds place) (r : Bool) (m : OnTokensIn reading after (λ ts. r ≡ may_stand_seen kind now ts)) where
        -- what is found from the place on
        from_place_on : (x : Parted) →
            first_unbracketed kinds w.all ≡ (if r then first_unbracketed_from kinds (place + 1) end (x.t ∷ onto x.front w.before) x.back else Some (place, start))
        from_place_on x =
            let agrees : Agrees now (onto x.front w.before) = subst (λ s. Agrees s (onto x.front w.before)) (sym x.now_is) (agrees_tokens x.front seen w.before w.agrees) in
            let back_is : m.0 ≡ x.back = one_reading reading after m.0 x.back m.1 (subst (λ y. IsTokensIn reading y x.back) (sym after_is) x.back_tokens) in
            let may : may_stand (kinds place) (onto x.front w.before) x.back ≡ r = sym (m.2 ∙ (ap (may_stand_seen kind now) back_is ∙ (may_stand_agrees kind now (onto x.front w.before) x.back agrees ∙ ap (λ k. may_stand k (onto x.front w.before) x.back) kind_is))) in
            sym w.finds
            ∙ (ap (first_unbracketed_from kinds place at w.before) x.tokens_are
            ∙ (past_front x.front (x.t ∷ x.back) place at w.before x.no_place
            ∙ (ap (λ n. first_unbracketed_from kinds place (at + n) (onto x.front w.before) (x.t ∷ x.back)) x.front_len
            ∙ (at_place x.t found.kind x.back place start (onto x.front w.before) x.kind_is
            ∙ (ap (λ b. if b then first_unbracketed_from kinds (place + 1) (start + length (bytes_of x.t)) (x.t ∷ onto x.front w.before) x.back else Some (place, start)) may
            ∙ ap (λ n. if r then first_unbracketed_from kinds (place + 1) (start + n) (x.t ∷ onto x.front w.before) x.back else Some (place, start)) x.place_len)))))

        pub walked_stop : r ≡ false → OnTokensIn reading query (λ ts. Some (place, start) ≡ first_unbracketed kinds ts)
        walked_stop not_so =
            let x = parted in
            (w.all, w.tokens, sym (from_place_on x ∙ ap (λ b. if b then first_unbracketed_from kinds (place + 1) end (x.t ∷ onto x.front w.before) x.back else Some (place, start)) not_so))

        pub walked_more : r ≡ true → WalkedSoFar reading query (past_sign false false false) (place + 1) end
        walked_more so =
            let x = parted in
            record {
              all = w.all;
              tokens = w.tokens;
              left = x.back;
              rest_tokens = x.back_tokens;
              before = x.t ∷ onto x.front w.before;
              agrees = agrees_place x.t found.kind (onto x.front w.before) x.kind_is;
              finds = sym (from_place_on x ∙ ap (λ b. if b then first_unbracketed_from kinds (place + 1) end (x.t ∷ onto x.front w.before) x.back else Some (place, start)) so);
              room = omega (arith, w.room, x.place_len, token_length x.t);
              in_range = x.end_in_range;
            }
