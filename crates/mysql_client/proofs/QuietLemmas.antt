-- The bytes of a quiet comment, as a client reads them outside of block comments.
use Rattle.std.specs.Prelude.{Bool, not, codes}
use Rattle.std.proofs.Common.{◌≡◌, ◌⊎◌, ℕ, true, false, cond, ◌==◌, ◌&&◌, ◌||◌, List, [], ◌∷◌, ◌++◌, refl, sym, ap, ◌∙◌, subst, inl, inr, drop, true≢false}
use Rattle.std.specs.List.{list_all}
use Rattle.std.specs.Str.{byte}
use Rattle.std.proofs.lemmas.Bool.{cases_Bool, and_parts, or_parts, not-true, not-false, eqb-true}
use Rattle.mysql_named_params.specs.Bytes.{asterisk, backquote, bracket, carriage_return, dash, dollar, exclamation_mark, hash, newline, slash, is_extension, is_string_quote, begins}
use Rattle.mysql_named_params.specs.Tokens.{Token, bytes_of, IsToken, QuotedString, QuotedIdentifier, HashComment, DashComment, BlockComment, Name, Mark, Plain}
use Rattle.mysql_portable.specs.ServerTokens.{begins_special, begins_tag, begins_place, begins_own}
use Rattle.mysql_portable.specs.Quiet.{is_for_client, stands_apart, closes, may_begin_something, is_quiet}
use Rattle.mysql_portable.specs.FoundInClient.{letter_of, begins_word, begins_delimiter_line}
use Rattle.mysql_client.specs.Outgoing.{Outgoing, is_space, pass_on, send_if, end_line}
use Rattle.mysql_client.specs.ClientState.{Program, mariadb, is_mariadb, Special, no_special, outside, is_hint, is_own_word, look_in, finds_word, hides_command, other, beginning, begins_slash_star, begins_close, ends_tag}
use Rattle.mysql_client.specs.Sends.{step, begun, is_return}
use Rattle.mysql_client.specs.SentStatements.{Gathering, no_part, plain_after, bytes_after}
use Rattle.mysql_client.proofs.StepLemmas.{place, base, in_special_comment, before, and_no, differs, HasNoZero, no_zero_after, line_goes}
use Rattle.mysql_client.proofs.EndLemmas.{UpToClose}
use Rattle.mysql_client.proofs.PlainStepLemmas.{no_block, stays}
use Rattle.mysql_client.proofs.PlainFactLemmas.{tag_ends}

-- ---- a byte

-- what a byte of a quiet text isn't, and what follows it
pub record IsQuietByte (b : ℕ) (rest : List ℕ) : Type 0 where
  pub no_quote : (is_string_quote b || b == backquote) ≡ false
  pub no_hash : (b == hash) ≡ false
  pub no_dash : (b == dash) ≡ false
  pub no_slash : begins_slash_star (b ∷ rest) ≡ false
  pub no_end : (b == byte ";") ≡ false
  pub no_backslash : (b == byte "\\") ≡ false
  pub no_tag : (p : Program) → (b == dollar && (ends_tag rest && not (is_mariadb p))) ≡ false
  pub apart : begins_close b rest ≡ true → stands_apart (drop 1 rest) ≡ true
  pub more : begins_close b rest ≡ false → is_quiet rest ≡ true

pub second_false : (x y : Bool) → (x && y) ≡ false → x ≡ true → y ≡ false
second_false true y h e = h
second_false false y h e = absurd (true≢false (sym e))

second_true : (x y : Bool) → (x || y) ≡ true → x ≡ false → y ≡ true
second_true true y h e = absurd (true≢false e)
second_true false y h e = h

pub quiet_byte : (b : ℕ) (rest : List ℕ) → is_quiet (b ∷ rest) ≡ true → IsQuietByte b rest
quiet_byte b rest h =
    let both = and_parts (not (may_begin_something b rest)) (closes b rest || is_quiet rest) h in
    let p1 = or_parts (is_string_quote b) _ (not-true _ both.0) in
    let p2 = or_parts (b == backquote) _ p1.1 in
    let p3 = or_parts (b == hash) _ p2.1 in
    let p4 = or_parts (b == dash) _ p3.1 in
    let p5 = or_parts (b == slash && begins (λ c. c == asterisk) rest) _ p4.1 in
    let p6 = or_parts (begins_place (b ∷ rest)) _ p5.1 in
    let p7 = or_parts (begins_own b rest) _ p6.1 in
    let p8 = or_parts (is_for_client b) _ p7.1 in
    let p9 = or_parts (closes b rest && not (stands_apart (drop 1 rest))) _ p8.1 in
    let client = or_parts (b == byte ";") (b == byte "\\") p8.0 in
    let own = or_parts (b == dollar && begins_tag rest) _ (or_parts (b == bracket) _ p7.0).1 in
    record {
      no_quote = rw (p1.0, p2.0) refl;
      no_hash = p3.0;
      no_dash = p4.0;
      no_slash = p5.0;
      no_end = client.0;
      no_backslash = client.1;
      no_tag = λ p. elim (cases_Bool (b == dollar)) [
        | inl t ↦ rw (tag_ends rest (second_false _ _ own.0 t)) (and_no (b == dollar))
        | inr f ↦ rw f refl
      ];
      apart = λ e. not-false _ (second_false _ _ p9.0 e);
      more = λ e. second_true _ _ both.1 e;
    }

-- a token of a quiet text is a plain byte
pub quiet_token : (mode : Bool) (t : Token) (rest : List ℕ) → IsToken mode t rest → is_quiet (bytes_of t ++ rest) ≡ true →
    (b : ℕ) × (t ≡ Plain b)
quiet_token mode (QuotedString q tail) rest h e =
    let no : is_quiet (q ∷ (tail ++ rest)) ≡ false = rw h.0 refl in
    absurd (true≢false (sym e ∙ no))
quiet_token mode (QuotedIdentifier tail) rest h e = absurd (true≢false (sym e))
quiet_token mode (HashComment tail) rest h e = absurd (true≢false (sym e))
quiet_token mode (DashComment gap tail) rest h e = absurd (true≢false (sym e))
quiet_token mode (BlockComment tail) rest h e = absurd (true≢false (sym e))
quiet_token mode (Name []) rest h e = absurd h.0
quiet_token mode (Name (c ∷ cs)) rest h e =
    let no : is_quiet (58 ∷ c ∷ (cs ++ rest)) ≡ false = rw h.0.0 refl in
    absurd (true≢false (sym e ∙ no))
quiet_token mode Mark rest h e = absurd (true≢false (sym e))
quiet_token mode (Plain b) rest h e = (b, refl)

-- the `*` of a special comment's sign is quiet as the text after it is
pub star_quiet : (text : List ℕ) → begins (λ c. c == slash) text ≡ false → is_quiet text ≡ true → is_quiet (asterisk ∷ text) ≡ true
star_quiet text n h = rw (n, h) refl

-- ---- a step

abbrev pub gathering : Outgoing → Gathering
gathering o = record { after = false; part = no_part; out = o }

-- the step of a client at such a byte
pub record IsQuietStep (p : Program) (mode : Bool) (special : Special) (b : ℕ) (rest : List ℕ) (o : Outgoing) : Type 0 where
  pub after : Special
  pub out : Outgoing
  pub step_is : step p mode (in_special_comment special o) b rest ≡ in_special_comment after out
  pub gathered_is : plain_after b rest (gathering o) ≡ gathering out
  pub none_kept : special ≡ no_special → after ≡ no_special
  pub closed : begins_close b rest ≡ true → after ≡ no_special

-- nothing begins at it
nothing_begins : (p : Program) (special : Special) (b : ℕ) (rest : List ℕ) (o : Outgoing) → IsQuietByte b rest →
    beginning p (in_special_comment special o) b rest ≡ other
nothing_begins p special b rest o q =
    rw (and_no (is_own_word p b rest || hides_command p b rest), q.no_backslash, q.no_end, q.no_hash, q.no_dash, no_block p b rest q.no_slash, q.no_tag p, q.no_quote)
    (go (is_hint special))
  where
    go : (x : Bool) → cond x other other ≡ other
    go true = refl
    go false = refl

close_is : (b : ℕ) (rest : List ℕ) → begins_close b rest ≡ true → (b == asterisk) ≡ true
close_is b rest e = (and_parts (b == asterisk) (begins (λ c. c == slash) rest) e).0

pub quiet_step : (p : Program) (mode : Bool) (special : Special) (b : ℕ) (rest : List ℕ) (o : Outgoing) → IsQuietByte b rest →
    HasNoZero rest → ((b == newline) ≡ true → begins_word (codes "delimiter") rest ≡ false) → IsQuietStep p mode special b rest o
quiet_step p mode special b rest o q z w =
    elim (cases_Bool (is_return b rest)) [
      | inl r ↦
          let cr = (and_parts (b == carriage_return) (begins (λ c. c == newline) rest) r).0 in
          record {
            after = special;
            out = o;
            step_is = rw r refl;
            gathered_is = rw r refl;
            none_kept = λ e. e;
            closed = λ e. absurd (true≢false (sym (close_is b rest e) ∙ differs b asterisk (λ x. x == carriage_return) cr refl));
          }
      | inr r ↦ elim (cases_Bool (b == newline)) [
        | inl n ↦ record {
          after = no_special;
          out = end_line false o;
          step_is = rw (r, n) (line_goes p rest (record (in_special_comment special o) { out = end_line false o }) z (w n));
          gathered_is = rw (r, n) refl;
          none_kept = λ e. refl;
          closed = λ e. refl;
        }
        | inr n ↦ record {
          after = cond (begins_close b rest) no_special special;
          out = pass_on b rest o;
          step_is = rw (r, n)
              (ap (begun p (in_special_comment special o) b rest) (nothing_begins p special b rest o q)
              ∙ rw (q.no_slash, and_no (is_space b)) refl);
          gathered_is = rw (r, n, q.no_end, and_no (is_space b), q.no_backslash, q.no_dash) refl;
          none_kept = λ e. ap (λ x. cond (begins_close b rest) no_special x) e ∙ same (begins_close b rest);
          closed = λ e. rw e refl;
        }
      ]
    ]
  where
    same : (x : Bool) → cond x no_special no_special ≡ no_special
    same true = refl
    same false = refl

-- ---- a comment that is read like other text

apart_no_star : (rest : List ℕ) → stands_apart rest ≡ true → begins (λ c. c == asterisk) rest ≡ false
apart_no_star [] h = refl
apart_no_star (c ∷ cs) h = go (cases_Bool (c == asterisk))
  where
    go : ((c == asterisk) ≡ true) ⊎ ((c == asterisk) ≡ false) → (c == asterisk) ≡ false
    go (inl e) = absurd (true≢false (sym h ∙ ap (λ x. stands_apart (x ∷ cs)) (eqb-true c asterisk e)))
    go (inr e) = e

-- the `/` at the end of such a comment
last_slash : (p : Program) (mode : Bool) (rest : List ℕ) (o : Outgoing) → stands_apart rest ≡ true →
    step p mode (in_special_comment no_special o) slash rest ≡ in_special_comment no_special (pass_on slash rest o)
last_slash p mode rest o h =
    let none : begins (λ c. c == asterisk) rest ≡ false = apart_no_star rest h in
    let found : beginning p (in_special_comment no_special o) slash rest ≡ other = rw (and_no (is_own_word p slash rest || hides_command p slash rest), none) refl in
    ap (begun p (in_special_comment no_special o) slash rest) found
    ∙ ap (λ x. in_special_comment x (pass_on slash rest o)) (stays p slash rest none)

-- a word without `*` goes on behind the end of a comment only if it does so without the rest
word_up_to_close : (word xs rest : List ℕ) → list_all (λ w. not (letter_of asterisk == w)) word ≡ true → UpToClose xs rest →
    begins_word word xs ≡ false → begins_word word (xs ++ rest) ≡ false
word_up_to_close [] xs rest l u h = absurd (true≢false h)
word_up_to_close (w ∷ ws) [] rest l u h = rw u refl
word_up_to_close (w ∷ ws) (x ∷ xs) rest l u h =
    let p = and_parts (not (letter_of asterisk == w)) (list_all (λ v. not (letter_of asterisk == v)) ws) l in
    elim (cases_Bool (letter_of x == w)) [
      | inl t ↦
          elim (cases_Bool (begins_close x xs)) [
            | inl s ↦
                let f : (letter_of x == w) ≡ false = ap (λ y. letter_of y == w) (eqb-true x asterisk (close_is x xs s)) ∙ not-true _ p.0 in
                rw f refl
            | inr n ↦
                let h' : begins_word ws xs ≡ false = sym (ap (λ c. c && begins_word ws xs) t) ∙ h in
                rw (t, word_up_to_close ws xs rest p.1 (u.1 n) h') refl
          ]
      | inr f ↦ rw f refl
    ]

-- the bytes of such a comment, before a rest
pub record AreReadLikeText (p : Program) (mode : Bool) (bytes rest : List ℕ) (o : Outgoing) : Type 0 where
  pub out : Outgoing
  pub state_is : before p mode rest (in_special_comment no_special o) bytes ≡ in_special_comment no_special out
  pub gathered_is : bytes_after bytes rest (gathering o) ≡ gathering out

pub quiet_bytes : (p : Program) (mode : Bool) (tail rest : List ℕ) (o : Outgoing) → UpToClose tail rest → is_quiet (tail ++ rest) ≡ true →
    HasNoZero (tail ++ rest) → begins_delimiter_line tail ≡ false → AreReadLikeText p mode tail rest o
quiet_bytes p mode [] rest o u q z w = absurd (true≢false (sym q ∙ ap is_quiet u))
quiet_bytes p mode (b ∷ bs) rest o u q z w =
    let byte_is : IsQuietByte b (bs ++ rest) = quiet_byte b (bs ++ rest) q in
    let line = or_parts (b == newline && begins_word (codes "delimiter") bs) (begins_delimiter_line bs) w in
    elim (cases_Bool (begins_close b bs)) [
      | inl c ↦
          let end : bs ≡ slash ∷ [] = u.0 c in
          let close : begins_close b (bs ++ rest) ≡ true = ap (λ x. begins_close b (x ++ rest)) end ∙ (sym (ap (begins_close b) end) ∙ c) in
          let star = close_is b bs c in
          let first = quiet_step p mode no_special b (bs ++ rest) o byte_is (no_zero_after b (bs ++ rest) z)
          (λ n. absurd (true≢false (sym n ∙ differs b newline (λ x. x == asterisk) star refl))) in
          let apart : stands_apart rest ≡ true = ap (λ x. stands_apart (drop 1 (x ++ rest))) (sym end) ∙ byte_is.apart close in
          let state : before p mode rest (in_special_comment no_special o) (b ∷ bs) ≡ in_special_comment no_special (pass_on slash rest first.out) =
          ap (λ s. before p mode rest s bs) (first.step_is ∙ ap (λ x. in_special_comment x first.out) (first.none_kept refl))
          ∙ (ap (before p mode rest (in_special_comment no_special first.out)) end ∙ last_slash p mode rest first.out apart) in
          let gathered : bytes_after (b ∷ bs) rest (gathering o) ≡ gathering (pass_on slash rest first.out) =
          ap (bytes_after bs rest) first.gathered_is ∙ ap (λ x. bytes_after x rest (gathering first.out)) end in
          record { out = pass_on slash rest first.out; state_is = state; gathered_is = gathered }
      | inr n ↦
          let word : (b == newline) ≡ true → begins_word (codes "delimiter") (bs ++ rest) ≡ false =
          λ e. word_up_to_close (codes "delimiter") bs rest refl (u.1 n) (second_false (b == newline) _ line.0 e) in
          let first = quiet_step p mode no_special b (bs ++ rest) o byte_is (no_zero_after b (bs ++ rest) z) word in
          let later = quiet_bytes p mode bs rest first.out (u.1 n) (byte_is.more (no_close b bs rest n (u.1 n))) (no_zero_after b (bs ++ rest) z) line.1 in
          record {
            out = later.out;
            state_is = ap (λ s. before p mode rest s bs) (first.step_is ∙ ap (λ x. in_special_comment x first.out) (first.none_kept refl)) ∙ later.state_is;
            gathered_is = ap (bytes_after bs rest) first.gathered_is ∙ later.gathered_is;
          }
    ]
  where
    no_close : (b : ℕ) (bs rest : List ℕ) → begins_close b bs ≡ false → UpToClose bs rest → begins_close b (bs ++ rest) ≡ false
    no_close b [] rest n u = ap (begins_close b) u ∙ n
    no_close b (c ∷ cs) rest n u = n

-- `/*M!`, to `mariadb`
comment_sign : (mode a f : Bool) (text : List ℕ) (o : Outgoing) →
    step mariadb mode (base (place a) f o) slash (asterisk ∷ byte "M" ∷ exclamation_mark ∷ text)
    ≡ in_special_comment no_special (pass_on slash (asterisk ∷ byte "M" ∷ exclamation_mark ∷ text) (send_if a o))
comment_sign mode false f text o =
    rw (and_no (finds_word mariadb (look_in mariadb (asterisk ∷ byte "M" ∷ exclamation_mark ∷ text)) (asterisk ∷ byte "M" ∷ exclamation_mark ∷ text))) refl
comment_sign mode true f text o =
    rw (and_no (finds_word mariadb (look_in mariadb (asterisk ∷ byte "M" ∷ exclamation_mark ∷ text)) (asterisk ∷ byte "M" ∷ exclamation_mark ∷ text))) refl

pub only_read_comment : (mode a f : Bool) (tail rest : List ℕ) (o : Outgoing) → begins_special tail ≡ true → begins is_extension (tail ++ rest) ≡ false →
    UpToClose tail rest → is_quiet (tail ++ rest) ≡ true → HasNoZero (tail ++ rest) → begins_delimiter_line tail ≡ false →
    (after : Outgoing) × (before mariadb mode rest (base (place a) f o) (slash ∷ asterisk ∷ tail) ≡ base outside false after)
    × (bytes_after (slash ∷ asterisk ∷ tail) rest (record { after = a; part = no_part; out = o }) ≡ gathering after)
only_read_comment mode a f [] rest o s e u q z w = absurd (true≢false (sym s))
only_read_comment mode a f (m ∷ []) rest o s e u q z w = absurd (true≢false (sym s ∙ rw (e, and_no (m == byte "M")) refl))
only_read_comment mode a f (m ∷ x ∷ xs) rest o s e u q z w =
    let sign = and_parts (m == byte "M") (x == exclamation_mark) (second_true (is_extension m) _ s e) in
    let both : m ∷ x ∷ xs ≡ byte "M" ∷ exclamation_mark ∷ xs = rw (eqb-true m (byte "M") sign.0, eqb-true x exclamation_mark sign.1) refl in
    subst (λ y. (after : Outgoing) × (before mariadb mode rest (base (place a) f o) (slash ∷ asterisk ∷ y) ≡ base outside false after)
    × (bytes_after (slash ∷ asterisk ∷ y) rest (record { after = a; part = no_part; out = o }) ≡ gathering after)) (sym both)
    (go (subst (λ y. UpToClose y rest) both u) (subst (λ y. is_quiet (y ++ rest) ≡ true) both q) (subst (λ y. HasNoZero (y ++ rest)) both z) (subst (λ y. begins_delimiter_line y ≡ false) both w))
  where
    first_gathered : (a : Bool) (o : Outgoing) (text : List ℕ) →
        bytes_after (byte "M" ∷ exclamation_mark ∷ xs) rest (plain_after asterisk text (plain_after slash (asterisk ∷ text) (record { after = a; part = no_part; out = o })))
        ≡ bytes_after (byte "M" ∷ exclamation_mark ∷ xs) rest (plain_after asterisk text (gathering (pass_on slash (asterisk ∷ text) (send_if a o))))
    first_gathered true o text = refl
    first_gathered false o text = refl

    go : UpToClose (byte "M" ∷ exclamation_mark ∷ xs) rest → is_quiet (byte "M" ∷ exclamation_mark ∷ (xs ++ rest)) ≡ true →
        HasNoZero (byte "M" ∷ exclamation_mark ∷ (xs ++ rest)) → begins_delimiter_line (byte "M" ∷ exclamation_mark ∷ xs) ≡ false →
        (after : Outgoing) × (before mariadb mode rest (base (place a) f o) (slash ∷ asterisk ∷ byte "M" ∷ exclamation_mark ∷ xs) ≡ base outside false after)
        × (bytes_after (slash ∷ asterisk ∷ byte "M" ∷ exclamation_mark ∷ xs) rest (record { after = a; part = no_part; out = o }) ≡ gathering after)
    go u q z w =
        let text : List ℕ = byte "M" ∷ exclamation_mark ∷ (xs ++ rest) in
        let signed : Outgoing = pass_on slash (asterisk ∷ text) (send_if a o) in
        let star = quiet_step mariadb mode no_special asterisk text signed (quiet_byte asterisk text (star_quiet text refl q)) z (λ n. absurd (true≢false (sym n))) in
        let later = quiet_bytes mariadb mode (byte "M" ∷ exclamation_mark ∷ xs) rest star.out u q z w in (
          later.out,
          ap (λ s. before mariadb mode rest (step mariadb mode s asterisk text) (byte "M" ∷ exclamation_mark ∷ xs)) (comment_sign mode a f (xs ++ rest) o)
              ∙ (ap (λ s. before mariadb mode rest s (byte "M" ∷ exclamation_mark ∷ xs)) (star.step_is ∙ ap (λ x. in_special_comment x star.out) (star.none_kept refl)) ∙ later.state_is),
          first_gathered a o text
              ∙ (ap (bytes_after (byte "M" ∷ exclamation_mark ∷ xs) rest) star.gathered_is ∙ later.gathered_is),
        )
