-- A guarded literal as it is seen over a client set: it is seen apart from the text after it, and has
-- the shape of a guarded literal again.
use Rattle.std.specs.Prelude.{Bool, nat_le, nat_lt, not, map, ⊤}
use Rattle.std.proofs.Common.{◌≡◌, ◌≢◌, ◌++◌, length, eqb, ◌&&◌, ◌||◌, ℕ, zero, suc, List, [], ◌∷◌, take, true, false, Some, refl, sym, ap, ◌∙◌, subst, append_assoc, length-append, inl, inr, arith, true≢false}
use Rattle.std.specs.List.{list_all}
use Rattle.std.proofs.lemmas.Bool.{and_parts, and_from, cases_Bool, not-true, eqb-true, eqb-false, both_ways}
use Rattle.std.proofs.lemmas.Bool.Decides.{nat_tests}
use Rattle.std.proofs.lemmas.List.{length-map}
use Rattle.mysql_sql_text.specs.StringUnits.{is_escape, AreUnits, no_units, byte_unit, escape_unit}
use Rattle.mysql_sql_text.proofs.ByteNames.{backslash, single_quote}
use Rattle.mysql_named_params.specs.Bytes.{space}
use Rattle.mysql_named_params.specs.Tokens.{Token, bytes_of, text_of, IsTokens, Plain, QuotedString, QuotedIdentifier, HashComment, DashComment, BlockComment, Name, Mark}
use Rattle.mysql_named_params.specs.Places.{place_count}
use Rattle.mysql_binding.specs.Pieces.{pieces, joined_text}
use Rattle.mysql_binding.proofs.BoundText.{bound}
use Rattle.mysql_binding.proofs.PieceLemmas.{joined_text_count, joined_text_is, joined_text-pieces_from}
use Rattle.mysql_portable.specs.CharacterSet.{CharacterSet, seen, seen_after}
use Rattle.mysql_portable.specs.Steady.{is_no_backslash, is_steady}
use Rattle.mysql_portable.proofs.OtherModeLemmas.{all_parts}
use Rattle.mysql_steady_text.specs.ClientSet.{IsClientSet, are_later, is_no_quote}
use Rattle.mysql_steady_text.specs.SeenText.{IsSeenInPlaces}
use Rattle.mysql_steady_text.specs.GuardedShape.{IsGuardedString, guarded_string, AreGuardedStrings, one_guarded, more_guarded, spaced_guarded, IsGuardedLiteral, guarded_strings, steady_literal, AreGuardedLiterals, KeepsApart, AreKeptApart, keeps_apart}
use Rattle.mysql_steady_text.proofs.ReadInLemmas.{high_is_at_least, high_no_backslash, high_no_quote}

abbrev pub is_low : ℕ → Bool
is_low b = nat_lt b 128

low_is_not_high : (b : ℕ) → is_low b ≡ true → nat_le 128 b ≡ false
low_is_not_high b h = grind (arith, nat_tests)

steady_is_low : (b : ℕ) → is_steady b ≡ true → is_low b ≡ true
steady_is_low b h = (and_parts (is_low b) (is_no_backslash b) h).0

-- ---- what is below 128 is seen as it is

pub low_seen : (set : CharacterSet) (text rest : List ℕ) → list_all is_low text ≡ true → seen set (text ++ rest) ≡ text ++ seen set rest
low_seen set [] rest h = refl
low_seen set (b ∷ text) rest h =
    let p = and_parts (is_low b) (list_all is_low text) h in
    rw (low_is_not_high b p.0) (ap (λ t. b ∷ t) (low_seen set text rest p.1))

-- ---- a text and how it is seen

-- a byte is shown, or hidden if it is neither a quote nor a backslash
data IsShownByte : ℕ → ℕ → Type 0 where
  the_byte : (b : ℕ) → IsShownByte b b
  hidden : (b : ℕ) → eqb b single_quote ≡ false → eqb b backslash ≡ false → IsShownByte b 128

IsShown : List ℕ → List ℕ → Type 0
IsShown [] [] = ⊤
IsShown [] (s ∷ shown) = ⊥
IsShown (b ∷ bytes) [] = ⊥
IsShown (b ∷ bytes) (s ∷ shown) = IsShownByte b s × IsShown bytes shown

shown_both : (xs ys more others : List ℕ) → IsShown xs ys → IsShown more others → IsShown (xs ++ more) (ys ++ others)
unfolding IsShown
shown_both [] [] more others h k = k
shown_both [] (y ∷ ys) more others h k = absurd h
shown_both (x ∷ xs) [] more others h k = absurd h
shown_both (x ∷ xs) (y ∷ ys) more others h k = (h.0, shown_both xs ys more others h.1 k)

shown_same : (text : List ℕ) → IsShown text text
unfolding IsShown
shown_same [] = tt
shown_same (b ∷ text) = (the_byte b, shown_same text)

shown_as_long : (text shown : List ℕ) → IsShown text shown → length shown ≡ length text
unfolding IsShown
shown_as_long [] [] h = refl
shown_as_long [] (s ∷ shown) h = absurd h
shown_as_long (b ∷ text) [] h = absurd h
shown_as_long (b ∷ text) (s ∷ shown) h = ap suc (shown_as_long text shown h.1)

-- what is shown of two texts in a row
record IsSplit (xs ys shown : List ℕ) : Type 0 where
  pub front : List ℕ
  pub back : List ℕ
  pub both : front ++ back ≡ shown
  pub of_front : IsShown xs front
  pub of_back : IsShown ys back

split : (xs ys shown : List ℕ) → IsShown (xs ++ ys) shown → IsSplit xs ys shown
unfolding IsShown
split [] ys shown h = record { front = []; back = shown; both = refl; of_front = tt; of_back = h }
split (x ∷ xs) ys [] h = absurd h
split (x ∷ xs) ys (s ∷ shown) h =
    let m = split xs ys shown h.1 in
    record { front = s ∷ m.front; back = m.back; both = ap (λ t. s ∷ t) m.both; of_front = (h.0, m.of_front); of_back = m.of_back }

quote_shown : (s : ℕ) → IsShownByte single_quote s → s ≡ single_quote
quote_shown s h = of_byte refl h
  where
    of_byte : {b s : ℕ} → eqb b single_quote ≡ true → IsShownByte b s → s ≡ single_quote
    of_byte e (the_byte b) = eqb-true b single_quote e
    of_byte e (hidden b q f) = absurd (both_ways (eqb b single_quote) q e)

last_quote_shown : (shown : List ℕ) → IsShown (single_quote ∷ []) shown → shown ≡ single_quote ∷ []
unfolding IsShown
last_quote_shown [] h = absurd h
last_quote_shown (s ∷ []) h = ap (λ b. b ∷ []) (quote_shown s h.0)
last_quote_shown (s ∷ t ∷ shown) h = absurd h.1

high_unit : (mode : Bool) → is_escape mode 128 ≡ false
high_unit false = refl
high_unit true = refl

byte_shown : (mode : Bool) {b s : ℕ} (shown : List ℕ) → b ≢ single_quote → is_escape mode b ≡ false → IsShownByte b s →
    AreUnits mode single_quote shown → AreUnits mode single_quote (s ∷ shown)
byte_shown mode shown n e (the_byte b) u = byte_unit n e u
byte_shown mode shown n e (hidden b q f) u = byte_unit (eqb-false 128 single_quote refl) (high_unit mode) u

escape_shown : (mode : Bool) {b s : ℕ} → is_escape mode b ≡ true → IsShownByte b s → is_escape mode s ≡ true
escape_shown mode e (the_byte b) = e
escape_shown false e (hidden b q f) = absurd (both_ways (eqb b backslash) f e)
escape_shown true e (hidden b q f) = absurd (true≢false (sym e))

units_shown : (mode : Bool) {body : List ℕ} (shown : List ℕ) → AreUnits mode single_quote body → IsShown body shown → AreUnits mode single_quote shown
unfolding IsShown
units_shown mode [] no_units h = no_units
units_shown mode (s ∷ shown) no_units h = absurd h
units_shown mode [] (byte_unit n e u) h = absurd h
units_shown mode (s ∷ shown) (byte_unit {b = b} n e u) h = byte_shown mode shown n e h.0 (units_shown mode shown u h.1)
units_shown mode [] (escape_unit e u) h = absurd h
units_shown mode (s ∷ []) (escape_unit e u) h = absurd h.1
units_shown mode (s ∷ t ∷ shown) (escape_unit {b = b} e u) h = escape_unit (escape_shown mode e h.0) (units_shown mode shown u h.1.1)

string_shown : {string : List ℕ} (shown : List ℕ) → IsGuardedString string → IsShown string shown → IsGuardedString shown
unfolding IsShown
string_shown [] (guarded_string body u v) h = absurd h
string_shown (s ∷ shown) (guarded_string body u v) h =
    let m = split body (single_quote ∷ []) shown h.1 in
    let t : m.front ++ single_quote ∷ [] ≡ shown = ap (λ x. m.front ++ x) (sym (last_quote_shown m.back m.of_back)) ∙ m.both in
    subst IsGuardedString (ap (λ x. single_quote ∷ x) t ∙ ap (λ b. b ∷ shown) (sym (quote_shown s h.0)))
    (guarded_string m.front (units_shown false m.front u m.of_front) (units_shown true m.front v m.of_front))

front_apart : (high : Bool) (xs ys : List ℕ) → keeps_apart high (xs ++ ys) ≡ true → keeps_apart high xs ≡ true
front_apart high [] ys h = refl
front_apart high (b ∷ xs) ys h =
    let p = and_parts (not (high && eqb b backslash)) (keeps_apart (nat_le 128 b) (xs ++ ys)) h in
    and_from _ _ p.0 (front_apart (nat_le 128 b) xs ys p.1)

-- after a quote no byte from 128 on is remembered
after_quote_apart : (high : Bool) (front more : List ℕ) → keeps_apart high (front ++ single_quote ∷ more) ≡ true → keeps_apart false more ≡ true
after_quote_apart high [] more h = (and_parts (not (high && eqb single_quote backslash)) (keeps_apart false more) h).1
after_quote_apart high (b ∷ front) more h =
    after_quote_apart (nat_le 128 b) front more ((and_parts (not (high && eqb b backslash)) (keeps_apart (nat_le 128 b) (front ++ single_quote ∷ more)) h).1)

after_string_apart : {string : List ℕ} → IsGuardedString string → (more : List ℕ) → keeps_apart false (string ++ more) ≡ true → keeps_apart false more ≡ true
after_string_apart (guarded_string body u v) more h =
    after_quote_apart false (single_quote ∷ body) more
    (subst (λ t. keeps_apart false (single_quote ∷ t) ≡ true) (append_assoc body (single_quote ∷ []) more) h)

all_steady_low : (text : List ℕ) → list_all is_steady text ≡ true → list_all is_low text ≡ true
all_steady_low [] h = refl
all_steady_low (b ∷ text) h =
    let p = and_parts (is_steady b) (list_all is_steady text) h in
    and_from _ _ (steady_is_low b p.0) (all_steady_low text p.1)

-- a later byte is no backslash
later_no_backslash : (high c : Bool) → not (high && c) ≡ true → (high || not c) ≡ true → c ≡ false
later_no_backslash true true h k = sym h
later_no_backslash true false h k = refl
later_no_backslash false true h k = sym k
later_no_backslash false false h k = refl

-- a text, as it is seen before another, and its shape
record IsSeenAs (Shape : List ℕ → Type 0) (set : CharacterSet) (literal rest shown : List ℕ) : Type 0 where
  pub shape : Shape shown
  pub as_long : length shown ≡ length literal
  pub before : seen set (literal ++ rest) ≡ shown ++ seen set rest

-- one after the other
both_seen : (set : CharacterSet) (xs ys rest shown others : List ℕ) → seen set (xs ++ (ys ++ rest)) ≡ shown ++ seen set (ys ++ rest) →
    seen set (ys ++ rest) ≡ others ++ seen set rest → seen set ((xs ++ ys) ++ rest) ≡ (shown ++ others) ++ seen set rest
both_seen set xs ys rest shown others e f =
    ap (seen set) (append_assoc xs ys rest) ∙ e ∙ ap (λ t. shown ++ t) f ∙ sym (append_assoc shown others (seen set rest))

both_as_long : (xs ys shown others : List ℕ) → length shown ≡ length xs → length others ≡ length ys → length (shown ++ others) ≡ length (xs ++ ys)
both_as_long xs ys shown others e f = omega (arith, length-append shown others, length-append xs ys)

module _ (set : CharacterSet) (client : IsClientSet set) where
  -- what is seen before a quote, after `left` bytes of a character
  Shows : ℕ → List ℕ → List ℕ → Type 0
  Shows left front rest =
      (shown : List ℕ) × IsShown front shown × (seen_after set left (front ++ single_quote ∷ rest) ≡ shown ++ single_quote ∷ seen set rest)

  high_seen : (b : ℕ) (front rest : List ℕ) → nat_le 128 b ≡ true → Shows (set b (front ++ single_quote ∷ rest)) front rest → Shows zero (b ∷ front) rest
  unfolding Shows IsShown
  high_seen b front rest high (shown, s, e) = (128 ∷ shown, (hidden b (high_no_quote b high) (high_no_backslash b high), s), rw high (ap (λ t. 128 ∷ t) e))

  later_seen : (left b : ℕ) (front rest : List ℕ) → eqb b single_quote ≡ false → eqb b backslash ≡ false → Shows left front rest → Shows (suc left) (b ∷ front) rest
  unfolding Shows IsShown
  later_seen left b front rest q f (shown, s, e) = (128 ∷ shown, (hidden b q f, s), ap (λ t. 128 ∷ t) e)

  low_byte_seen : (b : ℕ) (front rest : List ℕ) → nat_le 128 b ≡ false → Shows zero front rest → Shows zero (b ∷ front) rest
  unfolding Shows IsShown
  low_byte_seen b front rest low (shown, s, e) = (b ∷ shown, (the_byte b, s), rw low (ap (λ t. b ∷ t) e))

  front_seen : (left : ℕ) (high : Bool) (front : List ℕ) → keeps_apart high front ≡ true → (rest : List ℕ) →
      are_later high (take left (front ++ single_quote ∷ rest)) ≡ true → Shows left front rest
  unfolding Shows IsShown
  front_seen zero high [] h rest l = ([], tt, refl)
  front_seen (suc left) high [] h rest l = absurd (true≢false (sym l))
  front_seen zero high (b ∷ front) h rest l =
      let p = and_parts (not (high && eqb b backslash)) (keeps_apart (nat_le 128 b) front) h in
      elim (cases_Bool (nat_le 128 b)) [
        | inl above ↦
            high_seen b front rest above
            (front_seen (set b (front ++ single_quote ∷ rest)) true front (subst (λ c. keeps_apart c front ≡ true) above p.1) rest (client b (front ++ single_quote ∷ rest) (high_is_at_least b above)))
        | inr low ↦ low_byte_seen b front rest low (front_seen zero (nat_le 128 b) front p.1 rest refl)
      ]
  front_seen (suc left) high (b ∷ front) h rest l =
      let p = and_parts (not (high && eqb b backslash)) (keeps_apart (nat_le 128 b) front) h in
      let after : Bool = are_later (nat_le 128 b) (take left (front ++ single_quote ∷ rest)) in
      let q = and_parts (is_no_quote b) ((high || is_no_backslash b) && after) l in
      let r = and_parts (high || is_no_backslash b) after q.1 in
      later_seen left b front rest (not-true _ q.0) (later_no_backslash high (eqb b backslash) p.0 r.0)
      (front_seen left (nat_le 128 b) front p.1 rest r.1)

  string_seen : {string : List ℕ} → IsGuardedString string → keeps_apart false string ≡ true → (rest : List ℕ) →
      (shown : List ℕ) × IsSeenAs IsGuardedString set string rest shown
  unfolding Shows IsShown
  string_seen (guarded_string body u v) apart rest =
      whole (front_seen zero false (single_quote ∷ body) (front_apart false (single_quote ∷ body) (single_quote ∷ []) apart) rest refl)
    where
      whole : Shows zero (single_quote ∷ body) rest →
          (shown : List ℕ) × IsSeenAs IsGuardedString set (single_quote ∷ (body ++ single_quote ∷ [])) rest shown
      whole (shown, s, e) =
          let all : IsShown (single_quote ∷ (body ++ single_quote ∷ [])) (shown ++ single_quote ∷ []) =
          shown_both (single_quote ∷ body) shown (single_quote ∷ []) (single_quote ∷ []) s (the_byte single_quote, tt) in (
            shown ++ single_quote ∷ [],
            record {
              shape = string_shown (shown ++ single_quote ∷ []) (guarded_string body u v) all;
              as_long = shown_as_long (single_quote ∷ (body ++ single_quote ∷ [])) (shown ++ single_quote ∷ []) all;
              before =
                  ap (λ t. seen set (single_quote ∷ t)) (append_assoc body (single_quote ∷ []) rest)
                  ∙ e ∙ sym (append_assoc shown (single_quote ∷ []) (seen set rest));
            },
          )

  strings_seen : {literal : List ℕ} → AreGuardedStrings literal → keeps_apart false literal ≡ true → (rest : List ℕ) →
      (shown : List ℕ) × IsSeenAs AreGuardedStrings set literal rest shown
  strings_seen (one_guarded string g) apart rest =
      let m = string_seen g apart rest in
      (m.0, record { shape = one_guarded m.0 m.1.shape; as_long = m.1.as_long; before = m.1.before })
  strings_seen (more_guarded string more g hs) apart rest =
      let m = string_seen g (front_apart false string more apart) (more ++ rest) in
      let n = strings_seen hs (after_string_apart g more apart) rest in (
        m.0 ++ n.0,
        record {
          shape = more_guarded m.0 n.0 m.1.shape n.1.shape;
          as_long = both_as_long string more m.0 n.0 m.1.as_long n.1.as_long;
          before = both_seen set string more rest m.0 n.0 m.1.before n.1.before;
        },
      )
  strings_seen (spaced_guarded string more g hs) apart rest =
      let m = string_seen g (front_apart false string (space ∷ more) apart) (space ∷ (more ++ rest)) in
      let n = strings_seen hs ((and_parts true (keeps_apart false more) (after_string_apart g (space ∷ more) apart)).1) rest in (
        m.0 ++ (space ∷ n.0),
        record {
          shape = spaced_guarded m.0 n.0 m.1.shape n.1.shape;
          as_long = both_as_long string (space ∷ more) m.0 (space ∷ n.0) m.1.as_long (ap suc n.1.as_long);
          before = both_seen set string (space ∷ more) rest m.0 (space ∷ n.0) m.1.before (ap (λ t. space ∷ t) n.1.before);
        },
      )

  -- a literal, before any text
  literal_seen : {literal : List ℕ} → IsGuardedLiteral literal → KeepsApart literal → (rest : List ℕ) →
      (shown : List ℕ) × IsSeenAs IsGuardedLiteral set literal rest shown
  literal_seen (steady_literal literal h s) apart rest =
      (literal, record { shape = steady_literal literal h s; as_long = refl; before = low_seen set literal rest (all_steady_low literal s) })
  literal_seen (guarded_strings literal g) apart rest =
      let m = strings_seen g apart rest in
      (m.0, record { shape = guarded_strings m.0 m.1.shape; as_long = m.1.as_long; before = m.1.before })

  -- ---- literals in the places of a steady query

  pub record AreSeenIn (ts : List Token) (literals shown : List (List ℕ)) : Type 0 where
    pub shapes : AreGuardedLiterals shown
    pub as_long : map length shown ≡ map length literals
    pub text : seen set (bound ts literals) ≡ bound ts shown

  token_seen : (t : Token) (ts : List Token) (more others : List ℕ) → list_all is_steady (bytes_of t ++ text_of ts) ≡ true →
      seen set more ≡ others → seen set (bytes_of t ++ more) ≡ bytes_of t ++ others
  token_seen t ts more others h e =
      low_seen set (bytes_of t) more (all_steady_low (bytes_of t) (all_parts is_steady (bytes_of t) (text_of ts) h).0)
      ∙ ap (λ x. bytes_of t ++ x) e

  after_token : (t : Token) (ts : List Token) (literals : List (List ℕ)) → list_all is_steady (bytes_of t ++ text_of ts) ≡ true →
      ((shown : List (List ℕ)) × AreSeenIn ts literals shown) →
      ((more : List (List ℕ)) → bound (t ∷ ts) more ≡ bytes_of t ++ bound ts more) →
      (shown : List (List ℕ)) × AreSeenIn (t ∷ ts) literals shown
  after_token t ts literals h m e = (
    m.0,
    record {
      shapes = m.1.shapes;
      as_long = m.1.as_long;
      text = ap (seen set) (e literals) ∙ token_seen t ts (bound ts literals) (bound ts m.0) h m.1.text ∙ sym (e m.0);
    },
  )

  in_place : (t : Token) (ts : List Token) (literal : List ℕ) (literals : List (List ℕ)) → IsGuardedLiteral literal → KeepsApart literal →
      ((shown : List (List ℕ)) × AreSeenIn ts literals shown) →
      ((first : List ℕ) (more : List (List ℕ)) → bound (t ∷ ts) (first ∷ more) ≡ first ++ bound ts more) →
      (shown : List (List ℕ)) × AreSeenIn (t ∷ ts) (literal ∷ literals) shown
  in_place t ts literal literals g a m e =
      let f = literal_seen g a (bound ts literals) in (
        f.0 ∷ m.0,
        record {
          shapes = (f.1.shape, m.1.shapes);
          as_long = ap (λ n. n ∷ map length m.0) f.1.as_long ∙ ap (λ ns. length literal ∷ ns) m.1.as_long;
          text = ap (seen set) (e literal literals) ∙ f.1.before ∙ ap (λ x. f.0 ++ x) m.1.text ∙ sym (e f.0 m.0);
        },
      )

  pub bound_seen : (ts : List Token) (literals : List (List ℕ)) → list_all is_steady (text_of ts) ≡ true →
      AreGuardedLiterals literals → AreKeptApart literals → length literals ≡ place_count ts → (shown : List (List ℕ)) × AreSeenIn ts literals shown
  bound_seen [] [] h s a l = ([], record { shapes = tt; as_long = refl; text = refl })
  bound_seen [] (literal ∷ literals) h s a l = absurd (omega arith)
  bound_seen (Name name ∷ ts) [] h s a l = absurd (omega arith)
  bound_seen (Name name ∷ ts) (literal ∷ literals) h s a l =
      in_place (Name name) ts literal literals s.0 a.0
      (bound_seen ts literals ((all_parts is_steady (bytes_of (Name name)) (text_of ts) h).1) s.1 a.1 (omega arith)) (λ first more. refl)
  bound_seen (Mark ∷ ts) [] h s a l = absurd (omega arith)
  bound_seen (Mark ∷ ts) (literal ∷ literals) h s a l =
      in_place Mark ts literal literals s.0 a.0
      (bound_seen ts literals ((all_parts is_steady (bytes_of Mark) (text_of ts) h).1) s.1 a.1 (omega arith)) (λ first more. refl)
  bound_seen (QuotedString quote tail ∷ ts) literals h s a l =
      after_token (QuotedString quote tail) ts literals h
      (bound_seen ts literals ((all_parts is_steady (bytes_of (QuotedString quote tail)) (text_of ts) h).1) s a l) (λ more. refl)
  bound_seen (QuotedIdentifier tail ∷ ts) literals h s a l =
      after_token (QuotedIdentifier tail) ts literals h
      (bound_seen ts literals ((all_parts is_steady (bytes_of (QuotedIdentifier tail)) (text_of ts) h).1) s a l) (λ more. refl)
  bound_seen (HashComment tail ∷ ts) literals h s a l =
      after_token (HashComment tail) ts literals h
      (bound_seen ts literals ((all_parts is_steady (bytes_of (HashComment tail)) (text_of ts) h).1) s a l) (λ more. refl)
  bound_seen (DashComment gap tail ∷ ts) literals h s a l =
      after_token (DashComment gap tail) ts literals h
      (bound_seen ts literals ((all_parts is_steady (bytes_of (DashComment gap tail)) (text_of ts) h).1) s a l) (λ more. refl)
  bound_seen (BlockComment tail ∷ ts) literals h s a l =
      after_token (BlockComment tail) ts literals h
      (bound_seen ts literals ((all_parts is_steady (bytes_of (BlockComment tail)) (text_of ts) h).1) s a l) (λ more. refl)
  bound_seen (Plain b ∷ ts) literals h s a l =
      after_token (Plain b) ts literals h
      (bound_seen ts literals ((all_parts is_steady (bytes_of (Plain b)) (text_of ts) h).1) s a l) (λ more. refl)

  -- the text of a steady query
  pub text_seen : (mode : Bool) (query text : List ℕ) (ts : List Token) (literals : List (List ℕ)) → IsTokens mode query ts →
      list_all is_steady query ≡ true → AreGuardedLiterals literals → AreKeptApart literals → joined_text (pieces ts) literals ≡ Some text →
      IsSeenInPlaces set ts literals text
  text_seen mode query text ts literals h q s a e =
      let l = joined_text_count [] ts literals text e in
      let m = bound_seen ts literals (subst (λ x. list_all is_steady x ≡ true) (sym h.text) q) s a l in
      record {
        shown = m.0;
        shapes = m.1.shapes;
        as_long = m.1.as_long;
        text_is =
            joined_text-pieces_from [] ts m.0 (sym (length-map m.0 length) ∙ ap length m.1.as_long ∙ length-map literals length ∙ l)
            ∙ ap Some (sym (ap (seen set) (joined_text_is ts literals text e) ∙ m.1.text));
      }
