-- A portable query that doesn't end with `--` is portable with the end of a statement too.
use Rattle.std.specs.Prelude.{◌↔◌, Bool, OnErr, Option, Result, Ok, Err, codes, not, drop}
use Rattle.std.proofs.Common.{◌≡◌, ◌∙◌, ◌+◌, ◌++◌, ◌==◌, ◌&&◌, ◌||◌, ℕ, true, false, List, [], ◌∷◌, map, None, arith, inl, inr, refl, sym, ap, subst, append_assoc, true≢false}
use Rattle.std.specs.Char.{is_ascii_digit, to_ascii_lowercase}
use Rattle.std.specs.Str.{byte}
use Rattle.std.proofs.lemmas.Bool.{and_from, and_left, and_parts, and_right, cases_Bool, eqb-true, false_from_ne_true, not-true, or_cases, or_parts, or_right}
use Rattle.std.proofs.lemmas.Bool.Decides.{nat_tests}
use Rattle.mysql_named_params.specs.Bytes.{asterisk, carriage_return, colon, dash, exclamation_mark, newline, plus, point, question_mark, slash, space, is_start_byte, begins}
use Rattle.mysql_named_params.specs.LoweredNames.{lower_names}
use Rattle.mysql_named_params.specs.Reading.{OnWideTokens, wide_reading}
use Rattle.mysql_named_params.specs.Tokens.{Token, OnTokens, bytes_of, text_of, QuotedString, HashComment, DashComment, BlockComment, Name, Plain}
use Rattle.mysql_named_params.proofs.ReadingLemmas.{reading_exists, reading_text}
use Rattle.mysql_portable.specs.FirstUnportableInClient.{IsPortableInClient}
use Rattle.mysql_portable.specs.Portable.{may_open_line, differs_at, is_read_alike, begins_exponent, joins_number, AreReadAlikeBefore, JoinNoNumberBefore}
use Rattle.mysql_portable.specs.Quiet.{stands_apart, closes, ends_version, is_version, may_begin_something, is_quiet, begins_quiet}
use Rattle.mysql_portable.specs.declared.portable.Unportable.{Unportable}
use Rattle.mysql_portable.specs.Server.{begins_place, begins_tag, begins_dashes, begins_exponent_dashes, begins_fraction, begins_own, begins_special, holds_return}
use Rattle.mysql_binding.proofs.SentLiteralLemmas.{AreSentBefore-append}
use Rattle.mysql_bind_core.specs.Bound.{IsPortableQuery}
use Rattle.mysql_bind_core.specs.QueryEnd.{EndsWithDashes, end, long_end}
use Rattle.mysql_bind_core.specs.ScriptTokens.{semicolon, with_newline}
use Rattle.mysql_bind_core.proofs.EndedTokenLemmas.{Ended, are_ended, ended_dash, ended_hash, ended_here, ended_later, ended_text, lowered_ended, with_end}
use Rattle.mysql_bind_core.proofs.ScriptSentLemmas.{line_opener, line_sent, opener_append, semicolon_found}

-- ---- texts that end with `--`

abbrev pub ends_dashes : List ℕ → Bool
ends_dashes [] = false
ends_dashes (a ∷ []) = false
ends_dashes (a ∷ b ∷ []) = a == dash && b == dash
ends_dashes (a ∷ b ∷ c ∷ x) = ends_dashes (b ∷ c ∷ x)

dashes_tail : (b : ℕ) (x : List ℕ) → ends_dashes (b ∷ x) ≡ false → ends_dashes x ≡ false
dashes_tail b [] n = refl
dashes_tail b (c ∷ []) n = refl
dashes_tail b (c ∷ d ∷ x) n = n

dashes_rest : (front x : List ℕ) → ends_dashes (front ++ x) ≡ false → ends_dashes x ≡ false
dashes_rest [] x n = n
dashes_rest (b ∷ front) x n = dashes_rest front x (dashes_tail b (front ++ x) n)

-- what such a text is
pub dashes_front : (text : List ℕ) → ends_dashes text ≡ true → EndsWithDashes text
dashes_front [] e = absurd (true≢false (sym e))
dashes_front (a ∷ []) e = absurd (true≢false (sym e))
dashes_front (a ∷ b ∷ []) e =
    let p = and_parts (a == dash) (b == dash) e in
    ([], ap (λ x. x ∷ b ∷ []) (eqb-true a dash p.0) ∙ ap (λ x. dash ∷ x ∷ []) (eqb-true b dash p.1))
dashes_front (a ∷ b ∷ c ∷ x) e = let r = dashes_front (b ∷ c ∷ x) e in (a ∷ r.0, ap (λ y. a ∷ y) r.1)

-- by a test of the text's end
pub no_dashes : (text : List ℕ) (found : Bool) → ((front : List ℕ) → text ≡ front ++ codes "--" → found ≡ true) → found ≡ false →
    ends_dashes text ≡ false
no_dashes text found f e =
    false_from_ne_true _ (λ d. let w = dashes_front text d in true≢false (sym (f w.0 w.1) ∙ e))

-- a text, and the same in which some bytes are in lower case
data AreLowered : List ℕ → List ℕ → Type 0 where
  lowered_none : AreLowered [] []
  lowered_more : {a b : ℕ} {x y : List ℕ} → ((b == dash) ≡ true → (a == dash) ≡ true) → AreLowered x y → AreLowered (a ∷ x) (b ∷ y)

dashes_of : {x y : List ℕ} → AreLowered x y → ends_dashes y ≡ true → ends_dashes x ≡ true
dashes_of lowered_none e = e
dashes_of (lowered_more f lowered_none) e = e
dashes_of (lowered_more {b = b} f (lowered_more {b = c} g lowered_none)) e =
    let p = and_parts (b == dash) (c == dash) e in
    and_from _ _ (f p.0) (g p.1)
dashes_of (lowered_more f (lowered_more g (lowered_more h l))) e = dashes_of (lowered_more g (lowered_more h l)) e

lower_dash : (b : ℕ) → (to_ascii_lowercase b == dash) ≡ true → (b == dash) ≡ true
lower_dash b h = grind (arith, nat_tests)

low_name : (name : List ℕ) → AreLowered name (map to_ascii_lowercase name)
low_name [] = lowered_none
low_name (b ∷ name) = lowered_more (lower_dash b) (low_name name)

low_same : (bytes : List ℕ) → AreLowered bytes bytes
low_same [] = lowered_none
low_same (b ∷ bytes) = lowered_more (λ e. e) (low_same bytes)

low_both : {x y v w : List ℕ} → AreLowered x y → AreLowered v w → AreLowered (x ++ v) (y ++ w)
low_both lowered_none l = l
low_both (lowered_more f k) l = lowered_more f (low_both k l)

low_text : (ts : List Token) → AreLowered (text_of ts) (text_of (lower_names ts))
low_text [] = lowered_none
low_text (Name name ∷ ts) = lowered_more (λ e. e) (low_both (low_name name) (low_text ts))
low_text (t ∷ ts) = low_both (low_same (bytes_of t)) (low_text ts)

no_dashes_lowered : (ts : List Token) → ends_dashes (text_of ts) ≡ false → ends_dashes (text_of (lower_names ts)) ≡ false
no_dashes_lowered ts n = false_from_ne_true _ (λ e. true≢false (sym (dashes_of (low_text ts) e) ∙ n))

-- ---- no test sees the newline, but for one of `--`

was_true : (b : Bool) → not b ≡ false → b ≡ true
was_true true e = refl
was_true false e = absurd (true≢false e)

both_false : (a b : Bool) → a ≡ false → b ≡ false → (a || b) ≡ false
both_false true b e f = absurd (true≢false e)
both_false false b e f = f

module _ (more : List ℕ) where
  begins_end : (test : ℕ → Bool) → test newline ≡ false → (x : List ℕ) → begins test x ≡ begins test (x ++ newline ∷ more)
  begins_end test n [] = sym n
  begins_end test n (b ∷ x) = refl

  place_end : (x : List ℕ) → begins_place x ≡ begins_place (x ++ newline ∷ more)
  place_end [] = refl
  place_end (b ∷ x) = ap (λ s. b == question_mark || (b == colon && s)) (begins_end is_start_byte refl x)

  tag_end : (x : List ℕ) → begins_tag x ≡ begins_tag (x ++ newline ∷ more)
  tag_end [] = refl
  tag_end (b ∷ x) = rw (begins_end is_start_byte refl x, tag_end x) refl

  dashes_end : (x : List ℕ) → ends_dashes x ≡ false → begins_dashes x ≡ begins_dashes (x ++ newline ∷ more)
  dashes_end [] n = none more
    where
      none : (more : List ℕ) → false ≡ begins_dashes (newline ∷ more)
      none [] = refl
      none (m ∷ []) = refl
      none (m ∷ k ∷ more) = refl
  dashes_end (a ∷ []) n = sym (none more)
    where
      none : (more : List ℕ) → begins_dashes (a ∷ newline ∷ more) ≡ false
      none [] = refl
      none (m ∷ more) = and_right (a == dash) false refl
  dashes_end (a ∷ b ∷ []) n = sym (none (a == dash) (b == dash) n)
    where
      none : (p q : Bool) → (p && q) ≡ false → (p && (q && true)) ≡ false
      none true true e = e
      none true false e = refl
      none false q e = refl
  dashes_end (a ∷ b ∷ c ∷ x) n = refl

  exponent_end : (x : List ℕ) → ends_dashes x ≡ false → begins_exponent_dashes x ≡ begins_exponent_dashes (x ++ newline ∷ more)
  exponent_end [] n = ap (λ s. s || false) (dashes_end [] refl)
  exponent_end (a ∷ x) n =
      ap (λ s. s || ((a == plus || a == dash) && begins_dashes x)) (dashes_end (a ∷ x) n)
      ∙ ap (λ s. begins_dashes (a ∷ (x ++ newline ∷ more)) || ((a == plus || a == dash) && s)) (dashes_end x (dashes_tail a x n))

  fraction_end : (x : List ℕ) → ends_dashes x ≡ false → begins_fraction x ≡ begins_fraction (x ++ newline ∷ more)
  fraction_end [] n = refl
  fraction_end (b ∷ x) n =
      rw (begins_end is_start_byte refl x, fraction_end x (dashes_tail b x n), exponent_end x (dashes_tail b x n)) refl

  own_end : (b : ℕ) (x : List ℕ) → ends_dashes x ≡ false → begins_own b x ≡ begins_own b (x ++ newline ∷ more)
  own_end b x n = rw (tag_end x, fraction_end x n) refl

  opens_end : (x : List ℕ) → may_open_line x ≡ may_open_line (x ++ newline ∷ more)
  opens_end [] = none more
    where
      none : (more : List ℕ) → false ≡ may_open_line (newline ∷ more)
      none [] = refl
      none (m ∷ more) = refl
  opens_end (b ∷ []) = sym (and_right (b == dash) false refl)
  opens_end (b ∷ c ∷ x) = refl

  differs_end : (b : ℕ) (x : List ℕ) → ends_dashes x ≡ false → differs_at b x ≡ differs_at b (x ++ newline ∷ more)
  differs_end b x n = rw (begins_end (λ c. c == asterisk) refl x, opens_end x, own_end b x n) refl

  special_end : (x : List ℕ) → begins_special x ≡ begins_special (x ++ newline ∷ more)
  special_end [] = refl
  special_end (b ∷ x) = rw (begins_end (λ c. c == exclamation_mark) refl x) refl

  closes_end : (b : ℕ) (x : List ℕ) → closes b x ≡ closes b (x ++ newline ∷ more)
  closes_end b x = ap (λ s. b == asterisk && s) (begins_end (λ c. c == slash) refl x)

  apart_end : (b : ℕ) (x : List ℕ) → (closes b x && not (stands_apart (drop 1 x)))
      ≡ (closes b (x ++ newline ∷ more) && not (stands_apart (drop 1 (x ++ newline ∷ more))))
  apart_end b [] =
      and_left (closes b []) _ (and_right (b == asterisk) false refl)
      ∙ sym (and_left (closes b (newline ∷ more)) _ (and_right (b == asterisk) false refl))
  apart_end b (c ∷ []) = refl
  apart_end b (c ∷ d ∷ x) = refl

  ends_end : (n : ℕ) (x : List ℕ) → ends_version n x ≡ true → ends_version n (x ++ newline ∷ more) ≡ true
  ends_end n [] h = absurd (true≢false (sym h))
  ends_end n (b ∷ x) h =
      elim (cases_Bool (is_ascii_digit b)) [
        | inl d ↦ rw d (ends_end (n + 1) x (rw d at h))
        | inr d ↦ rw (d, sym (closes_end b x)) (rw d at h)
      ]

  version_end : (x : List ℕ) → is_version x ≡ true → is_version (x ++ newline ∷ more) ≡ true
  version_end x h =
      let p = and_parts (not (begins (λ c. c == byte "0") x)) (ends_version 0 x) h in
      and_from _ _ (ap not (sym (begins_end (λ c. c == byte "0") refl x)) ∙ p.0) (ends_end 0 x p.1)

  -- a text that begins nothing begins nothing before a newline

  sign_end : (x : List ℕ) → may_begin_something exclamation_mark x ≡ false → may_begin_something exclamation_mark (x ++ newline ∷ more) ≡ false
  sign_end x h = ap not (version_end x (was_true (is_version x) h))

  other_end : (b : ℕ) (x : List ℕ) → ends_dashes x ≡ false → (b == exclamation_mark) ≡ false →
      may_begin_something b x ≡ may_begin_something b (x ++ newline ∷ more)
  other_end b x n e =
      rw (e, begins_end (λ c. c == asterisk) refl x, begins_end is_start_byte refl x, own_end b x n, apart_end b x) refl

  nothing_end : (b : ℕ) (x : List ℕ) → ends_dashes x ≡ false → may_begin_something b x ≡ false →
      may_begin_something b (x ++ newline ∷ more) ≡ false
  nothing_end b x n h =
      elim (cases_Bool (b == exclamation_mark)) [
        | inl e ↦
            let is = eqb-true b exclamation_mark e in
            subst (λ c. may_begin_something c (x ++ newline ∷ more) ≡ false) (sym is) (sign_end x (subst (λ c. may_begin_something c x ≡ false) is h))
        | inr e ↦ sym (other_end b x n e) ∙ h
      ]

  quiet_end : (x : List ℕ) → ends_dashes x ≡ false → is_quiet x ≡ true → is_quiet (x ++ newline ∷ more) ≡ true
  quiet_end [] n h = absurd (true≢false (sym h))
  quiet_end (b ∷ x) n h =
      let p = and_parts (not (may_begin_something b x)) (closes b x || is_quiet x) h in
      let t = dashes_tail b x n in
      and_from _ _ (ap not (nothing_end b x t (not-true _ p.0)))
      (elim (or_cases (closes b x) (is_quiet x) p.1) [
        | inl c ↦ rw (sym (closes_end b x) ∙ c) refl
        | inr q ↦ or_right _ _ (quiet_end x t q)
      ])

  begins_quiet_end : (x : List ℕ) → ends_dashes x ≡ false → begins_quiet x ≡ true → begins_quiet (x ++ newline ∷ more) ≡ true
  begins_quiet_end [] n h = absurd (true≢false (sym h))
  begins_quiet_end (b ∷ x) n h =
      let p = and_parts (b == asterisk) (begins_special x && is_quiet x) h in
      let q = and_parts (begins_special x) (is_quiet x) p.1 in
      and_from _ _ p.0 (and_from _ _ (sym (special_end x) ∙ q.0) (quiet_end x (dashes_tail b x n) q.1))

  token_end : (t : Token) (x : List ℕ) → ends_dashes (bytes_of t ++ x) ≡ false → is_read_alike t x ≡ true →
      is_read_alike t (x ++ newline ∷ more) ≡ true
  token_end (QuotedString quote tail) x n h = h
  token_end (BlockComment tail) x n h =
      elim (or_cases (not (begins_special tail)) (is_quiet (tail ++ x)) h) [
        | inl e ↦ rw e refl
        | inr e ↦
            let inside = dashes_tail asterisk (tail ++ x) (dashes_tail slash (asterisk ∷ (tail ++ x)) n) in
            or_right (not (begins_special tail)) _ (subst (λ y. is_quiet y ≡ true) (append_assoc tail x (newline ∷ more)) (quiet_end (tail ++ x) inside e))
      ]
  token_end (Plain b) x n h =
      let t = dashes_tail b x n in
      elim (or_cases (not (differs_at b x)) (b == slash && begins_quiet x) h) [
        | inl e ↦ rw (ap not (sym (differs_end b x t)) ∙ e) refl
        | inr e ↦
            let p = and_parts (b == slash) (begins_quiet x) e in
            or_right (not (differs_at b (x ++ newline ∷ more))) _ (and_from _ _ p.0 (begins_quiet_end x t p.1))
      ]
  token_end t x n h = h

  join_end : (x : List ℕ) → begins_exponent x ≡ begins_exponent (x ++ newline ∷ more)
  join_end [] = none more
    where
      none : (more : List ℕ) → false ≡ begins_exponent (newline ∷ more)
      none [] = refl
      none (m ∷ more) = refl
  join_end (e ∷ []) = sym (and_right (e == byte "e" || e == byte "E") false refl)
  join_end (e ∷ sign ∷ x) =
      ap (λ s. (e == byte "e" || e == byte "E") && ((sign == plus || sign == dash) && s)) (place_end x)

  joins_end : (t : Token) (x : List ℕ) → joins_number t x ≡ false → joins_number t (x ++ newline ∷ more) ≡ false
  joins_end (Plain b) x h = sym (ap (λ s. (is_ascii_digit b || b == point) && s) (join_end x)) ∙ h
  joins_end t x h = h

-- ---- the tokens

return_end : (tail : List ℕ) → holds_return tail ≡ false → holds_return (tail ++ newline ∷ []) ≡ false
return_end [] h = refl
return_end (b ∷ tail) h =
    elim (cases_Bool (b == newline)) [
      | inl e ↦ rw e refl
      | inr e ↦
          let p = or_parts (b == carriage_return && not (begins (λ c. c == newline) tail)) (holds_return tail) (rw e at h) in
          rw e (both_false _ _ (before tail p.0) (return_end tail p.1))
    ]
  where
    before : (tail : List ℕ) → (b == carriage_return && not (begins (λ c. c == newline) tail)) ≡ false →
        (b == carriage_return && not (begins (λ c. c == newline) (tail ++ newline ∷ []))) ≡ false
    before [] h = and_right (b == carriage_return) false refl
    before (c ∷ tail) h = h

alike_ended : {ts us : List Token} → Ended ts us → ends_dashes (text_of ts) ≡ false → AreReadAlikeBefore [] ts → AreReadAlikeBefore [] us
alike_ended ended_here n h = (refl, (refl, tt))
alike_ended (ended_hash tail) n h = (ap not (return_end tail (not-true _ h.0)), (refl, tt))
alike_ended (ended_dash gap tail) n h =
    let p = and_parts (gap == space) (not (holds_return tail)) h.0 in
    (and_from _ _ p.0 (ap not (return_end tail (not-true _ p.1))), (refl, tt))
alike_ended (ended_later {t = t} {ts = ts} e) n h = (
  subst (λ y. is_read_alike t y ≡ true) (sym (ended_text e)) (token_end (semicolon ∷ []) t (text_of ts) n h.0),
  alike_ended e (dashes_rest (bytes_of t) (text_of ts) n) h.1,
)

join_ended : {ts us : List Token} → Ended ts us → JoinNoNumberBefore [] ts → JoinNoNumberBefore [] us
join_ended ended_here h = (refl, (refl, tt))
join_ended (ended_hash tail) h = (refl, (refl, tt))
join_ended (ended_dash gap tail) h = (refl, (refl, tt))
join_ended (ended_later {t = t} {ts = ts} e) h =
    (subst (λ y. joins_number t y ≡ false) (sym (ended_text e)) (joins_end (semicolon ∷ []) t (text_of ts) h.0), join_ended e h.1)

portable_ended : (ts : List Token) → ends_dashes (text_of ts) ≡ false → IsPortableInClient ts → IsPortableInClient (with_end ts)
portable_ended ts n p = record {
  portable = record { alike = alike_ended (are_ended ts) n p.portable.alike; apart = join_ended (are_ended ts) p.portable.apart };
  no_opener = opener_append (with_newline ts) (Plain semicolon ∷ []) (line_opener ts p.no_opener) tt;
  sent = AreSentBefore-append (with_newline ts) (Plain semicolon ∷ []) [] true true (line_sent (semicolon ∷ []) ts true true p.sent) (semicolon_found _ _ [], tt);
}

-- a portable query that ends within no token, and not with `--`
pub portable_with_end : (mode : Bool) (query : List ℕ) → OnTokens mode (query ++ end) (λ vs. None ≡ long_end vs) →
    ends_dashes query ≡ false → IsPortableQuery mode query → IsPortableQuery mode (query ++ end)
portable_with_end mode query closed n o =
    let r = reading_exists (wide_reading mode) (query ++ end) in
    let own : ends_dashes (text_of o.0) ≡ false = subst (λ x. ends_dashes x ≡ false) (sym (reading_text (wide_reading mode) query o.0 o.1)) n in (
      r.0,
      r.1,
      subst IsPortableInClient (sym (lowered_ended mode query o.0 r.0 o.1 closed r.1))
          (portable_ended (lower_names o.0) (no_dashes_lowered o.0 own) o.2),
    )

-- ---- what is found

-- what is found in a query with its end
pub found_with_end : (found : Option Unportable) (mode : Bool) (query ended : List ℕ) → ended ≡ query ++ end →
    IsPortableQuery mode query → OnWideTokens mode ended (λ ts. (found ≡ None) ↔ IsPortableInClient (lower_names ts)) →
    found ≡ None → IsPortableQuery mode query × IsPortableQuery mode (query ++ end)
found_with_end found mode query ended e own o none = (own, subst (IsPortableQuery mode) e (o.0, o.1, o.2.0 none))

-- what holds whatever the result is
pub on_error : {A E : Type 0} (r : Result A E) (P : Type 0) → P → OnErr r P
on_error (Ok a) P p = tt
on_error (Err e) P p = p
