-- A clear query is steady, and no construct begins in it, at whatever byte a token begins.
use Rattle.std.specs.Prelude.{Bool, cond, not, nat_lt}
use Rattle.std.proofs.Common.{◌≡◌, ◌==◌, ◌&&◌, ◌||◌, ◌-◌, ℕ, zero, suc, true, false, List, [], ◌∷◌, ◌++◌, length, take, Option, Some, None, refl, sym, ap, ◌∙◌, subst, arith, true≢false, take_at}
use Rattle.std.specs.Char.{is_ascii_digit}
use Rattle.std.specs.List.{list_all}
use Rattle.std.specs.Str.{byte}
use Rattle.std.proofs.lemmas.Bool.Decides.{nat_tests}
use Rattle.std.proofs.lemmas.Bool.{and_parts, and_from, or_parts, not-true, not-false, eqb-true}
use Rattle.mysql_named_params.specs.Bytes.{asterisk, backquote, bracket, carriage_return, colon, dash, dollar, double_quote, hash, newline, plus, point, question_mark, slash, space, is_start_byte, is_string_quote, begins, IsUpTo}
use Rattle.mysql_named_params.specs.Tokens.{Token, bytes_of, text_of, IsToken, IsTokens, AreTokensBefore, QuotedString, QuotedIdentifier, HashComment, DashComment, BlockComment, Name, Mark, Plain}
use Rattle.mysql_named_params.specs.WideNames.{is_capital}
use Rattle.mysql_portable.specs.FirstUnportable.{special_construct, first_unportable}
use Rattle.mysql_portable.specs.FrontConstruct.{block_construct, front_construct}
use Rattle.mysql_portable.specs.Portable.{stands_inside, may_open_line, begins_exponent, IsPortable}
use Rattle.mysql_portable.specs.Quiet.{is_quiet}
use Rattle.mysql_portable.specs.Server.{keeps_dashes, begins_place, begins_special, begins_tag, begins_dashes, begins_exponent_dashes, begins_fraction, is_tag_byte, holds_return, escapes_backquote}
use Rattle.mysql_portable.specs.Steady.{is_steady}
use Rattle.mysql_portable.specs.declared.portable.Construct.{Construct}
use Rattle.mysql_portable.specs.declared.portable.Construct.TheVariants as construct
use Rattle.mysql_portable.specs.Clear.{is_sign, may_begin_tag, begins_special_block, may_take_dashes, may_take_place, begins_wide_place, is_in_doubt, is_in_doubt_for, is_in_doubt_in_client, is_clear_after}
use Rattle.mysql_portable.proofs.FrontLemmas.{passes, front_is}
use Rattle.mysql_portable.proofs.PortableLemmas.{second_false, false_if, returns_alike}
use Rattle.mysql_portable.proofs.SharpLemmas.{string_ends}
use Rattle.mysql_portable.proofs.SteadyLemmas.{steady_other}
use Rattle.mysql_portable.proofs.UnportableLemmas.{AllPass, portable_has_none, none_passes, pass_parts}

-- ---- tests

neither : (a b : Bool) → a ≡ false → b ≡ false → (a || b) ≡ false
neither a b p q = rw (p, q) refl

pub and_false : (a : Bool) → (a && false) ≡ false
and_false true = refl
and_false false = refl

or_true : (a : Bool) → (a || true) ≡ true
or_true true = refl
or_true false = refl

third_true : (a b c : Bool) → c ≡ true → (a || (b || c)) ≡ true
third_true true b c h = refl
third_true false true c h = refl
third_true false false c h = h

first_two : (a b c : Bool) → (a || b) ≡ true → (a || (b || c)) ≡ true
first_two true b c h = refl
first_two false true c h = refl
first_two false false c h = absurd (true≢false (sym h))

and_shorter : (a b c : Bool) → (a && b) ≡ false → (a && (b && c)) ≡ false
and_shorter true true c h = absurd (true≢false h)
and_shorter true false c h = refl
and_shorter false b c h = refl

-- ---- a byte that isn't in doubt

pub record NoDoubt (before b : ℕ) (rest : List ℕ) : Type 0 where
  pub steady : is_steady b ≡ true
  pub no_return : (b == carriage_return && not (begins (λ c. c == newline) rest)) ≡ false
  pub no_bracket : (b == bracket) ≡ false
  pub no_tag : (b == dollar && begins may_begin_tag rest) ≡ false
  pub no_block : (b == slash && begins_special_block rest) ≡ false
  pub no_dashes : (b == dash && (may_open_line rest || (may_take_dashes before && begins (λ c. c == dash) rest))) ≡ false
  pub no_place : (may_take_place before && begins_place (b ∷ rest)) ≡ false

-- a place of the grammar is one by wide names
no_narrower : (t q k s c : Bool) → (t && (q || (k && (s || c)))) ≡ false → (t && (q || (k && s))) ≡ false
no_narrower false q k s c h = refl
no_narrower true true k s c h = h
no_narrower true false false s c h = refl
no_narrower true false true true c h = h
no_narrower true false true false c h = refl

no_place_narrower : (t : Bool) (b : ℕ) (rest : List ℕ) → (t && begins_wide_place (b ∷ rest)) ≡ false → (t && begins_place (b ∷ rest)) ≡ false
no_place_narrower t b [] h = h
no_place_narrower t b (c ∷ rest) h = no_narrower t (b == question_mark) (b == colon) (is_start_byte c) (is_capital c) h

pub no_doubt : (before b : ℕ) (rest : List ℕ) → is_in_doubt before b rest ≡ false → NoDoubt before b rest
no_doubt before b rest h =
    let p1 = or_parts (not (is_steady b)) _ h in
    let p0 = or_parts (b == carriage_return && not (begins (λ c. c == newline) rest)) _ p1.1 in
    let p2 = or_parts (b == bracket) _ p0.1 in
    let p3 = or_parts (b == dollar && begins may_begin_tag rest) _ p2.1 in
    let p4 = or_parts (b == slash && begins_special_block rest) _ p3.1 in
    let p5 = or_parts (b == dash && (may_open_line rest || (may_take_dashes before && begins (λ c. c == dash) rest))) _ p4.1 in
    record { steady = not-false _ p1.0; no_return = p0.0; no_bracket = p2.0; no_tag = p3.0; no_block = p4.0; no_dashes = p5.0; no_place = no_place_narrower (may_take_place before) b rest p5.1 }

module _ (client : Bool) where
  pub clear_step : (before b : ℕ) (bs : List ℕ) → is_clear_after client before (b ∷ bs) ≡ true →
      NoDoubt before b bs × (is_clear_after client b bs ≡ true)
  clear_step before b bs h =
      let p = and_parts (not (is_in_doubt_for client before b bs)) (is_clear_after client b bs) h in
      let q = or_parts (is_in_doubt before b bs) (client && is_in_doubt_in_client b bs) (not-true _ p.0) in
      (no_doubt before b bs q.0, p.1)

  -- the rest of a clear text is clear after some byte
  pub clear_rest : (xs ys : List ℕ) (before : ℕ) → is_clear_after client before (xs ++ ys) ≡ true →
      (last : ℕ) × (is_clear_after client last ys ≡ true)
  clear_rest [] ys before h = (before, h)
  clear_rest (x ∷ xs) ys before h = clear_rest xs ys x ((clear_step before x (xs ++ ys) h).1)

  clear_is_steady : (before : ℕ) (bs : List ℕ) → is_clear_after client before bs ≡ true → list_all is_steady bs ≡ true
  clear_is_steady before [] h = refl
  clear_is_steady before (b ∷ bs) h =
      let s = clear_step before b bs h in
      and_from _ _ s.0.steady (clear_is_steady b bs s.1)

  -- ---- the constructs that begin in it

  no_tag_front : (bs : List ℕ) → begins may_begin_tag bs ≡ false → begins_tag bs ≡ false
  no_tag_front [] h = refl
  no_tag_front (b ∷ bs) h =
      let p1 = or_parts (b == dollar) _ h in
      let p2 = or_parts (b == question_mark) _ p1.1 in
      let p3 = or_parts (b == colon) (is_tag_byte b) p2.1 in
      neither _ _ p1.0 (neither _ _ (neither _ _ p2.0 (ap (λ x. x && begins is_start_byte bs) p3.0)) (ap (λ x. x && begins_tag bs) p3.1))

  no_place_after : (before : ℕ) (bs : List ℕ) → may_take_place before ≡ true → is_clear_after client before bs ≡ true →
      begins_place bs ≡ false
  no_place_after before [] t h = refl
  no_place_after before (b ∷ bs) t h = second_false _ _ ((clear_step before b bs h).0.no_place) t

  no_dashes_after : (before : ℕ) (bs : List ℕ) → may_take_dashes before ≡ true → is_clear_after client before bs ≡ true →
      begins_dashes bs ≡ false
  no_dashes_after before [] t h = refl
  no_dashes_after before (a ∷ []) t h = refl
  no_dashes_after before (a ∷ b ∷ []) t h = refl
  no_dashes_after before (a ∷ b ∷ gap ∷ bs) t h =
      let n = (clear_step before a (b ∷ gap ∷ bs) h).0 in
      false_if (a == dash) (b == dash && not (keeps_dashes gap)) (λ e.
      let both = or_parts (may_open_line (b ∷ gap ∷ bs)) (may_take_dashes before && b == dash) (second_false _ _ n.no_dashes e) in
      ap (λ x. x && not (keeps_dashes gap)) (second_false (may_take_dashes before) (b == dash) both.1 t))

  no_exponent_dashes : (before : ℕ) (bs : List ℕ) → may_take_dashes before ≡ true → is_clear_after client before bs ≡ true →
      begins_exponent_dashes bs ≡ false
  no_exponent_dashes before [] t h = refl
  no_exponent_dashes before (a ∷ bs) t h =
      neither _ _ (no_dashes_after before (a ∷ bs) t h)
      (false_if (a == plus || a == dash) (begins_dashes bs) (λ sign. no_dashes_after a bs (third_true _ _ _ sign) ((clear_step before a bs h).1)))

  no_fraction : (before : ℕ) (bs : List ℕ) → (is_ascii_digit before || before == point) ≡ true →
      is_clear_after client before bs ≡ true → begins_fraction bs ≡ false
  no_fraction before [] t h = refl
  no_fraction before (b ∷ bs) t h =
      let more = (clear_step before b bs h).1 in
      neither _ _ (no_place_after before (b ∷ bs) (first_two (is_ascii_digit before) (before == point) (is_sign before) t) h)
      (neither _ _ (false_if (is_ascii_digit b) (begins_fraction bs) (λ d. no_fraction b bs (ap (λ x. x || b == point) d) more))
      (false_if (b == byte "e" || b == byte "E") (begins_exponent_dashes bs) (λ e. no_exponent_dashes b bs (first_two (b == byte "e") (b == byte "E") (is_sign b) e) more)))

  no_exponent : (before : ℕ) (bs : List ℕ) → is_clear_after client before bs ≡ true → begins_exponent bs ≡ false
  no_exponent before [] h = refl
  no_exponent before (e ∷ []) h = refl
  no_exponent before (e ∷ sign ∷ bs) h =
      let more = (clear_step e sign bs ((clear_step before e (sign ∷ bs) h).1)).1 in
      false_if (e == byte "e" || e == byte "E") _ (λ x.
      false_if (sign == plus || sign == dash) (begins_place bs) (λ s. no_place_after sign bs (third_true _ _ _ s) more))

  no_block_front : (bs : List ℕ) → begins_special_block bs ≡ false → block_construct bs ≡ None
  no_block_front [] h = refl
  no_block_front (b ∷ bs) h =
      ap (λ x. cond x (Some (special_construct bs)) None) (and_shorter (b == asterisk) (begins_special bs) (not (is_quiet bs)) h)

  -- no backslash is before a backquote
  no_escape : (before : ℕ) (bs : List ℕ) (n : ℕ) → is_clear_after client before bs ≡ true → escapes_backquote (take n bs) ≡ false
  no_escape before bs zero h = refl
  no_escape before [] (suc n) h = refl
  no_escape before (b ∷ bs) (suc n) h =
      let s = clear_step before b bs h in
      let no_backslash : (b == byte "\\") ≡ false = not-true _ (and_parts (nat_lt b 128) _ s.0.steady).1 in
      false_if (not (b == backquote)) _ (λ e. neither _ _ (ap (λ x. x && begins (λ c. c == backquote) (take n bs)) no_backslash) (no_escape b bs n s.1))

  -- no carriage return is before anything except a newline
  no_return_in : (before : ℕ) (bs : List ℕ) → is_clear_after client before bs ≡ true → holds_return bs ≡ false
  no_return_in before [] h = refl
  no_return_in before (b ∷ bs) h =
      let s = clear_step before b bs h in
      false_if (not (b == newline)) _ (λ e. neither _ _ s.0.no_return (no_return_in b bs s.1))

  none_of : (a q r s d k t f e : Bool) (block : Option Construct) → a ≡ false → q ≡ false → r ≡ false →
      (s ≡ true → block ≡ None) → d ≡ false → k ≡ false → t ≡ false → f ≡ false → e ≡ false →
      cond a (Some construct.EscapedQuote) (cond q (Some construct.EscapedBackquote) (cond r (Some construct.ReturnInComment)
      (cond s block (cond d (Some construct.Dashes)
      (cond k (Some construct.Bracket) (cond t (Some construct.DollarQuote)
      (cond f (Some construct.DashesAfterExponent) (cond e (Some construct.PlaceAfterExponent) None)))))))) ≡ None
  none_of a q r true d k t f e block pa pq pr slash q1 q2 q3 q4 q5 = rw (pa, pq, pr) (slash refl)
  none_of a q r false d k t f e block pa pq pr slash q1 q2 q3 q4 q5 = rw (pa, pq, pr, q1, q2, q3, q4, q5) refl

  -- no construct begins with the first byte, if no quote is inside of a text in `"`, and no
  -- carriage return in a comment of one line
  none_at_front : (before b : ℕ) (bs : List ℕ) (len : ℕ) → is_clear_after client before (b ∷ bs) ≡ true →
      (b == double_quote && stands_inside double_quote (take (len - 1) bs)) ≡ false →
      ((b == hash || b == dash) && holds_return (take (len - 1) bs)) ≡ false →
      front_construct (b ∷ bs) len ≡ None
  none_at_front before b bs len h q r =
      let s = clear_step before b bs h in
      let n = s.0 in
      none_of _ _ _ (b == slash) (b == dash && may_open_line bs) (b == bracket) (b == dollar && begins_tag bs)
      (b == point && begins_fraction bs) ((is_ascii_digit b || b == point) && begins_exponent bs) (block_construct bs)
      q
      (false_if (b == backquote) _ (λ e. no_escape b bs (len - 1) s.1))
      r
      (λ e. no_block_front bs (second_false _ _ n.no_block e))
      (false_if _ _ (λ e. (or_parts (may_open_line bs) _ (second_false _ _ n.no_dashes e)).0))
      n.no_bracket
      (false_if _ _ (λ e. no_tag_front bs (second_false _ _ n.no_tag e)))
      (false_if _ _ (λ e. no_fraction b bs (ap (λ x. is_ascii_digit b || x) e ∙ or_true (is_ascii_digit b)) s.1))
      (false_if _ _ (λ e. no_exponent b bs s.1))

  -- ---- tokens

  no_quote_inside : (q : ℕ) (tail rest : List ℕ) (n : ℕ) → n ≡ length tail → stands_inside q tail ≡ false →
      (q == double_quote && stands_inside double_quote (take n (tail ++ rest))) ≡ false
  no_quote_inside q tail rest n l h =
      false_if _ _ (λ e. ap (stands_inside double_quote) (take_at tail rest n (sym l)) ∙ subst (λ x. stands_inside x tail ≡ false) (eqb-true q double_quote e) h)

  quote_no_line : (q : ℕ) → is_string_quote q ≡ true → (q == hash || q == dash) ≡ false
  quote_no_line q h = grind (arith, nat_tests)

  gap_no_return : (gap : ℕ) → not (gap == space || (gap == newline || keeps_dashes gap)) ≡ false → (gap == carriage_return) ≡ false
  gap_no_return gap h = grind (arith, nat_tests)

  -- a clear comment of one line holds no carriage return
  line_passes : (before : ℕ) (tail rest : List ℕ) → IsUpTo (newline ∷ []) tail rest → is_clear_after client before (tail ++ rest) ≡ true →
      holds_return tail ≡ false
  line_passes before tail rest u c = sym (returns_alike tail rest u) ∙ no_return_in before (tail ++ rest) c

  hash_passes : (before : ℕ) (tail rest : List ℕ) (n : ℕ) → n ≡ length tail → IsUpTo (newline ∷ []) tail rest →
      is_clear_after client before (hash ∷ (tail ++ rest)) ≡ true → holds_return (take n (tail ++ rest)) ≡ false
  hash_passes before tail rest n l u c =
      ap holds_return (take_at tail rest n (sym l)) ∙ line_passes hash tail rest u ((clear_step before hash (tail ++ rest) c).1)

  dash_passes : (before gap : ℕ) (tail rest : List ℕ) (n : ℕ) → n ≡ length (dash ∷ gap ∷ tail) → IsUpTo (newline ∷ []) tail rest →
      is_clear_after client before (dash ∷ dash ∷ gap ∷ (tail ++ rest)) ≡ true → holds_return (take n (dash ∷ gap ∷ (tail ++ rest))) ≡ false
  dash_passes before gap tail rest n l u c =
      let first = clear_step before dash (dash ∷ gap ∷ (tail ++ rest)) c in
      let second = clear_step dash dash (gap ∷ (tail ++ rest)) first.1 in
      let third = clear_step dash gap (tail ++ rest) second.1 in
      let line : may_open_line (dash ∷ gap ∷ (tail ++ rest)) ≡ false = (or_parts (may_open_line (dash ∷ gap ∷ (tail ++ rest))) _ first.0.no_dashes).0 in
      ap holds_return (take_at (dash ∷ gap ∷ tail) rest n (sym l))
      ∙ false_if (not (gap == newline)) _ (λ e.
      neither _ _ (ap (λ x. x && not (begins (λ c. c == newline) tail)) (gap_no_return gap line)) (line_passes gap tail rest u third.1))

  token_passes : (t : Token) (rest : List ℕ) (before : ℕ) → IsToken true t rest →
      is_clear_after client before (bytes_of t ++ rest) ≡ true → passes t rest ≡ true
  token_passes t rest before h c = none_passes t rest (sym (front_is true t rest h) ∙ go t h c)
    where
      go : (t : Token) → IsToken true t rest → is_clear_after client before (bytes_of t ++ rest) ≡ true →
          front_construct (bytes_of t ++ rest) (length (bytes_of t)) ≡ None
      go (QuotedString quote tail) h c =
          none_at_front before quote (tail ++ rest) (length (quote ∷ tail)) c (no_quote_inside quote tail rest (length (quote ∷ tail) - 1) (omega arith) (string_ends quote tail rest h.1)) (ap (λ x. x && holds_return (take (length (quote ∷ tail) - 1) (tail ++ rest))) (quote_no_line quote h.0))
      go (QuotedIdentifier tail) h c = none_at_front before backquote (tail ++ rest) (length (bytes_of (QuotedIdentifier tail))) c refl refl
      go (HashComment tail) h c = none_at_front before hash (tail ++ rest) (length (bytes_of (HashComment tail))) c refl (hash_passes before tail rest (length (hash ∷ tail) - 1) (omega arith) h c)
      go (DashComment gap tail) h c = none_at_front before dash (dash ∷ gap ∷ (tail ++ rest)) (length (bytes_of (DashComment gap tail))) c refl (dash_passes before gap tail rest (length (dash ∷ dash ∷ gap ∷ tail) - 1) (omega arith) h.2 c)
      go (BlockComment tail) h c = none_at_front before slash (asterisk ∷ (tail ++ rest)) (length (bytes_of (BlockComment tail))) c refl refl
      go (Name name) h c = none_at_front before colon (name ++ rest) (length (bytes_of (Name name))) c refl refl
      go Mark h c = none_at_front before question_mark rest (length (bytes_of Mark)) c refl refl
      go (Plain b) h c = none_at_front before b rest 1 c (and_false (b == double_quote)) (and_false (b == hash || b == dash))

  all_pass : (ts : List Token) (before : ℕ) → AreTokensBefore true [] ts →
      is_clear_after client before (text_of ts) ≡ true → AllPass [] ts
  all_pass [] before h c = tt
  all_pass (t ∷ ts) before h c =
      let more = clear_rest (bytes_of t) (text_of ts) before c in
      (token_passes t (text_of ts) before h.0 c, all_pass ts more.0 h.1 more.1)

  -- ---- queries

  portable_if_all_pass : (ts : List Token) → AllPass [] ts → IsPortable ts
  portable_if_all_pass ts h = let p = pass_parts ts h in record { alike = p.0; apart = p.1 }

  pub clear_query_is_steady : (query : List ℕ) → is_clear_after client space query ≡ true → list_all is_steady query ≡ true
  clear_query_is_steady query c = clear_is_steady _ query c

  pub clear_is_portable : (mode : Bool) (query : List ℕ) (ts : List Token) → IsTokens mode query ts → is_clear_after client space query ≡ true →
      IsPortable ts
  clear_is_portable mode query ts is c =
      let same : IsTokens true query ts = steady_other mode true query ts (clear_query_is_steady query c) is in
      portable_if_all_pass ts (all_pass ts _ same.each (subst (λ x. is_clear_after client space x ≡ true) (sym same.text) c))

  pub clear_has_none : (mode : Bool) (query : List ℕ) (ts : List Token) → IsTokens mode query ts → is_clear_after client space query ≡ true →
      first_unportable ts ≡ None
  clear_has_none mode query ts is c = portable_has_none ts (clear_is_portable mode query ts is c)
