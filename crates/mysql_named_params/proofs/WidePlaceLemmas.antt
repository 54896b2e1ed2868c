-- A wide name in front of a text, by the bytes of the text.
use Rattle.std.specs.Prelude.{Bool}
use Rattle.std.proofs.Common.{◌≡◌, ◌≢◌, inl, inr, ℕ, zero, suc, ◌+◌, ◌<◌, ◌≤◌, ◌==◌, true, false, List, [], ◌∷◌, ◌++◌, length, drop, get_or, refl, sym, ap, ◌∙◌, arith, append_assoc, length-append, eq-eqb, true≢false}
use Rattle.std.specs.List.{list_all}
use Rattle.std.proofs.lemmas.Bool.{cases_Bool, and_parts, and_from, or_cases, eqb-true}
use Rattle.mysql_named_params.specs.Bytes.{colon, single_quote, double_quote, begins, is_name_byte, is_start_byte, is_string_quote}
use Rattle.mysql_named_params.specs.Tokens.{Token, IsName, AreTokensBefore, text_of, bytes_of, QuotedString, Name, Plain}
use Rattle.mysql_named_params.specs.FirstToken.{kind_of}
use Rattle.mysql_named_params.specs.Lanes.{EachPasses}
use Rattle.mysql_named_params.specs.declared.tokens.TokenKind.TheVariants as kind
use Rattle.mysql_named_params.specs.WideNames.{is_wide_start, is_wide_byte, run, begins_wide, widened_from, widened}
use Rattle.mysql_named_params.specs.WidePlaces.{opens_wide_name, wide_len}
use Rattle.mysql_named_params.proofs.WideLemmas.{after_run, goes_on, opens, stays, plain_case, run_wide, run_other, name_byte_wide, start_byte_wide}

-- ---- the run of a wide name, by the bytes

quote_is : (P : ℕ → Bool) (q : ℕ) → is_string_quote q ≡ true → P single_quote ≡ false →
    P double_quote ≡ false → P q ≡ false
quote_is P q h s d = elim (or_cases (q == single_quote) (q == double_quote) h) [
  | inl e ↦ ap P (eqb-true q single_quote e) ∙ s
  | inr e ↦ ap P (eqb-true q double_quote e) ∙ d
]

wide_len_other : (b : ℕ) (bs : List ℕ) → is_wide_byte b ≡ false → wide_len (b ∷ bs) ≡ 0
wide_len_other b bs h = rw h refl

wide_len_wide : (b : ℕ) (bs : List ℕ) → is_wide_byte b ≡ true → wide_len (b ∷ bs) ≡ suc (wide_len bs)
wide_len_wide b bs h = rw h refl

pub run_len : (mode : Bool) (ts : List Token) → AreTokensBefore mode [] ts →
    wide_len (text_of ts) ≡ length (run ts)
run_len mode [] h = refl
run_len mode (Plain b ∷ ts) h = elim (cases_Bool (is_wide_byte b)) [
  | inl w ↦ wide_len_wide b (text_of ts) w ∙ (ap suc (run_len mode ts h.1) ∙ ap length (sym (run_wide b ts w)))
  | inr w ↦ wide_len_other b (text_of ts) w ∙ ap length (sym (run_other b ts w))
]
run_len mode (QuotedString q tail ∷ ts) h = wide_len_other q (tail ++ text_of ts) (quote_is is_wide_byte q h.0.0 refl refl)
run_len mode (t ∷ ts) h = refl

pub run_text : (ts : List Token) → run ts ++ text_of (after_run ts) ≡ text_of ts
run_text [] = refl
run_text (Plain b ∷ ts) = elim (cases_Bool (is_wide_byte b)) [
  | inl w ↦ rw w (ap (λ x. b ∷ x) (run_text ts))
  | inr w ↦ rw w refl
]
run_text (t ∷ ts) = refl

pub run_each : (mode : Bool) (ts : List Token) → AreTokensBefore mode [] ts →
    AreTokensBefore mode [] (after_run ts)
run_each mode [] h = h
run_each mode (Plain b ∷ ts) h = elim (cases_Bool (is_wide_byte b)) [
  | inl w ↦ rw w (run_each mode ts h.1)
  | inr w ↦ rw w h
]
run_each mode (t ∷ ts) h = h

pub run_left : (ts : List Token) → widened_from true ts ≡ widened_from false (after_run ts)
run_left [] = refl
run_left (Plain b ∷ ts) = elim (cases_Bool (is_wide_byte b)) [
  | inl w ↦ rw w (run_left ts)
  | inr w ↦ rw w refl
]
run_left (t ∷ ts) = refl

pub begins_wide_is : (mode : Bool) (ts : List Token) → AreTokensBefore mode [] ts →
    begins is_wide_start (text_of ts) ≡ begins_wide ts
begins_wide_is mode [] h = refl
begins_wide_is mode (QuotedString q tail ∷ ts) h = quote_is is_wide_start q h.0.0 refl refl
begins_wide_is mode (t ∷ ts) h = refl

wide_len_front : (bs rest : List ℕ) → list_all is_name_byte bs ≡ true →
    wide_len (bs ++ rest) ≡ length bs + wide_len rest
wide_len_front [] rest h = omega arith
wide_len_front (b ∷ bs) rest h =
    let p = and_parts (is_name_byte b) (list_all is_name_byte bs) h in
    omega (arith, wide_len_wide b (bs ++ rest) (name_byte_wide b p.0), wide_len_front bs rest p.1)

-- ---- a wide name in front

-- a wide name is the first of the tokens in their wide reading, and these are left
pub record Opened (mode : Bool) (ts : List Token) : Type 0 where
  pub name : List ℕ
  pub left : List Token
  pub wide : widened ts ≡ Name name ∷ widened left
  pub each : AreTokensBefore mode [] left
  pub text : bytes_of (Name name) ++ text_of left ≡ text_of ts
  pub len : length (bytes_of (Name name)) ≡ 1 + wide_len (drop 1 (text_of ts))

start_first : (name : List ℕ) → IsName name → (b : ℕ) × (bs : List ℕ) × (name ≡ b ∷ bs)
    × (is_start_byte b ≡ true) × (list_all is_name_byte bs ≡ true)
start_first [] h = absurd h
start_first (b ∷ bs) h = (b, bs, refl, h.0, h.1)

start_name_byte : (b : ℕ) → is_start_byte b ≡ true → is_name_byte b ≡ true
start_name_byte b h = rw h refl

name_bytes : (name : List ℕ) → IsName name → list_all is_name_byte name ≡ true
name_bytes [] h = absurd h
name_bytes (b ∷ bs) h = and_from _ _ (start_name_byte b h.0) h.1

pub opened : (mode : Bool) (ts : List Token) → AreTokensBefore mode [] ts →
    opens_wide_name (text_of ts) ≡ true → Opened mode ts
opened mode [] h o = absurd (true≢false (sym o))
opened mode (Plain b ∷ ts) h o =
    let p = and_parts (b == colon) (begins is_wide_start (text_of ts)) o in
    elim (plain_case false b ts) [
      | goes_on i w e ↦ absurd (true≢false (sym i))
      | opens c w e ↦ record {
        name = run ts;
        left = after_run ts;
        wide = e ∙ ap (λ x. Name (run ts) ∷ x) (run_left ts);
        each = run_each mode ts h.1;
        text = ap (λ x. colon ∷ x) (run_text ts) ∙ ap (λ x. x ∷ text_of ts) (sym c);
        len = omega (arith, run_len mode ts h.1);
      }
      | stays i c e ↦ absurd (true≢false (sym (and_from (b == colon) (begins_wide ts) p.0 (sym (begins_wide_is mode ts h.1) ∙ p.1)) ∙ c))
    ]
opened mode (Name name ∷ ts) h o = record {
  name = name ++ run ts;
  left = after_run ts;
  wide = ap (λ x. Name (name ++ run ts) ∷ x) (run_left ts);
  each = run_each mode ts h.1;
  text = ap (λ x. colon ∷ x) (append_assoc name (run ts) _ ∙ ap (λ x. name ++ x) (run_text ts));
  len = omega (arith, run_len mode ts h.1, length-append name (run ts), wide_len_front name (text_of ts) (name_bytes name h.0.0));
}
opened mode (QuotedString q tail ∷ ts) h o =
    let p = and_parts (q == colon) _ o in
    absurd (true≢false (sym p.0 ∙ quote_is (λ b. b == colon) q h.0.0 refl refl))
opened mode (t ∷ ts) h o = absurd (true≢false (sym o))

-- otherwise the first token stays, and it is no name
pub not_opened : (mode : Bool) (t : Token) (ts : List Token) → AreTokensBefore mode [] (t ∷ ts) →
    opens_wide_name (text_of (t ∷ ts)) ≡ false →
    (widened (t ∷ ts) ≡ t ∷ widened ts) × (kind_of t ≢ kind.Name)
not_opened mode (Plain b) ts h o =
    elim (plain_case false b ts) [
      | goes_on i w e ↦ absurd (true≢false (sym i))
      | opens c w e ↦ absurd (true≢false (sym (and_from (b == colon) (begins is_wide_start (text_of ts)) (eq-eqb b colon c) (begins_wide_is mode ts h.1 ∙ w)) ∙ o))
      | stays i c e ↦ (e, λ k. cc)
    ]
not_opened mode (Name name) ts h o =
    let f = start_first name h.0.0 in
    let yes : opens_wide_name (colon ∷ (name ++ text_of ts)) ≡ true = ap (λ x. opens_wide_name (colon ∷ (x ++ text_of ts))) f.2 ∙ start_byte_wide f.0 f.3 in
    absurd (true≢false (sym yes ∙ o))
not_opened mode t ts h o = (refl, λ k. cc)

-- ---- the count of wide bytes

pub wide_run : (text : List ℕ) (n : ℕ) → n ≤ length text → EachPasses is_wide_byte text 0 n →
    (n < length text → is_wide_byte (get_or text n 0) ≡ false) → n ≡ wide_len text
wide_run [] n le each stops = omega (arith, le)
wide_run (b ∷ bs) zero le each stops = sym (wide_len_other b bs (stops (omega arith)))
wide_run (b ∷ bs) (suc n) le each stops =
    let more : n ≡ wide_len bs = wide_run bs n (omega (arith, le)) (λ k from to. each (suc k) (omega arith) (omega (arith, to))) (λ lt. stops (omega (arith, lt))) in
    ap suc more ∙ sym (wide_len_wide b bs (each 0 (omega arith) (omega arith)))
