-- A string that is walked from quote to quote.
use Rattle.std.proofs.Common.{◌≡◌, ◌≢◌, inl, inr, ℕ, zero, suc, ◌+◌, ◌-◌, ◌<◌, ◌≤◌, ◌&&◌, not, Bool, true, false, true≢false, List, length, length-drop, take, drop, get_or, refl, sym, ap, ◌∙◌, subst, arith}
use Rattle.std.proofs.lemmas.List.{get_or-drop}
use Rattle.std.proofs.lemmas.Bool.{cases_Bool, cases_lt, eq-eqb, eqb-true, eqb-false}
use Rattle.std.proofs.lemmas.Simd.{none_from_empty_mask}
use lib.Count.{count_trailing_zeros}
use Rattle.memchr.specs.Find.{is_byte, Nowhere, NoneBefore, Passes}
use Rattle.mysql_sql_text.specs.StringUnits.{is_escape}
use Rattle.mysql_sql_text.proofs.MaskLemmas.{IsMask}
use Rattle.mysql_named_params.specs.Tokens.{IsStringTail}
use Rattle.mysql_named_params.specs.ClosingQuote.{is_escaped, NoneCloses, IsNextQuote}
use Rattle.mysql_named_params.specs.TokensOf.{string_len}
use Rattle.mysql_named_params.proofs.LaneLemmas.{lowest_bit}
use Rattle.mysql_named_params.proofs.TokenEndLemmas.{string_at, string_stops, string_goes_on, string_skips, string_ends}

-- the string goes on up to this index, at which a byte may be escaped
abbrev pub GoesOn : Bool → ℕ → List ℕ → ℕ → Type 0
GoesOn mode q text at =
    (at ≤ length text)
    × (at + string_len mode q (is_escaped mode text at) (drop at text) ≡ string_len mode q false text)

pub goes_on_first : (mode : Bool) (q : ℕ) (text : List ℕ) → GoesOn mode q text 0
goes_on_first mode q text = (omega arith, omega arith)

escaped_next : (mode : Bool) (text : List ℕ) (at : ℕ) →
    is_escaped mode text (at + 1) ≡ (is_escape mode (get_or text at 0) && not (is_escaped mode text at))
escaped_next mode text at =
    let same : at + 1 ≡ suc at = omega arith in
    ap (is_escaped mode text) same

and_true : (b : Bool) → (b && true) ≡ b
and_true true = refl
and_true false = refl

and_false : (b : Bool) → (b && false) ≡ false
and_false true = refl
and_false false = refl

-- the byte after one that isn't escaped
escaped_after : (mode : Bool) (text : List ℕ) (at : ℕ) → is_escaped mode text at ≡ false →
    is_escaped mode text (at + 1) ≡ is_escape mode (get_or text at 0)
escaped_after mode text at e = escaped_next mode text at ∙ (ap (λ x. is_escape mode (get_or text at 0) && not x) e ∙ and_true _)

-- the byte after an escaped one
plain_after : (mode : Bool) (text : List ℕ) (at : ℕ) → is_escaped mode text at ≡ true →
    is_escaped mode text (at + 1) ≡ false
plain_after mode text at e = escaped_next mode text at ∙ (ap (λ x. is_escape mode (get_or text at 0) && not x) e ∙ and_false _)

-- past a byte that isn't the quote, or is escaped
pub goes_on_next : (mode : Bool) (q : ℕ) (text : List ℕ) (at : ℕ) → at < length text →
    (get_or text at 0 ≡ q → is_escaped mode text at ≡ true) → GoesOn mode q text at →
    GoesOn mode q text (at + 1)
goes_on_next mode q text at lt only h =
    let total = string_len mode q false text in
    elim (cases_Bool (is_escaped mode text at)) [
      | inl e ↦
          let here : at + string_len mode q true (drop at text) ≡ total = subst (λ x. at + string_len mode q x (drop at text) ≡ total) e h.1 in
          (omega arith, subst (λ x. at + 1 + string_len mode q x (drop (at + 1) text) ≡ total) (sym (plain_after mode text at e)) (string_skips mode q text at total lt here))
      | inr e ↦
          let here : at + string_len mode q false (drop at text) ≡ total = subst (λ x. at + string_len mode q x (drop at text) ≡ total) e h.1 in
          let other : get_or text at 0 ≢ q = λ same. true≢false (sym (only same) ∙ e) in
          (omega arith, subst (λ x. at + 1 + string_len mode q x (drop (at + 1) text) ≡ total) (sym (escaped_after mode text at e)) (string_goes_on mode q text at total lt other here))
    ]

run : (mode : Bool) (q : ℕ) (text : List ℕ) (n at : ℕ) → at + n ≤ length text →
    NoneCloses mode q text at (at + n) → GoesOn mode q text at → GoesOn mode q text (at + n)
run mode q text zero at le none h =
    let same : at ≡ at + 0 = omega arith in
    subst (GoesOn mode q text) same h
run mode q text (suc n) at le none h =
    let next = goes_on_next mode q text at (omega arith) (none at (omega arith) (omega arith)) h in
    let same : at + 1 + n ≡ at + suc n = omega arith in
    subst (GoesOn mode q text) same (run mode q text n (at + 1) (omega arith) (λ k low high. none k (omega arith) (omega arith)) next)

-- past bytes of which none closes the string
pub goes_on_to : (mode : Bool) (q : ℕ) (text : List ℕ) (at end : ℕ) → at ≤ end → end ≤ length text →
    NoneCloses mode q text at end → GoesOn mode q text at → GoesOn mode q text end
goes_on_to mode q text at end low high none h =
    let same : at + (end - at) ≡ end = omega arith in
    subst (GoesOn mode q text) same (run mode q text (end - at) at (omega arith) (λ k from to. none k from (omega arith)) h)

-- past bytes of which none is the quote
pub goes_on_to_quote : (mode : Bool) (q : ℕ) (text : List ℕ) (at end : ℕ) → IsNextQuote q text at end →
    GoesOn mode q text at → GoesOn mode q text end
goes_on_to_quote mode q text at end next h =
    goes_on_to mode q text at end next.in_range.0 next.in_range.1 (λ k low high same. absurd (next.none_before k low high same)) h

pub ends_open : (mode : Bool) (q : ℕ) (text : List ℕ) (at : ℕ) → GoesOn mode q text at →
    length text ≤ at → IsStringTail mode q (take at text) (drop at text)
ends_open mode q text at h le =
    let e = string_ends mode q (is_escaped mode text at) text at _ le h.0 h.1 in
    string_at mode q text at (omega (arith, h.0, le, e))

pub ends_closed : (mode : Bool) (q : ℕ) (text : List ℕ) (at : ℕ) → GoesOn mode q text at →
    at < length text → get_or text at 0 ≡ q → is_escaped mode text at ≡ false →
    IsStringTail mode q (take (at + 1) text) (drop (at + 1) text)
ends_closed mode q text at h lt same closes =
    let here = subst (λ x. at + string_len mode q x (drop at text) ≡ string_len mode q false text) closes h.1 in
    string_at mode q text (at + 1) (string_stops mode q text at _ lt same here)

-- ---- the escapes before a byte

-- the flag of a walk back: whether a byte is escaped as the first one looked at is, or the other way round
abbrev pub turned : Bool → Bool → Bool
turned true b = not b
turned false b = b

-- ---- a far quote

pub fails : (b : Bool) → (b ≡ true → ⊥) → b ≡ false
fails true n = absurd (n refl)
fails false n = refl

none_far : (q : ℕ) (text : List ℕ) (from n : ℕ) → Nowhere (Passes (is_byte q) (drop from text)) 0 n →
    (k : ℕ) → from ≤ k → k < from + n → get_or text k 0 ≢ q
none_far q text from n nowhere k low high same =
    let back : from + (k - from) ≡ k = omega arith in
    let at : get_or (drop from text) (k - from) 0 ≡ get_or text k 0 = get_or-drop from text (k - from) 0 ∙ ap (λ j. get_or text j 0) back in
    nowhere (k - from) (omega arith) (omega arith) (eq-eqb _ q (at ∙ same))

pub found_far : (q : ℕ) (text : List ℕ) (from far : ℕ) → from ≤ length text →
    NoneBefore (Passes (is_byte q) (drop from text)) 0 (length (drop from text)) far
    × Passes (is_byte q) (drop from text) far →
    IsNextQuote q text from (from + far)
found_far q text from far le found = record {
  in_range = (omega arith, omega (arith, found.0.high, length-drop from text));
  none_before = none_far q text from far found.0.before;
  found = λ lt. sym (get_or-drop from text far 0) ∙ eqb-true _ q found.1;
}

pub none_found : (q : ℕ) (text : List ℕ) (from : ℕ) → from ≤ length text →
    Nowhere (Passes (is_byte q) (drop from text)) 0 (length (drop from text)) →
    IsNextQuote q text from (length text)
none_found q text from le nowhere =
    let same : from + length (drop from text) ≡ length text = omega (arith, length-drop from text) in
    record {
      in_range = (le, omega arith);
      none_before = λ k low high. none_far q text from _ nowhere k low (omega (arith, same));
      found = λ lt. absurd (omega arith);
    }

-- ---- the quotes of a block

module _ (mode : Bool) (q : ℕ) (text : List ℕ) (from at end mask : ℕ) (le : at ≤ end) (room : end ≤ length text) (few : end - at ≤ 64)
    (is : IsMask (is_byte q) text at end mask) (none : NoneCloses mode q text from at) where
  -- the next quote, by the lowest bit
  abbrev pub next : ℕ
  next = at + count_trailing_zeros 64 mask

  pub next_quote : mask ≢ 0 → (next < end) × NoneCloses mode q text from next × (get_or text next 0 ≡ q)
  next_quote some =
      let low = lowest_bit (is_byte q) text at (end - at) mask (omega arith) few is some in (
        omega (arith, low.0),
        λ k first last same. elim (cases_lt k at) [
          | inl before ↦ none k first before same
          | inr after ↦ absurd (eqb-false (get_or text k 0) q (low.1 k after last) same)
        ],
        eqb-true (get_or text next 0) q low.2,
      )

  -- no quote is left
  pub none_left : mask ≡ 0 → NoneCloses mode q text from end
  none_left empty k first last same =
      elim (cases_lt k at) [
        | inl before ↦ none k first before same
        | inr after ↦ absurd (eqb-false (get_or text k 0) q (none_from_empty_mask (is_byte q) text at (end - at) 0 (omega arith) (sym is ∙ empty) k after (omega arith)) same)
      ]

-- past an escaped quote
pub none_past : (mode : Bool) (q : ℕ) (text : List ℕ) (from at : ℕ) → NoneCloses mode q text from at →
    is_escaped mode text at ≡ true → NoneCloses mode q text from (at + 1)
none_past mode q text from at none escapes k first last same =
    elim (cases_lt k at) [
      | inl before ↦ none k first before same
      | inr after ↦ let here : at ≡ k = omega arith in ap (is_escaped mode text) (sym here) ∙ escapes
    ]
