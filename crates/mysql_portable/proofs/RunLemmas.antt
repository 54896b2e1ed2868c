-- A test of a text that a byte doesn't change gives the same answer after a run of such bytes.
use Rattle.std.specs.Prelude.{Bool}
use Rattle.std.proofs.Common.{not, ◌≡◌, ◌==◌, ◌&&◌, ◌||◌, true, ℕ, zero, suc, ◌+◌, ◌-◌, ◌≤◌, false, get_or, List, [], ◌∷◌, length, drop, refl, sym, ap, ◌∙◌, arith}
use Rattle.std.proofs.lemmas.List.{drop_more, at_drop_all}
use Rattle.std.proofs.lemmas.Bool.{or_parts, not-true}
use Rattle.std.specs.Str.{byte}
use Rattle.mysql_named_params.specs.Bytes.{asterisk, carriage_return, newline, slash}
use Rattle.mysql_named_params.specs.Lanes.{is_neither, EachPasses}
use Rattle.mysql_portable.specs.Server.{holds_return}
use Rattle.mysql_portable.specs.Client.{begins_opener, begins_end, holds_opener}
use Rattle.mysql_portable.specs.FoundInClient.{escapes_newline, begins_delimiter_line}

module _ (q : ℕ → Bool) (test : List ℕ → Bool) (passes : (b : ℕ) (bs : List ℕ) → q b ≡ true → test (b ∷ bs) ≡ test bs) where
  run : (text : List ℕ) (n from : ℕ) → from + n ≤ length text → EachPasses q text from (from + n) →
      test (drop (from + n) text) ≡ test (drop from text)
  run text zero from le each = let same : from + 0 ≡ from = omega arith in ap (λ i. test (drop i text)) same
  run text (suc n) from le each =
      let here = each from (omega arith) (omega arith) in
      let step : test (drop from text) ≡ test (drop (from + 1) text) = ap test (drop_more text from 0 (omega arith)) ∙ passes (get_or text from 0) (drop (from + 1) text) here in
      let same : from + suc n ≡ from + 1 + n = omega arith in
      ap (λ i. test (drop i text)) same ∙ (run text n (from + 1) (omega arith) (λ k low high. each k (omega arith) (omega arith)) ∙ sym step)

  pub to_stop : (text : List ℕ) (from to : ℕ) → (from ≤ to) × (to ≤ length text) → EachPasses q text from to →
      test (drop from text) ≡ test text → test (drop to text) ≡ test text
  to_stop text from to within each inv =
      let same : from + (to - from) ≡ to = omega (arith, within.0) in
      ap (λ i. test (drop i text)) (sym same) ∙ (run text (to - from) from (omega (arith, within.0, within.1)) (λ k low high. each k low (omega (arith, within.0))) ∙ inv)

  pub to_end : (text : List ℕ) (from to : ℕ) → (from ≤ to) × (to ≤ length text) → EachPasses q text from to →
      to ≡ length text → test [] ≡ false → test (drop from text) ≡ test text → false ≡ test text
  to_end text from to within each last nothing inv =
      sym nothing ∙ (sym (at_drop_all test text to (omega arith)) ∙ to_stop text from to within each inv)

  -- the test fails at a text of such bytes
  pub fails_at : test [] ≡ false → (text : List ℕ) → EachPasses q text 0 (length text) → test text ≡ false
  fails_at nothing text each =
      let low : 0 ≤ length text = omega arith in
      let high : length text ≤ length text = omega arith in
      sym (to_end text 0 (length text) (low, high) each refl nothing refl)

-- ---- bytes that a search passes

pub escapes_newline-passes : (b : ℕ) (bs : List ℕ) → is_neither (byte "\\") (byte "\\") b ≡ true → escapes_newline (b ∷ bs) ≡ escapes_newline bs
escapes_newline-passes b bs n = rw (or_parts (b == byte "\\") (b == byte "\\") (not-true _ n)).0 refl

pub begins_delimiter_line-passes : (b : ℕ) (bs : List ℕ) → is_neither newline newline b ≡ true → begins_delimiter_line (b ∷ bs) ≡ begins_delimiter_line bs
begins_delimiter_line-passes b bs n = rw (or_parts (b == newline) (b == newline) (not-true _ n)).0 refl

pub holds_return-passes : (b : ℕ) (bs : List ℕ) → is_neither newline carriage_return b ≡ true → holds_return (b ∷ bs) ≡ holds_return bs
holds_return-passes b bs n =
    let p = or_parts (b == newline) (b == carriage_return) (not-true _ n) in
    rw (p.0, p.1) refl

pub holds_opener-passes : (b : ℕ) (bs : List ℕ) → is_neither slash asterisk b ≡ true → holds_opener (b ∷ bs) ≡ holds_opener bs
holds_opener-passes b bs n =
    let p = or_parts (b == slash) (b == asterisk) (not-true _ n) in
    ap (λ x. x || (not (begins_end (b ∷ bs)) && holds_opener bs)) (no_opener b bs p.0) ∙ rw p.1 refl
  where
    no_opener : (b : ℕ) (bs : List ℕ) → (b == slash) ≡ false → begins_opener (b ∷ bs) ≡ false
    no_opener b [] e = refl
    no_opener b (c ∷ []) e = refl
    no_opener b (c ∷ d ∷ bs) e = rw e refl
