-- A text up to a word: the near bytes, one after another, and then a jump to the first place of the word.
use Rattle.std.specs.Prelude.{Option}
use Rattle.std.proofs.Common.{◌≡◌, ◌≢◌, ℕ, zero, suc, ◌+◌, ◌<◌, ◌≤◌, true, false, ne_eqb, eq-eqb, ◌==◌, subst, List, [], ◌∷◌, length, length-drop, length-append, length-take-le, take, drop, take-append-drop, get_or, Some, None, refl, sym, ap, ◌∙◌, inl, inr, arith, true≢false}
use Rattle.std.proofs.lemmas.List.{drop_more, drop_all}
use Rattle.std.proofs.lemmas.List.Prefix.{at_from_reads, at_reads}
use Rattle.std.proofs.lemmas.Bool.{cases_Bool, or_cases, or_parts, eqb-true, eqb-false, not-true, not-false}
use Rattle.memchr.specs.Find.{OccursAt, FindsNeedle, IsFirstByte, Passes, is_byte}
use Rattle.memchr.proofs.lemmas.FindLemmas.{IsFirst-wider, IsFirst-agree, OccursAt-byte, byte-OccursAt}
use Rattle.mysql_named_params.specs.Bytes.{asterisk, slash, IsUpTo}
use Rattle.mysql_named_params.specs.Lanes.{is_neither, EachPasses}
use Rattle.mysql_named_params.specs.TokensOf.{begins_with, len_up_to}
use Rattle.mysql_named_params.proofs.TokenEnds.{begins_with_front, word_begins, up_to_is}
use Rattle.mysql_named_params.proofs.TokenEndLemmas.{up_to_at}

-- ---- the near bytes

-- the word begins at no index before this one
abbrev pub IsNotReached : List ℕ → List ℕ → ℕ → Type 0
IsNotReached word text at = at + len_up_to word (drop at text) ≡ len_up_to word text

pub byte_here : (b : ℕ) (text : List ℕ) (at : ℕ) → at < length text → get_or text at 0 ≡ b →
    IsNotReached (b ∷ []) text at → IsUpTo (b ∷ []) (take (at + 1) text) (drop (at + 1) text)
byte_here b text at lt here inv =
    let begins : begins_with (b ∷ []) (get_or text at 0 ∷ drop (at + 1) text) ≡ true = rw (eq-eqb b (get_or text at 0) (sym here)) refl in
    let e : len_up_to (b ∷ []) (drop at text) ≡ 1 = rw (drop_more text at 0 lt, begins) refl in
    up_to_at (b ∷ []) text (at + 1) (omega arith) (omega arith)

pub byte_not_here : (b : ℕ) (text : List ℕ) (at : ℕ) → at < length text → get_or text at 0 ≢ b →
    IsNotReached (b ∷ []) text at → IsNotReached (b ∷ []) text (at + 1)
byte_not_here b text at lt other inv =
    let begins : begins_with (b ∷ []) (get_or text at 0 ∷ drop (at + 1) text) ≡ false = rw (ne_eqb b (get_or text at 0) (λ e. other (sym e))) refl in
    let e : len_up_to (b ∷ []) (drop at text) ≡ suc (len_up_to (b ∷ []) (drop (at + 1) text)) = rw (drop_more text at 0 lt, begins) refl in
    omega arith

-- the word begins nowhere
pub all_not_reached : (word text : List ℕ) (at : ℕ) → 0 < length word → at ≡ length text → IsNotReached word text at →
    IsUpTo word (take (length text) text) (drop (length text) text)
all_not_reached word text at some whole inv =
    let nothing : len_up_to word (drop at text) ≡ 0 = ap (len_up_to word) (drop_all at text (omega arith)) in
    up_to_at word text (length text) some (omega arith)

pub close_here : (text : List ℕ) (at : ℕ) → at + 1 < length text → get_or text at 0 ≡ asterisk →
    get_or text (at + 1) 0 ≡ slash → IsNotReached (asterisk ∷ slash ∷ []) text at →
    IsUpTo (asterisk ∷ slash ∷ []) (take (at + 2) text) (drop (at + 2) text)
close_here text at lt star here inv =
    let begins : begins_with (asterisk ∷ slash ∷ []) (get_or text at 0 ∷ get_or text (at + 1) 0 ∷ drop (at + 1 + 1) text) ≡ true = rw (star, here) refl in
    let cells : drop at text ≡ get_or text at 0 ∷ get_or text (at + 1) 0 ∷ drop (at + 1 + 1) text = drop_more text at 0 (omega arith) ∙ ap (λ x. get_or text at 0 ∷ x) (drop_more text (at + 1) 0 lt) in
    let e : len_up_to (asterisk ∷ slash ∷ []) (drop at text) ≡ 2 = rw (cells, begins) refl in
    up_to_at (asterisk ∷ slash ∷ []) text (at + 2) (omega arith) (omega arith)

pub step_over : (word text : List ℕ) (at : ℕ) → at < length text →
    begins_with word (get_or text at 0 ∷ drop (at + 1) text) ≡ false → IsNotReached word text at →
    IsNotReached word text (at + 1)
step_over word text at lt begins inv =
    let e : len_up_to word (drop at text) ≡ suc (len_up_to word (drop (at + 1) text)) = rw (drop_more text at 0 lt, begins) refl in
    omega arith

-- a byte with which the word doesn't begin
other_byte : (w : ℕ) (ws : List ℕ) (b : ℕ) (bs : List ℕ) → is_neither w w b ≡ true → begins_with (w ∷ ws) (b ∷ bs) ≡ false
other_byte w ws b bs n = rw (ne_eqb w b (λ e. eqb-false b w (or_parts (b == w) (b == w) (not-true _ n)).0 (sym e))) refl

-- a run of such bytes
pub run_over : (w : ℕ) (ws text : List ℕ) (at n : ℕ) → at + n ≤ length text → EachPasses (is_neither w w) text at (at + n) →
    IsNotReached (w ∷ ws) text at → IsNotReached (w ∷ ws) text (at + n)
run_over w ws text at zero le none inv =
    let same : at ≡ at + 0 = omega arith in
    subst (IsNotReached (w ∷ ws) text) same inv
run_over w ws text at (suc n) le none inv =
    let step = step_over (w ∷ ws) text at (omega arith) (other_byte w ws (get_or text at 0) (drop (at + 1) text) (none at (omega arith) (omega arith))) inv in
    let same : at + 1 + n ≡ at + suc n = omega arith in
    subst (IsNotReached (w ∷ ws) text) same (run_over w ws text (at + 1) n (omega arith) (λ k low high. none k (omega arith) (omega arith)) step)

-- the same from the front on
pub run_from_front : (w : ℕ) (ws text : List ℕ) (n : ℕ) → n ≤ length text → EachPasses (is_neither w w) text 0 n →
    IsNotReached (w ∷ ws) text n
run_from_front w ws text n le none =
    let same : 0 + n ≡ n = omega arith in
    let start : IsNotReached (w ∷ ws) text 0 = omega arith in
    subst (IsNotReached (w ∷ ws) text) same (run_over w ws text 0 n (omega arith) (λ k low high. none k low (omega arith)) start)

pub either_is : (w b : ℕ) → is_neither w w b ≡ false → b ≡ w
either_is w b h = elim (or_cases (b == w) (b == w) (not-false _ h)) [ inl e ↦ eqb-true b w e | inr e ↦ eqb-true b w e ]

-- a rest that is passed on as a slice
pub near_then_far : (word text rest : List ℕ) (near at n : ℕ) → 0 < length word → near ≡ at →
    rest ≡ drop near text → n ≤ length rest → IsNotReached word text at →
    IsUpTo word (take n rest) (drop n rest) → IsUpTo word (take (near + n) text) (drop (near + n) text)
near_then_far word text rest near at n some same rest_is high inv far =
    let counted : len_up_to word rest ≡ n = sym (ap (len_up_to word) (take-append-drop n rest)) ∙ (up_to_is word (take n rest) (drop n rest) (omega arith) far ∙ length-take-le n rest high) in
    let e : len_up_to word (drop at text) ≡ n = ap (λ i. len_up_to word (drop i text)) (sym same) ∙ (ap (len_up_to word) (sym rest_is) ∙ counted) in
    up_to_at word text (near + n) some (omega arith)

-- ---- the jump

begins_from_occurs : (text word : List ℕ) (k : ℕ) → OccursAt text word k →
    begins_with word (drop k text) ≡ true
begins_from_occurs text word k o = ap (begins_with word) (at_from_reads 0 text word k o.fits o.reads) ∙ begins_with_front word (drop (k + length word) text)

occurs_from_begins : (text word : List ℕ) (k : ℕ) → k ≤ length text →
    begins_with word (drop k text) ≡ true → OccursAt text word k
occurs_from_begins text word k le h =
    let r = word_begins word (drop k text) h in
    record {
      fits = omega (arith, ap length r.1, length-append word r.0, length-drop k text);
      reads = λ j lt. at_reads 0 text word k r.0 (sym r.1) j lt;
    }

-- if the word begins nowhere before
word_after : (word text : List ℕ) (k : ℕ) → k ≤ length text →
    ((j : ℕ) → j < k → begins_with word (drop j text) ≡ false) →
    k + len_up_to word (drop k text) ≡ len_up_to word text
word_after word text zero le none = omega arith
word_after word [] (suc k) le none = absurd (omega arith)
word_after word (b ∷ bs) (suc k) le none =
    let r = word_after word bs k (omega arith) (λ j lt. none (suc j) (omega arith)) in
    let here : begins_with word (b ∷ bs) ≡ false = none 0 (omega arith) in
    rw here (omega (arith, r))

not_begun : (text word : List ℕ) (j : ℕ) → j ≤ length text → (OccursAt text word j → ⊥) →
    begins_with word (drop j text) ≡ false
not_begun text word j le none =
    elim (cases_Bool (begins_with word (drop j text))) [
      | inl h ↦ absurd (none (occurs_from_begins text word j le h))
      | inr h ↦ h
    ]

len_at_word : (word text : List ℕ) → 0 < length word → begins_with word text ≡ true →
    len_up_to word text ≡ length word
len_at_word [] text some h = absurd (omega arith)
len_at_word (w ∷ ws) [] some h = absurd (true≢false (sym h))
len_at_word (w ∷ ws) (b ∷ bs) some h = rw h refl

pub word_found : (text word : List ℕ) (k : ℕ) → 0 < length word → FindsNeedle text word 0 (Some k) →
    IsUpTo word (take (k + length word) text) (drop (k + length word) text)
word_found text word k some f =
    let fits = f.1.fits in
    let after = word_after word text k (omega (arith, fits)) (λ j lt. not_begun text word j (omega (arith, fits)) (f.0.before j (omega arith) lt)) in
    let here = len_at_word word (drop k text) some (begins_from_occurs text word k f.1) in
    up_to_at word text (k + length word) some (omega (arith, after, here))

pub word_missing : (text word : List ℕ) → 0 < length word → FindsNeedle text word 0 None →
    IsUpTo word (take (length text) text) (drop (length text) text)
word_missing text word some f =
    let after = word_after word text (length text) (omega arith) (λ j lt. not_begun text word j (omega arith) (f j (omega arith) (omega arith))) in
    let nothing : len_up_to word (drop (length text) text) ≡ 0 = ap (len_up_to word) (drop_all (length text) text (omega arith)) in
    up_to_at word text (length text) some (omega (arith, after, nothing))

-- the first place of a byte is that of the word that has only this byte
finds_byte : (text : List ℕ) (b : ℕ) (r : Option ℕ) → IsFirstByte (is_byte b) text r →
    FindsNeedle text (b ∷ []) 0 r
finds_byte text b r h =
    IsFirst-wider (OccursAt text (b ∷ [])) 0 (length text) (length text + 1) (omega arith) (λ k o. omega (arith, o.fits)) r
    (IsFirst-agree (Passes (is_byte b) text) (OccursAt text (b ∷ [])) 0 (length text) (λ k l p. OccursAt-byte text (b ∷ []) refl k l p) (λ k l o. byte-OccursAt text (b ∷ []) refl k o) r h)

pub byte_found : (text : List ℕ) (b k : ℕ) → IsFirstByte (is_byte b) text (Some k) →
    IsUpTo (b ∷ []) (take (k + 1) text) (drop (k + 1) text)
byte_found text b k h = word_found text (b ∷ []) k (omega arith) (finds_byte text b (Some k) h)

pub byte_missing : (text : List ℕ) (b : ℕ) → IsFirstByte (is_byte b) text None →
    IsUpTo (b ∷ []) (take (length text) text) (drop (length text) text)
byte_missing text b h = word_missing text (b ∷ []) (omega arith) (finds_byte text b None h)
